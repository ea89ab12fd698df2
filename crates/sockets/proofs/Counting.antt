-- What a node has counted, one stretch after another.
use Rattle.std.proofs.Common.{◌≡◌, ◌+◌, ℕ, List, ◌++◌, length, sym, ap, ◌∙◌, length-append}
use Rattle.std.proofs.lemmas.List.Sums.{sum_by-append}
use Rattle.std.proofs.lemmas.Grind.{flat_map-append}
use Rattle.std.specs.List.{sum_by}
use Rattle.sockets.specs.declared.traffic.Traffic.{Traffic}
use Rattle.sockets.specs.Carrying.{Sending, losses_of, counted}
use Rattle.sockets.specs.Serving.{Act, heard_in, sendings_in}
use Rattle.sockets.specs.Traffic.{with_more}
use Rattle.sockets.proofs.Carried.{counted-add, losses-append}

-- equal counts are equal traffic
pub with_more-same : (t : Traffic) (a b c a' b' c' : ℕ) (s s' : List Sending) → a ≡ a' → b ≡ b' → c ≡ c' → s ≡ s'
    → with_more t a b c s ≡ with_more t a' b' c' s'
with_more-same t a b c a' b' c' s s' one two three four = λ i. with_more t (one i) (two i) (three i) (four i)

-- more, and then more
pub with_more-then : (t : Traffic) (a b c a' b' c' : ℕ) (s s' : List Sending)
    → with_more (with_more t a b c s) a' b' c' s' ≡ with_more t (a + a') (b + b') (c + c') (s ++ s')
with_more-then t a b c a' b' c' s s' =
    let received = sym (counted-add t.received a a') in
    let stored = sym (counted-add t.stored b b') in
    let ignored = sym (counted-add t.ignored c c') in
    let sent = sym (counted-add t.sent (length s) (length s')) ∙ ap (counted t.sent) (sym (length-append s s')) in
    let lost = sym (counted-add t.lost (losses_of s) (losses_of s')) ∙ ap (counted t.lost) (sym (losses-append s s')) in
    λ i. record { received = received i; stored = stored i; ignored = ignored i; sent = sent i; lost = lost i }

module _ {C : Type 0} (hears : C → List (List ℕ)) where
  pub heard-append : (xs ys : List (Act C))
      → length (heard_in hears xs) + length (heard_in hears ys) ≡ length (heard_in hears (xs ++ ys))
  heard-append xs ys =
      sym (ap length (flat_map-append (λ (act : Act C). hears act.call) xs ys) ∙ length-append (heard_in hears xs) (heard_in hears ys))

pub sendings-append : {C : Type 0} (xs ys : List (Act C)) → sendings_in xs ++ sendings_in ys ≡ sendings_in (xs ++ ys)
sendings-append {C} xs ys = sym (flat_map-append (λ (act : Act C). act.sendings) xs ys)

-- what each call counts for, over all acts
pub sums-append : {C : Type 0} (count : C → ℕ) (xs ys : List (Act C))
    → sum_by (λ (act : Act C). count act.call) xs + sum_by (λ (act : Act C). count act.call) ys
    ≡ sum_by (λ (act : Act C). count act.call) (xs ++ ys)
sums-append {C} count xs ys = sym (sum_by-append (λ (act : Act C). count act.call) xs ys)
