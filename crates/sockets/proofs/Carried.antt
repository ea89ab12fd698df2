-- What a port has carried, one stretch after another.
use Rattle.std.proofs.Common.{◌≡◌, ◌<◌, ◌+◌, ℕ, zero, suc, List, [], ◌∷◌, ◌++◌, Bool, true, refl, sym, ap, ◌∙◌, append_assoc}
use Rattle.std.proofs.Common.{Result, Ok, Err, OnOk, OnErr, arith, map}
use Rattle.std.proofs.lemmas.List.{append-nil}
use Rattle.std.proofs.lemmas.List.Sums.{sum_by-append}
use Rattle.std.proofs.lemmas.Grind.{flat_map-append}
use Rattle.std.proofs.lemmas.Bool.{lt-ltb}
use Rattle.journal.specs.Storing.{CountsFault, faults_max}
use Rattle.wire.specs.declared.out.Out.{Out}
use Rattle.sockets.specs.Carrying.{Fate, Sent, Lost, Sending, out_of, sent_if, sent_of, loss_of, losses_of, with_fault, counted, Carried}

pub counted-add : (count x y : ℕ) → counted count (x + y) ≡ counted (counted count x) y
counted-add count zero y = let none : 0 + y ≡ y = omega arith in ap (counted count) none
counted-add count (suc x) y =
    let next : suc x + y ≡ suc (x + y) = omega arith in
    ap (counted count) next ∙ counted-add (with_fault count) x y

-- where no more can be counted none is
pub counted-full : (faults : ℕ) → counted faults_max faults ≡ faults_max
counted-full zero = refl
counted-full (suc faults) = counted-full faults

pub counted-none : (count : ℕ) → counted count 0 ≡ count
counted-none count = refl

pub counted-one : (count : ℕ) → count < faults_max → counted count 1 ≡ count + 1
counted-one count below = rw (lt-ltb count faults_max below) refl

pub losses-append : (xs ys : List Sending) → losses_of (xs ++ ys) ≡ losses_of xs + losses_of ys
losses-append xs ys = sum_by-append (λ (sending : Sending). loss_of sending.fate) xs ys

pub sent-append : (xs ys : List Sending) → sent_of (xs ++ ys) ≡ sent_of xs ++ sent_of ys
sent-append xs ys = flat_map-append (λ (sending : Sending). sent_if sending.fate sending.out) xs ys

-- what became of a datagram that a port was handed
abbrev pub fate_of : {A F : Type 0} → Result A F → Fate
fate_of (Ok done) = Sent
fate_of (Err fault) = Lost

abbrev pub sending_of : {A F : Type 0} → Result A F → Out → Sending
sending_of result out = record { out = out; fate = fate_of result }

-- datagrams that were lost, all of them
abbrev pub all_lost : List Out → List Sending
all_lost [] = []
all_lost (out ∷ outs) = record { out = out; fate = Lost } ∷ all_lost outs

pub lost-outs : (outs : List Out) → map out_of (all_lost outs) ≡ outs
lost-outs [] = refl
lost-outs (out ∷ outs) = ap (λ (l : List Out). out ∷ l) (lost-outs outs)

lost-sent : (outs : List Out) → sent_of (all_lost outs) ≡ []
lost-sent [] = refl
lost-sent (out ∷ outs) = lost-sent outs

module _ {P : Type 0} (honest : Bool) (came : P → List (List ℕ)) (sent : P → List Out) (faults : P → ℕ) where
  pub carried_nothing : (a : P) → Carried honest came sent faults a a [] [] 0
  carried_nothing a = record {
    takes = λ h. sym (append-nil (came a));
    sends = λ h. sym (append-nil (sent a));
    counts = refl;
  }

  pub carried_then : (a b c : P) (heard more : List (List ℕ)) (sendings others : List Sending) (failures : ℕ)
      → Carried honest came sent faults a b heard sendings 0 → Carried honest came sent faults b c more others failures
      → Carried honest came sent faults a c (heard ++ more) (sendings ++ others) failures
  carried_then a b c heard more sendings others failures x y = record {
    takes = λ h. y.takes h ∙ ap (λ (l : List (List ℕ)). l ++ more) (x.takes h) ∙ append_assoc (came a) heard more;
    sends = λ h.
        y.sends h ∙ ap (λ (l : List Out). l ++ sent_of others) (x.sends h) ∙ append_assoc (sent a) (sent_of sendings) (sent_of others)
        ∙ ap (λ (l : List Out). sent a ++ l) (sym (sent-append sendings others));
    counts =
        let none : losses_of sendings + 0 ≡ losses_of sendings = omega arith in
        let all : losses_of sendings + (losses_of others + failures) ≡ losses_of (sendings ++ others) + failures =
        omega (arith, losses-append sendings others) in
        y.counts
        ∙ ap (λ (n : ℕ). counted n (losses_of others + failures)) (x.counts ∙ ap (counted (faults a)) none)
        ∙ sym (counted-add (faults a) (losses_of sendings) (losses_of others + failures))
        ∙ ap (counted (faults a)) all;
  }

  -- a datagram was handed to the port
  pub carried_one : {A F : Type 0} (a b : P) (out : Out) (result : Result A F) → faults a < faults_max
      → (honest ≡ true → OnOk result (sent b ≡ sent a ++ out ∷ [])) → (honest ≡ true → OnErr result (sent b ≡ sent a))
      → (honest ≡ true → came b ≡ came a) → CountsFault result (faults a) (faults b)
      → Carried honest came sent faults a b [] (sending_of result out ∷ []) 0
  carried_one a b out (Ok done) below ok err same counts = record {
    takes = λ h. same h ∙ sym (append-nil (came a));
    sends = ok;
    counts = counts;
  }
  carried_one a b out (Err fault) below ok err same counts = record {
    takes = λ h. same h ∙ sym (append-nil (came a));
    sends = λ h. err h ∙ sym (append-nil (sent a));
    counts = counts ∙ sym (counted-one (faults a) below);
  }

  -- no more was handed to the port, since it can count no more faults: all is lost
  pub carried_lost : (a : P) (outs : List Out) → faults a ≡ faults_max → Carried honest came sent faults a a [] (all_lost outs) 0
  carried_lost a outs full = record {
    takes = λ h. sym (append-nil (came a));
    sends = λ h. sym (ap (λ (l : List Out). sent a ++ l) (lost-sent outs) ∙ append-nil (sent a));
    counts =
        full ∙ sym (counted-full (losses_of (all_lost outs) + 0))
        ∙ ap (λ (n : ℕ). counted n (losses_of (all_lost outs) + 0)) (sym full);
  }
