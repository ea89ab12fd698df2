-- Names and tables, one beside the other.
use Rattle.std.proofs.Common.{◌≡◌, ℕ, zero, suc, ◌+◌, List, [], ◌∷◌, ◌++◌, map, drop, None, Some, slice_get, refl, sym, ap, ◌∙◌, arith}
use Rattle.std.proofs.Common.{append_assoc}
use Rattle.std.specs.List.{zip}
use Rattle.std.proofs.lemmas.List.{append-nil, drop_all, drop_more, map-append}
use Rattle.std.proofs.lemmas.Option.{slice_get_within, get_or_from_slice_get}

-- what stands from an index on, where one stands there, and where none does
from-index : {X : Type 0} (xs : List X) (i : ℕ) (x : X) → slice_get xs i ≡ Some x → drop i xs ≡ x ∷ drop (i + 1) xs
from-index xs i x e =
    drop_more xs i x (slice_get_within xs i x e) ∙ ap (λ y. y ∷ drop (i + 1) xs) (get_or_from_slice_get xs i x x e)

from-end : {X : Type 0} (xs : List X) (i : ℕ) → slice_get xs i ≡ None → drop i xs ≡ []
from-end [] i e = drop_all i [] (omega arith)
from-end (x ∷ xs) zero e = cc
from-end (x ∷ xs) (suc i) e = from-end xs i e

zip-none : {A B : Type 0} (names : List A) (kinds : List B) → kinds ≡ [] → zip names kinds ≡ []
zip-none [] kinds e = refl
zip-none (name ∷ names) [] e = refl
zip-none (name ∷ names) (kind ∷ kinds) e = cc

module _ {P A B : Type 0} (f : P → A × B) (names : List A) (kinds : List B) (whole : List (A × B)) where
  -- these parts, and what stands from an index on, are all
  abbrev AreSoFar : List P → ℕ → Type 0
  AreSoFar parts i = map f parts ++ zip (drop i names) (drop i kinds) ≡ whole

  -- one part more
  pub part-more : (parts after : List P) (part : P) (i : ℕ) → after ≡ parts ++ part ∷ [] → slice_get names i ≡ Some (f part).0
      → slice_get kinds i ≡ Some (f part).1 → AreSoFar parts i → AreSoFar after (i + 1)
  part-more parts after part i adds name kind are =
      let rest : List (A × B) = zip (drop (i + 1) names) (drop (i + 1) kinds) in
      ap (λ l. map f l ++ rest) adds
      ∙ ap (λ l. l ++ rest) (map-append f parts (part ∷ []))
      ∙ append_assoc (map f parts) (f part ∷ []) rest
      ∙ ap (λ l. map f parts ++ l) (sym (λ k. zip (from-index names i (f part).0 name k) (from-index kinds i (f part).1 kind k)))
      ∙ are

  -- where no kinds are left
  pub kinds-all : (parts : List P) (i : ℕ) → slice_get kinds i ≡ None → AreSoFar parts i → map f parts ≡ whole
  kinds-all parts i none are =
      sym (append-nil (map f parts))
      ∙ ap (λ l. map f parts ++ l) (sym (zip-none (drop i names) (drop i kinds) (from-end kinds i none)))
      ∙ are
