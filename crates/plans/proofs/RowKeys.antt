-- Rows are numbered one after the other, by their keys.
use Rattle.std.proofs.Common.{◌≡◌, ◌≢◌, ℕ, ◌+◌, ◌<◌, Bool, true, false, ◌==◌, List, [], ◌∷◌, ◌++◌, get_or}
use Rattle.std.proofs.Common.{Some, slice_get, refl, sym, ap, ◌∙◌, arith, eqb-true}
use Rattle.std.proofs.lemmas.Bool.Decides.{nat_tests}
use Rattle.std.proofs.lemmas.List.{append_assoc, length_push, get_or_push, get_or_append_left}
use Rattle.rows.specs.declared.value.Value.{Value}
use Rattle.plans.specs.Inner.Blocks.{Extends}
use Rattle.plans.specs.Inner.Cells.{AreKeyed}
use Rattle.plans.proofs.Numbers.{get-more}

pub extends-more : (keys next after : List (List Value)) → Extends keys next → Extends next after → Extends keys after
extends-more keys next after first then =
    (first.0 ++ then.0, then.1 ∙ ap (λ front. front ++ then.0) first.1 ∙ append_assoc keys first.0 then.0)

-- a key keeps its place
known-more : (keys after : List (List Value)) (n : ℕ) (key : List Value) → Extends keys after → slice_get keys n ≡ Some key
    → slice_get after n ≡ Some key
known-more keys after n key extends known =
    ap (λ list. slice_get list n) extends.1 ∙ get-more keys extends.0 n key known

pub keyed-more : (keys after : List (List Value)) (key : ℕ → List Value) (count : ℕ) (numbers : List ℕ) (number : ℕ)
    → AreKeyed keys key count numbers → Extends keys after → slice_get after number ≡ Some (key count)
    → AreKeyed after key (count + 1) (numbers ++ number ∷ [])
keyed-more keys after key count numbers number keyed extends is = record {
  sizes = length_push numbers number ∙ ap (λ n. n + 1) keyed.sizes;
  each = λ i lt. by i lt (i == count) refl;
}
  where
    by : (i : ℕ) → i < count + 1 → (same : Bool) → (i == count) ≡ same
        → slice_get after (get_or (numbers ++ number ∷ []) i 0) ≡ Some (key i)
    by i lt true same =
        let at : i ≡ count = eqb-true i count same in
        ap (slice_get after) (get_or_push numbers number 0 i (keyed.sizes ∙ sym at)) ∙ is ∙ ap (λ n. Some (key n)) (sym at)
    by i lt false same =
        let apart : i ≢ count = grind (arith, nat_tests, same) in
        let below : i < count = omega (arith, lt, apart) in
        ap (slice_get after) (get_or_append_left numbers (number ∷ []) 0 i (omega (arith, below, keyed.sizes)))
        ∙ known-more keys after (get_or numbers i 0) (key i) extends (keyed.each i below)

-- the same keys
pub keyed-same : (keys : List (List Value)) (key same : ℕ → List Value) (count size : ℕ) (numbers : List ℕ)
    → AreKeyed keys key count numbers → ((i : ℕ) → key i ≡ same i) → count ≡ size → AreKeyed keys same size numbers
keyed-same keys key same count size numbers keyed are counts = record {
  sizes = keyed.sizes ∙ counts;
  each = λ i lt. keyed.each i (omega (arith, lt, counts)) ∙ ap Some (are i);
}
