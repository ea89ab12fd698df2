-- Aggregates with one row more.
use Rattle.std.proofs.Common.{◌≡◌, ℕ, zero, suc, ◌+◌, ◌<◌, ◌≤◌, ℤ, pos, ◌+ℤ◌, Bool, true, false, cond, List, [], ◌∷◌, ◌++◌, length, map}
use Rattle.std.proofs.Common.{take, drop, set, get_or, Option, None, Some, slice_get, Less, Equal, Greater}
use Rattle.std.proofs.Common.{refl, sym, ap, subst, ◌∙◌, ◌≢◌, arith, append_assoc}
use Rattle.std.specs.Cmp.{IsTotalOrder}
use Rattle.std.specs.List.{All, AllByRecursion}
use Rattle.std.specs.Ordering.{is_gt, ordering_reverse}
use Rattle.std.specs.declared.cmp.Ordering.{Ordering}
use Rattle.std.proofs.lemmas.Cmp.{upto, back_total}
use Rattle.std.proofs.lemmas.Int.{ints}
use Rattle.std.proofs.lemmas.List.{length_push, length-set, get_or-set_other, map_push, take_more_set, drop-set-lt, drop_more, take_all}
use Rattle.std.proofs.lemmas.List.{drop_all}
use Rattle.std.proofs.lemmas.List.Elements.{All-weaker}
use Rattle.std.proofs.lemmas.Option.{slice_get_within, get_or_from_slice_get}
use Rattle.std.proofs.lemmas.Bool.{cond-true, cond-false}
use Rattle.rows.specs.declared.value.Value.{Value}
use Rattle.queries.specs.declared.aggregate.Aggregate.{Aggregate}
use Rattle.queries.specs.declared.aggregate.Aggregate.TheVariants.{Count, Sum, Min, Max}
use Rattle.queries.specs.declared.field.Field.{Field}
use Rattle.queries.specs.declared.field.Field.TheVariants.{Stored, Number, Absent}
use Rattle.queries.specs.declared.column.Column.{Column}
use Rattle.queries.specs.Answers.{JoinedRow, joined_value, values_in, integer_of, total, lesser, greater, beside, best, field_of}
use Rattle.queries.specs.Answers.{aggregate_of}
use Rattle.plans.specs.Inner.Kept.{grown, grown_all, extreme, input_of, HasInput, IsWithin}
use Rattle.plans.specs.Inner.TotalOrder.{value_cmp_total}

-- ---- the definition of an aggregate

pub total-append : (numbers others : List ℤ) → total (numbers ++ others) ≡ total numbers +ℤ total others
total-append [] others = omega (arith, ints)
total-append (number ∷ numbers) others = let rest = total-append numbers others in omega (arith, ints, rest)

total-push : (numbers : List ℤ) (number : ℤ) → total (numbers ++ number ∷ []) ≡ total numbers +ℤ number
total-push numbers number = let all = total-append numbers (number ∷ []) in omega (arith, ints, all)

-- whichever of three values are looked at first, the same is picked
module _ {R : Value → Value → Ordering} (o : IsTotalOrder R) where
  abbrev pub pick : Value → Value → Value
  pick value other = cond (is_gt (R value other)) other value

  is_Greater : (r : Ordering) → is_gt r ≡ true → r ≡ Greater
  is_Greater Less e = cc
  is_Greater Equal e = cc
  is_Greater Greater e = refl

  below : (x y : Value) → is_gt (R x y) ≡ true → R y x ≡ Less
  below x y e = o.antisymm y x ∙ ap ordering_reverse (is_Greater (R x y) e)

  is_gt-trans : (x y z : Value) → is_gt (R x y) ≡ true → is_gt (R y z) ≡ true → is_gt (R x z) ≡ true
  is_gt-trans x y z p q = ap is_gt (o.antisymm x z ∙ ap ordering_reverse (o.trans z y x (below y z q) (below x y p)))

  pick-assoc : (x y z : Value) → pick x (pick y z) ≡ pick (pick x y) z
  pick-assoc x y z = by (is_gt (R x y)) (is_gt (R y z)) refl refl
    where
      by : (a b : Bool) → is_gt (R x y) ≡ a → is_gt (R y z) ≡ b → pick x (cond b z y) ≡ pick (cond a y x) z
      by true true p q = cond-true (is_gt (R x z)) z x (is_gt-trans x y z p q) ∙ sym (cond-true (is_gt (R y z)) z y q)
      by true false p q = cond-true (is_gt (R x y)) y x p ∙ sym (cond-false (is_gt (R y z)) z y q)
      by false true p q = refl
      by false false p q = cond-false (is_gt (R x y)) y x p ∙ sym (cond-false (is_gt (R x z)) z x (upto o x y z p q))

-- the better of two values that there may be none of
module _ (better : Value → Value → Value) where
  abbrev pub better_found : Option Value → Option Value → Option Value
  better_found None other = other
  better_found (Some value) None = Some value
  better_found (Some value) (Some other) = Some (better value other)

  beside-found : (value : Value) (other : Option Value) → Some (beside better value other) ≡ better_found (Some value) other
  beside-found value None = refl
  beside-found value (Some other) = refl

module _ (better : Value → Value → Value) (assoc : (x y z : Value) → better x (better y z) ≡ better (better x y) z) where
  pub better_found-assoc : (a b c : Option Value)
      → better_found better a (better_found better b c) ≡ better_found better (better_found better a b) c
  better_found-assoc None b c = refl
  better_found-assoc (Some a) None c = refl
  better_found-assoc (Some a) (Some b) None = refl
  better_found-assoc (Some a) (Some b) (Some c) = ap Some (assoc a b c)

  pub best-append : (values others : List Value)
      → best better (values ++ others) ≡ better_found better (best better values) (best better others)
  best-append [] others = refl
  best-append (value ∷ values) others =
      beside-found better value (best better (values ++ others)) ∙ ap (better_found better (Some value)) (best-append values others)
      ∙ better_found-assoc (Some value) (best better values) (best better others)
      ∙ ap (λ found. better_found better found (best better others)) (sym (beside-found better value (best better values)))

  extreme-push : (values : List Value) (value : Value)
      → field_of (best better (values ++ value ∷ [])) ≡ extreme better (field_of (best better values)) value
  extreme-push values value = ap field_of (best-append values (value ∷ [])) ∙ by (best better values)
    where
      by : (held : Option Value) → field_of (better_found better held (Some value)) ≡ extreme better (field_of held) value
      by None = refl
      by (Some held) = refl

pub lesser-assoc : (x y z : Value) → lesser x (lesser y z) ≡ lesser (lesser x y) z
lesser-assoc = pick-assoc value_cmp_total

pub greater-assoc : (x y z : Value) → greater x (greater y z) ≡ greater (greater x y) z
greater-assoc = pick-assoc (back_total value_cmp_total)

values_in-push : (column : Column) (rows : List JoinedRow) (row : JoinedRow)
    → values_in column (rows ++ row ∷ []) ≡ values_in column rows ++ joined_value row column ∷ []
values_in-push column rows row = map_push (λ row. joined_value row column) rows row

pub aggregate_of-push : (rows : List JoinedRow) (row : JoinedRow) (aggregate : Aggregate)
    → aggregate_of (rows ++ row ∷ []) aggregate ≡ grown aggregate (aggregate_of rows aggregate) (input_of row aggregate)
aggregate_of-push rows row Count = ap (λ n. Number (pos n)) (length_push rows row)
aggregate_of-push rows row (Sum column) =
    ap (λ values. Number (total (map integer_of values))) (values_in-push column rows row)
    ∙ ap (λ numbers. Number (total numbers)) (map_push integer_of (values_in column rows) (joined_value row column))
    ∙ ap Number (total-push (map integer_of (values_in column rows)) (integer_of (joined_value row column)))
aggregate_of-push rows row (Min column) =
    ap (λ values. field_of (best lesser values)) (values_in-push column rows row)
    ∙ extreme-push lesser lesser-assoc (values_in column rows) (joined_value row column)
aggregate_of-push rows row (Max column) =
    ap (λ values. field_of (best greater values)) (values_in-push column rows row)
    ∙ extreme-push greater greater-assoc (values_in column rows) (joined_value row column)

pub grown_all-push : (rows : List JoinedRow) (row : JoinedRow) (aggregates : List Aggregate)
    → map (aggregate_of (rows ++ row ∷ [])) aggregates ≡ grown_all row aggregates (map (aggregate_of rows) aggregates)
grown_all-push rows row [] = refl
grown_all-push rows row (aggregate ∷ aggregates) =
    let first = aggregate_of-push rows row aggregate in
    let rest = grown_all-push rows row aggregates in
    λ i. first i ∷ rest i

-- ---- the fields in their order

grown_all-nil : (row : JoinedRow) (aggregates : List Aggregate) → grown_all row aggregates [] ≡ []
grown_all-nil row [] = refl
grown_all-nil row (aggregate ∷ aggregates) = refl

-- the field of an aggregate has grown
pub grow-more : (row : JoinedRow) (aggregates : List Aggregate) (fields after : List Field) (i : ℕ) (d : Aggregate) (field result : Field)
    (value : Value)
    → i < length aggregates → slice_get fields i ≡ Some field → value ≡ input_of row (get_or aggregates i d)
    → result ≡ grown (get_or aggregates i d) field value → after ≡ set fields i result
    → take (i + 1) after ++ grown_all row (drop (i + 1) aggregates) (drop (i + 1) after)
    ≡ take i fields ++ grown_all row (drop i aggregates) (drop i fields)
grow-more row aggregates fields after i d field result value lt there takes grows puts =
    let within : i < length fields = slice_get_within fields i field there in
    let front : take (i + 1) after ≡ take i fields ++ result ∷ [] = ap (take (i + 1)) puts ∙ take_more_set fields i result within in
    let behind : drop (i + 1) after ≡ drop (i + 1) fields =
    ap (drop (i + 1)) puts ∙ drop-set-lt (i + 1) fields i result (omega arith) in
    let held : drop i fields ≡ field ∷ drop (i + 1) fields =
    drop_more fields i field within ∙ ap (λ f. f ∷ drop (i + 1) fields) (get_or_from_slice_get fields i field field there) in
    let new : result ≡ grown (get_or aggregates i d) field (input_of row (get_or aggregates i d)) =
    grows ∙ ap (grown (get_or aggregates i d) field) takes in
    let rest = grown_all row (drop (i + 1) aggregates) (drop (i + 1) fields) in
    (λ j. front j ++ grown_all row (drop (i + 1) aggregates) (behind j))
    ∙ append_assoc (take i fields) (result ∷ []) rest
    ∙ ap (λ f. take i fields ++ f ∷ rest) new
    ∙ (λ j. take i fields ++ grown_all row (sym (drop_more aggregates i d lt) j) (sym held j))

-- the aggregates that are left
pub inputs-left : (row : JoinedRow) (aggregates : List Aggregate) (i : ℕ) → i < length aggregates
    → AllByRecursion (HasInput row) (drop i aggregates) → AllByRecursion (HasInput row) (drop (i + 1) aggregates)
inputs-left row aggregates i lt all = (subst (AllByRecursion (HasInput row)) (drop_more aggregates i Count lt) all).1

-- the fields that are still to grow
pub rest-left : (rows : ℕ) (fields after : List Field) (i : ℕ) (result : Field) → after ≡ set fields i result
    → ((k : ℕ) (d : Field) → i ≤ k → k < length fields → IsWithin rows (get_or fields k d))
    → (k : ℕ) (d : Field) → i + 1 ≤ k → k < length after → IsWithin rows (get_or after k d)
rest-left rows fields after i result puts rest k d le lt =
    let other : k ≢ i = omega arith in
    let size : length after ≡ length fields = ap length puts ∙ length-set fields i result in
    let same : get_or after k d ≡ get_or fields k d = ap (λ list. get_or list k d) puts ∙ get_or-set_other fields i k result d other in
    subst (IsWithin rows) (sym same) (rest k d (omega arith) (omega arith))

pub past : (fields : List Field) (i : ℕ) → slice_get fields i ≡ None → length fields ≤ i
past [] i e = omega arith
past (field ∷ fields) zero e = cc
past (field ∷ fields) (suc i) e = let le = past fields i e in omega (arith, le)

-- there is no field for an aggregate
pub grow-past : (row : JoinedRow) (aggregates : List Aggregate) (fields : List Field) (i : ℕ) → slice_get fields i ≡ None
    → take (i + 1) fields ++ grown_all row (drop (i + 1) aggregates) (drop (i + 1) fields)
    ≡ take i fields ++ grown_all row (drop i aggregates) (drop i fields)
grow-past row aggregates fields i e =
    let le : length fields ≤ i = past fields i e in
    (λ j. take_all (i + 1) fields (omega arith) j ++ grown_all row (drop (i + 1) aggregates) (drop_all (i + 1) fields (omega arith) j))
    ∙ ap (λ rest. fields ++ rest) (grown_all-nil row (drop (i + 1) aggregates) ∙ sym (grown_all-nil row (drop i aggregates)))
    ∙ sym (λ j. take_all i fields le j ++ grown_all row (drop i aggregates) (drop_all i fields le j))

-- ---- numbers that fit

pub IsWithin-more : (rows : ℕ) (field : Field) → IsWithin rows field → IsWithin (rows + 1) field
IsWithin-more rows (Stored value) within = tt
IsWithin-more rows (Number number) within = let low = within.0 in let high = within.1 in (omega (arith, ints), omega (arith, ints))
IsWithin-more rows Absent within = tt

pub All-IsWithin-more : (rows : ℕ) (fields : List Field) → All (IsWithin rows) fields → All (IsWithin (rows + 1)) fields
All-IsWithin-more rows fields within = All-weaker (IsWithin rows) (IsWithin (rows + 1)) (IsWithin-more rows) fields within
