-- What is kept of a plan by the numbers of its groups: each group of rows is the number of its values among keys.
use Rattle.std.specs.Prelude.{◌≡◌, ℕ, pos, ℤ, ◌+ℤ◌, ◌<◌, ◌≤◌, List, ◌++◌, [], ◌∷◌}
use Rattle.std.specs.Prelude.{length, map, Bool, true, Some, nat_lt, slice_get, slice_index_or, take, replicate, ◌-◌}
use Rattle.std.specs.Ordering.{is_eq}
use Rattle.plans.specs.Inner.Picked.{picked, folded, AreWithin}
use Rattle.plans.specs.Inner.Picked.{total as number_total}
use Rattle.rows.specs.declared.value.Value.{Value}
use Rattle.rows.specs.declared.value.Value.TheVariants.{Int}
use Rattle.queries.specs.declared.aggregate.Aggregate.{Aggregate}
use Rattle.queries.specs.declared.aggregate.Aggregate.TheVariants.{Count, Sum, Min, Max}
use Rattle.queries.specs.declared.column.Column.{Column}
use Rattle.queries.specs.declared.field.Field.{Field}
use Rattle.queries.specs.declared.field.Field.TheVariants.{Number, Absent}
use Rattle.plans.specs.declared.input.Input.{Input}
use Rattle.plans.specs.declared.input.Input.TheVariants as inputs
use Rattle.plans.specs.declared.tallies.Tally.{Tally}
use Rattle.plans.specs.declared.tallies.Tally.TheVariants as tallies
use Rattle.plans.specs.declared.tallies.Tallies.{Tallies}
use Rattle.queries.specs.Order.{group_cmp}
use Rattle.queries.specs.Answers.{JoinedRow, integer_of, total, lesser, greater, values_in, group_of, rows_in, aggregate_of}
use Rattle.plans.specs.Inner.Kept.{extreme}

-- rows have these numbers: each is the place of its group's values among the keys
abbrev pub AreNumbers : List (List Value) → List Column → List JoinedRow → List ℕ → Type 0
AreNumbers keys columns rows numbers = map (λ number. slice_get keys number) numbers ≡ map (λ row. Some (group_of columns row)) rows

-- no key is there twice
abbrev pub AreDistinct : List (List Value) → Type 0
AreDistinct keys =
    (i j : ℕ) (key other : List Value) → slice_get keys i ≡ Some key → slice_get keys j ≡ Some other
    → is_eq (group_cmp key other) ≡ true → i ≡ j

-- ---- what rows contribute to an aggregate

-- the integers of a column of rows
abbrev pub integers_in : Column → List JoinedRow → List ℤ
integers_in column rows = map integer_of (values_in column rows)

-- these are the values of rows that an aggregate takes
abbrev pub IsInput : List JoinedRow → Aggregate → Input → Type 0
IsInput rows Count input = Unit {0}
IsInput rows (Sum column) (inputs.Numbers numbers) = numbers.now ≡ integers_in column rows
IsInput rows (Min column) (inputs.Numbers numbers) = map Int numbers.now ≡ values_in column rows
IsInput rows (Min column) (inputs.Values values) = values.now ≡ values_in column rows
IsInput rows (Max column) (inputs.Numbers numbers) = map Int numbers.now ≡ values_in column rows
IsInput rows (Max column) (inputs.Values values) = values.now ≡ values_in column rows
IsInput rows aggregate input = ⊥

-- and so for each aggregate
abbrev pub AreInputs : List JoinedRow → List Aggregate → List Input → Type 0
AreInputs rows aggregates inputs =
    (k : ℕ) (d : Aggregate) (e : Input) → k < length aggregates → IsInput rows (slice_index_or aggregates k d) (slice_index_or inputs k e)

-- an input has so many values, of the kind that an aggregate takes
abbrev pub IsInputOf : ℕ → Aggregate → Input → Type 0
IsInputOf count Count input = Unit {0}
IsInputOf count (Sum column) (inputs.Numbers numbers) = count ≡ length numbers.now
IsInputOf count (Min column) (inputs.Numbers numbers) = count ≡ length numbers.now
IsInputOf count (Min column) (inputs.Values values) = count ≡ length values.now
IsInputOf count (Max column) (inputs.Numbers numbers) = count ≡ length numbers.now
IsInputOf count (Max column) (inputs.Values values) = count ≡ length values.now
IsInputOf count aggregate input = ⊥

pub record AreInputsOf (count : ℕ) (aggregates : List Aggregate) (inputs : List Input) : Type 0 where
  pub sizes : length inputs ≡ length aggregates
  pub each : (k : ℕ) (d : Aggregate) (e : Input) → k < length aggregates
      → IsInputOf count (slice_index_or aggregates k d) (slice_index_or inputs k e)

-- ---- what is kept of an aggregate

-- the sum of a column of rows
abbrev pub sum_of : Column → List JoinedRow → ℤ
sum_of column rows = total (integers_in column rows)

-- the rows of each key
abbrev pub by_keys : {X : Type 0} → List Column → List (List Value) → List JoinedRow → (List JoinedRow → X) → List X
by_keys columns keys rows told = map (λ key. told (rows_in columns key rows)) keys

-- what is kept of an aggregate is told of the rows of each key
abbrev pub IsTold : List Column → List (List Value) → List JoinedRow → Aggregate → Tally → Type 0
IsTold columns keys rows Count tallies.Count = Unit {0}
IsTold columns keys rows (Sum column) (tallies.Sums sums) = sums.items ≡ by_keys columns keys rows (sum_of column)
IsTold columns keys rows (Min column) (tallies.Fields fields) =
    fields.items ≡ by_keys columns keys rows (λ mine. aggregate_of mine (Min column))
IsTold columns keys rows (Max column) (tallies.Fields fields) =
    fields.items ≡ by_keys columns keys rows (λ mine. aggregate_of mine (Max column))
IsTold columns keys rows aggregate tally = ⊥

-- these are the tallies of rows, by the numbers of their groups among keys
pub record IsTallied (columns : List Column) (aggregates : List Aggregate) (keys : List (List Value)) (rows : List JoinedRow)
    (tallies : Tallies) : Type 0 where
  pub distinct : AreDistinct keys
  pub numbers : List ℕ
  pub numbered : AreNumbers keys columns rows numbers
  pub counts : tallies.counts.items ≡ by_keys columns keys rows length
  pub each : (k : ℕ) (d : Aggregate) (t : Tally) → k < length aggregates
      → IsTold columns keys rows (slice_index_or aggregates k d) (slice_index_or tallies.columns.items k t)

-- what is kept of an aggregate has so many places, and sums of at most so many numbers
abbrev pub IsColumn : ℕ → ℕ → Aggregate → Tally → Type 0
IsColumn places count Count tallies.Count = Unit {0}
IsColumn places count (Sum column) (tallies.Sums sums) = (length sums.items ≡ places) × AreWithin count sums.items
IsColumn places count (Min column) (tallies.Fields fields) = length fields.items ≡ places
IsColumn places count (Max column) (tallies.Fields fields) = length fields.items ≡ places
IsColumn places count aggregate tally = ⊥

-- and so for each aggregate
pub record IsShaped (places count : ℕ) (aggregates : List Aggregate) (tallies : Tallies) : Type 0 where
  pub counts : length tallies.counts.items ≡ places
  pub within : (n : ℕ) (d : ℕ) → n < places → slice_index_or tallies.counts.items n d ≤ count
  pub sizes : length tallies.columns.items ≡ length aggregates
  pub each : (k : ℕ) (d : Aggregate) (t : Tally) → k < length aggregates
      → IsColumn places count (slice_index_or aggregates k d) (slice_index_or tallies.columns.items k t)

-- places for so many keys; the new ones have no rows
abbrev pub IsResized : ℕ → Tally → Tally → Type 0
IsResized keys tallies.Count tallies.Count = Unit {0}
IsResized keys (tallies.Sums sums) (tallies.Sums after) =
    after.items ≡ take keys sums.items ++ replicate (keys - length sums.items) (pos 0)
IsResized keys (tallies.Fields fields) (tallies.Fields after) =
    after.items ≡ take keys fields.items ++ replicate (keys - length fields.items) Absent
IsResized keys tally after = ⊥

-- ---- a block of rows more

-- an extreme with one value more
abbrev pub with_extreme : Aggregate → Field → Value → Field
with_extreme Count field value = field
with_extreme (Sum column) field value = field
with_extreme (Min column) field value = extreme lesser field value
with_extreme (Max column) field value = extreme greater field value

-- fields are extremes with the values of the rows of each number more
abbrev pub HasExtremes : Aggregate → List ℕ → List Value → List Field → List Field → Type 0
HasExtremes aggregate numbers values fields after =
    (length after ≡ length fields) × ((n : ℕ) (d : Field) → n < length fields
    → slice_index_or after n d ≡ folded (with_extreme aggregate) (slice_index_or fields n d) (picked n numbers values))

-- the values of the rows of each number are added
abbrev pub IsGrown : List ℕ → Aggregate → Input → Tally → Tally → Type 0
IsGrown numbers Count input tallies.Count tallies.Count = Unit {0}
IsGrown numbers (Sum column) (inputs.Numbers values) (tallies.Sums sums) (tallies.Sums after) =
    (length after.items ≡ length sums.items) × ((n : ℕ) (d : ℤ) → n < length sums.items
    → slice_index_or after.items n d ≡ slice_index_or sums.items n d +ℤ number_total (picked n numbers values.now))
IsGrown numbers (Min column) (inputs.Numbers values) (tallies.Fields fields) (tallies.Fields after) =
    HasExtremes (Min column) numbers (map Int values.now) fields.items after.items
IsGrown numbers (Min column) (inputs.Values values) (tallies.Fields fields) (tallies.Fields after) =
    HasExtremes (Min column) numbers values.now fields.items after.items
IsGrown numbers (Max column) (inputs.Numbers values) (tallies.Fields fields) (tallies.Fields after) =
    HasExtremes (Max column) numbers (map Int values.now) fields.items after.items
IsGrown numbers (Max column) (inputs.Values values) (tallies.Fields fields) (tallies.Fields after) =
    HasExtremes (Max column) numbers values.now fields.items after.items
IsGrown numbers aggregate input tally after = ⊥

-- ---- what is told of a number

abbrev pub field_at : ℕ → ℕ → Tally → Field
field_at count number tallies.Count = Number (pos count)
field_at count number (tallies.Sums sums) = Number (slice_index_or sums.items number (pos 0))
field_at count number (tallies.Fields fields) = slice_index_or fields.items number Absent

-- whether a number with so many rows is a group: without columns to group by there is one, even of no rows
abbrev pub is_told : List Column → ℕ → Bool
is_told [] count = true
is_told (column ∷ columns) count = nat_lt 0 count
