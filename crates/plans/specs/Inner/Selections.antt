-- What a plan takes of rows: those that meet its conditions.
use Rattle.std.specs.Prelude.{◌≡◌, ℕ, ◌<◌, List, [], length, map, Option, None, Some, IfSome, slice_index_or}
use Rattle.rows.specs.declared.value.Value.{Value}
use Rattle.queries.specs.declared.aggregate.Aggregate.{Aggregate}
use Rattle.queries.specs.declared.aggregate.Aggregate.TheVariants.{Count, Sum, Min, Max}
use Rattle.plans.specs.declared.cells.Cells.{Cells}
use Rattle.queries.specs.declared.column.Column.{Column}
use Rattle.queries.specs.declared.condition.Condition.{Condition}
use Rattle.plans.specs.declared.held_input.HeldInput.{HeldInput}
use Rattle.plans.specs.declared.input.Input.{Input}
use Rattle.queries.specs.Answers.{JoinedRow, values_in}
use Rattle.plans.specs.Inner.Cells.{values_at}
use Rattle.plans.specs.Inner.Held.{IsHeld, IsTaken}

-- the row at a position
abbrev pub joined_at : List JoinedRow → ℕ → JoinedRow
joined_at rows position = slice_index_or rows position (record { own = []; joined = [] })

-- the columns that conditions are on
abbrev pub columns_of : List Condition → List Column
columns_of conditions = map (λ (condition : Condition). condition.column) conditions

-- ---- what rows contribute to aggregates

-- the column of which an aggregate takes values
abbrev pub column_taken : Aggregate → Option Column
column_taken Count = None
column_taken (Sum column) = Some column
column_taken (Min column) = Some column
column_taken (Max column) = Some column

-- the values that aggregates take, by their places in a list
abbrev pub ValuesBy : Type 0
ValuesBy = ℕ → List Value

-- what is held is what each takes
pub record AreHeldBy (values : ValuesBy) (aggregates : List Aggregate) (held : List HeldInput) : Type 0 where
  pub sizes : length held ≡ length aggregates
  pub each : (k : ℕ) (d : Aggregate) (e : HeldInput) → k < length aggregates
      → IsHeld (values k) (slice_index_or aggregates k d) (slice_index_or held k e)

-- and what is lent of it
pub record AreTakenBy (values : ValuesBy) (aggregates : List Aggregate) (inputs : List Input) : Type 0 where
  pub sizes : length inputs ≡ length aggregates
  pub each : (k : ℕ) (d : Aggregate) (e : Input) → k < length aggregates
      → IsTaken (values k) (slice_index_or aggregates k d) (slice_index_or inputs k e)

-- there are so many values for each aggregate that takes some
abbrev pub AreSized : ValuesBy → List Aggregate → ℕ → Type 0
AreSized values aggregates count =
    (k : ℕ) (d : Aggregate) → k < length aggregates
    → IfSome (column_taken (slice_index_or aggregates k d)) (λ column. length (values k) ≡ count)

-- they are those of rows
abbrev pub AreValuesOf : ValuesBy → List Aggregate → List JoinedRow → Type 0
AreValuesOf values aggregates rows =
    (k : ℕ) (d : Aggregate) → k < length aggregates
    → IfSome (column_taken (slice_index_or aggregates k d)) (λ column. values k ≡ values_in column rows)

-- what is held is what each takes of some values, of so many rows
pub record AreHeld (aggregates : List Aggregate) (count : ℕ) (held : List HeldInput) : Type 0 where
  pub values : ValuesBy
  pub are : AreHeldBy values aggregates held
  pub sized : AreSized values aggregates count

-- the column of an aggregate is at a place among columns of so many rows
abbrev pub IsInputAt : List Cells → ℕ → ℕ → Aggregate → Type 0
IsInputAt columns place count aggregate =
    IfSome (column_taken aggregate) (λ column. (place < length columns) × (length (values_at columns place) ≡ count))

-- and so for each aggregate
pub record HaveInputs (columns : List Cells) (places : List ℕ) (count : ℕ) (aggregates : List Aggregate) : Type 0 where
  pub sizes : length places ≡ length aggregates
  pub each : (k : ℕ) (d : Aggregate) → k < length aggregates
      → IsInputAt columns (slice_index_or places k 0) count (slice_index_or aggregates k d)

-- the values of the columns at these places
abbrev pub values_by : List Cells → List ℕ → ValuesBy
values_by columns places k = values_at columns (slice_index_or places k 0)
