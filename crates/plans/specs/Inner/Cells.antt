-- The values of one column of some rows; which of them pass a condition; and the keys of rows by such columns.
use Rattle.std.specs.Prelude.{◌≡◌, ℕ, pos, ◌<◌, List, [], map, length, Bool, Some, slice_get, slice_index_or}
use Rattle.std.specs.Option.{option_map_or}
use Rattle.rows.specs.declared.value.Value.{Value}
use Rattle.rows.specs.declared.value.Value.TheVariants.{Int}
use Rattle.plans.specs.declared.cells.Cells.{Cells}
use Rattle.plans.specs.declared.cells.Cells.TheVariants as cells
use Rattle.queries.specs.declared.column.Column.{Column}
use Rattle.queries.specs.declared.condition.Condition.{Condition}
use Rattle.queries.specs.Order.{value_cmp}
use Rattle.queries.specs.Answers.{JoinedRow, passes, values_in}

-- the values, in the order of their rows
abbrev pub values_of : Cells → List Value
values_of (cells.Lent numbers) = map Int numbers.now
values_of (cells.Numbers numbers) = map Int numbers.items
values_of (cells.Values values) = values.items

-- the value at a position; 0 if there is none
abbrev pub value_at : List Value → ℕ → Value
value_at values position = slice_index_or values position (Int (pos 0))

-- whether the value at a position meets a condition
abbrev pub does_pass : Condition → List Value → ℕ → Bool
does_pass condition values position = passes condition.comparison (value_cmp (value_at values position) condition.value)

-- ---- rows by their positions

-- a row without values
abbrev pub nowhere : JoinedRow
nowhere = record { own = []; joined = [] }

-- ---- the keys of rows

-- the values of the column at a place; none if there is no column
abbrev pub values_at : List Cells → ℕ → List Value
values_at columns place = option_map_or values_of (slice_get columns place) []

-- the values of a row in the columns at these places
abbrev pub key_at : List Cells → List ℕ → ℕ → List Value
key_at columns places row = map (λ place. value_at (values_at columns place) row) places

-- at each of these places there is a column, of so many rows
abbrev pub HaveColumns : List Cells → List ℕ → ℕ → Type 0
HaveColumns columns places count =
    (k : ℕ) (d : ℕ) → k < length places
    → (slice_index_or places k d < length columns) × (length (values_at columns (slice_index_or places k d)) ≡ count)

-- the columns at these places are those of rows
abbrev pub AreColumnsOf : List Cells → List ℕ → List Column → List JoinedRow → Type 0
AreColumnsOf columns places named rows = map (values_at columns) places ≡ map (λ column. values_in column rows) named

-- these are the places of rows' keys among keys
pub record AreKeyed (keys : List (List Value)) (key : ℕ → List Value) (count : ℕ) (numbers : List ℕ) : Type 0 where
  pub sizes : length numbers ≡ count
  pub each : (i : ℕ) → i < count → slice_get keys (slice_index_or numbers i 0) ≡ Some (key i)
