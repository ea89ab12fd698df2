-- One column: the values that its numbers or bytes are.
use Rattle.std.specs.Prelude.{◌≡◌, ℕ, ◌+◌, ◌*◌, ◌<◌, ◌≤◌, List, map, length, drop, replicate, true}
use Rattle.std.specs.Prelude.{vec_len, vec_capacity}
use Rattle.rows.specs.declared.kind.Kind.{Kind}
use Rattle.rows.specs.declared.kind.Kind.TheVariants as kinds
use Rattle.rows.specs.declared.value.Value.{Value}
use Rattle.rows.specs.declared.value.Value.TheVariants as values
use Rattle.rows.specs.Shape.{is_good}
use Rattle.rows.specs.Values.{kind_of as kind_of_value}
use Rattle.store.specs.Lent.{octets_in}
use Rattle.apply.specs.declared.cells.Cells.{Cells}
use Rattle.apply.specs.declared.cells.Cells.TheVariants.{Numbers, Octets}

-- the kind of a column's values
abbrev pub kind_of : Cells → Kind
kind_of (Numbers numbers) = kinds.Int
kind_of (Octets width bytes) = kinds.Octets width

-- the values of a column, of so many rows
abbrev pub values_in : ℕ → Cells → List Value
values_in rows (Numbers numbers) = map values.Int numbers.items
values_in rows (Octets width bytes) = octets_in rows width bytes.items

-- a column has a value for each of so many rows
abbrev pub AreCells : ℕ → Cells → Type 0
AreCells rows (Numbers numbers) = length numbers.items ≡ rows
AreCells rows (Octets width bytes) = (length bytes.items ≡ rows * width) × (is_good (kinds.Octets width) ≡ true)

-- it can take one more without asking for memory
abbrev pub HasRoom : Cells → Type 0
HasRoom (Numbers numbers) = vec_len numbers < vec_capacity numbers
HasRoom (Octets width bytes) = vec_len bytes + width ≤ vec_capacity bytes

-- a column has the values that it had
pub record Keeps (old new : Cells) : Type 0 where
  pub kind : kind_of new ≡ kind_of old
  pub cells : (rows : ℕ) → AreCells rows old → AreCells rows new
  pub values : (rows : ℕ) → values_in rows new ≡ values_in rows old

-- a column has the values of another from a row on
pub record IsTail (rows at : ℕ) (whole tail : Cells) : Type 0 where
  pub kind : kind_of tail ≡ kind_of whole
  pub cells : (cut : ℕ) → cut + at ≡ rows → AreCells cut tail
  pub values : (cut : ℕ) → cut + at ≡ rows → values_in cut tail ≡ drop at (values_in rows whole)

-- a column has this value in each of so many rows
pub record IsFilled (rows : ℕ) (value : Value) (column : Cells) : Type 0 where
  pub kind : kind_of column ≡ kind_of_value value
  pub cells : AreCells rows column
  pub values : values_in rows column ≡ replicate rows value
