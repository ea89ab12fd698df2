-- What a store answers: a row's columns, the rows in their order, what stands after a change that is refused, and the columns that
-- tables began with.
use Rattle.std.specs.Prelude.{◌≡◌, ℕ, ◌<◌, List, length, take, Bool, true, false, Option, None, Some, Result, Ok, Err, slice_get, IfSome}
use Rattle.std.specs.Prelude.{IsSomeAnd}
use Rattle.std.specs.Option.{option_map}
use Rattle.rows.specs.declared.entry.Entry.{Entry}
use Rattle.rows.specs.declared.value.Value.{Value}
use Rattle.rows.specs.Shape.{Shape, kinds_in}
use Rattle.rows.specs.Tables.{Rows, Tables, Refusal, Unfit, Exists, Missing, kinds_of, apply_entry, apply_entries}
use Rattle.store.specs.declared.faults.StoreFault.TheVariants as faults
use Rattle.store.specs.Faults.{number_of}

-- a column of a row, if the row is there and has that column
abbrev pub column_of : Option (List Value) → ℕ → Option Value
column_of None column = None
column_of (Some values) column = slice_get values column

-- the identifier of the row at an index of the table's order
abbrev pub id_in : Rows → ℕ → Option ℕ
id_in rows i = option_map (λ row. row.0) (slice_get rows i)

-- each row before that index has an identifier below this one
abbrev pub IsAboveAllBefore : Rows → ℕ → ℕ → Type 0
IsAboveAllBefore rows i id = (j : ℕ) → j < i → IfSome (id_in rows j) (λ before. before < id)

-- the number of the fault with which a change is refused: broken, at a store that is not whole; else the change's own
-- refusal; else out of memory
abbrev pub fault_kind : Bool → Result Tables Refusal → ℕ
fault_kind false change = number_of faults.Broken
fault_kind true (Err Exists) = number_of faults.Exists
fault_kind true (Err Missing) = number_of faults.Missing
fault_kind true (Err Unfit) = number_of faults.Unfit
fault_kind true (Ok tables) = number_of faults.Memory

-- a run of entries that stopped at one of them: those before it made these tables of the old ones, and on these it is
-- refused; a store that is not whole refuses the first
pub record StopsAt (whole : Bool) (old new : Tables) (entries : List Entry) (i kind : ℕ) : Type 0 where
  pub within : i < length entries
  pub before : apply_entries old (take i entries) ≡ Ok new
  pub refused : IsSomeAnd (slice_get entries i) (λ entry. kind ≡ fault_kind whole (apply_entry new entry))
  pub first : whole ≡ false → i ≡ 0

-- tables that began with these kinds, and to which columns may have been added since: as many tables, and the first columns of each are
-- those that it began with
pub record BeganWith (shape : Shape) (tables : Tables) : Type 0 where
  pub many : length tables ≡ length shape
  pub first : (table : ℕ) → take (length (kinds_in shape table)) (kinds_of tables table) ≡ kinds_in shape table
