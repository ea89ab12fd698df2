-- The one spelling of an entry as bytes.
use Rattle.std.specs.Prelude.{ℕ, ◌+◌, ◌^◌, ◌<◌, ◌≤◌, List, [], ◌∷◌, ◌++◌, length, slice_index, FitsSigned}
use Rattle.std.specs.Int.{w64}
use Rattle.byteorder.specs.Endian.{big_bytes}
use Rattle.rows.specs.declared.entry.Entry.{Entry}
use Rattle.rows.specs.declared.entry.Entry.TheVariants.{Insert, Patch, Delete, AddColumn}
use Rattle.rows.specs.declared.kind.Kind.{Kind}
use Rattle.rows.specs.declared.kind.Kind.TheVariants as kinds
use Rattle.rows.specs.declared.value.Value.{Value}
use Rattle.rows.specs.declared.value.Value.TheVariants as values
use Rattle.rows.specs.Limits.{tables_max, row_width_max, octets_max}
use Rattle.rows.specs.Values.{value_bytes, kind_of}

-- which entry a spelling is of: its first byte
abbrev pub insert_code : ℕ
insert_code = 1

abbrev pub patch_code : ℕ
patch_code = 2

abbrev pub delete_code : ℕ
delete_code = 3

abbrev pub add_column_code : ℕ
add_column_code = 4

-- the byte that stands for a kind: octets are 1 to 64 bytes, and stand by their width
abbrev pub kind_code : Kind → ℕ
kind_code kinds.Int = 0
kind_code (kinds.Octets width) = width

-- what an entry of one row begins with: which it is in one byte, the table in one, and the row in eight
abbrev pub entry_front : ℕ → ℕ → ℕ → List ℕ
entry_front code table row = (code ∷ table ∷ []) ++ big_bytes 8 row

-- an insert: after the row the size in two bytes, and the data. A patch: after the row the offset in two bytes, the size in two,
-- and the data. A delete: nothing after the row. An added column: the table in one byte, the kind in one, and the value in as
-- many as it is wide.
abbrev pub entry_spelling : Entry → List ℕ
entry_spelling (Insert table row bytes) = entry_front insert_code table row.0 ++ big_bytes 2 (length bytes) ++ bytes
entry_spelling (Patch table row offset bytes) =
    entry_front patch_code table row.0 ++ big_bytes 2 offset ++ big_bytes 2 (length bytes) ++ bytes
entry_spelling (Delete table row) = entry_front delete_code table row.0
entry_spelling (AddColumn table default) = (add_column_code ∷ table ∷ kind_code (kind_of default) ∷ []) ++ value_bytes default

-- these numbers are bytes
abbrev pub AreBytes : List ℕ → Type 0
AreBytes bytes = (i : ℕ) → slice_index bytes i < 256

-- an insert with a spelling: its table is below 16, its row a number of 64 bits, its data 1 to 512 bytes
pub record IsInsert (table row : ℕ) (bytes : List ℕ) : Type 0 where
  pub table_below : table < tables_max
  pub row_below : row < 2 ^ 64
  pub some : 0 < length bytes
  pub few : length bytes ≤ row_width_max
  pub are_bytes : AreBytes bytes

-- a patch with a spelling: its data is 1 to 64 bytes, which end within 512
pub record IsPatch (table row offset : ℕ) (bytes : List ℕ) : Type 0 where
  pub table_below : table < tables_max
  pub row_below : row < 2 ^ 64
  pub some : 0 < length bytes
  pub few : length bytes ≤ octets_max
  pub within : offset + length bytes ≤ row_width_max
  pub are_bytes : AreBytes bytes

-- a delete with a spelling
pub record IsDelete (table row : ℕ) : Type 0 where
  pub table_below : table < tables_max
  pub row_below : row < 2 ^ 64

-- a value that a column can have: a number of 64 bits, or 1 to 64 bytes
abbrev pub IsColumnValue : Value → Type 0
IsColumnValue (values.Int number) = FitsSigned w64 number
IsColumnValue (values.Octets bytes) = (0 < length bytes) × (length bytes ≤ octets_max) × AreBytes bytes

-- an added column with a spelling
pub record IsAddColumn (table : ℕ) (default : Value) : Type 0 where
  pub table_below : table < tables_max
  pub value : IsColumnValue default

-- which entries have a spelling
abbrev pub HasSpelling : Entry → Type 0
HasSpelling (Insert table row bytes) = IsInsert table row.0 bytes
HasSpelling (Patch table row offset bytes) = IsPatch table row.0 offset bytes
HasSpelling (Delete table row) = IsDelete table row.0
HasSpelling (AddColumn table default) = IsAddColumn table default
