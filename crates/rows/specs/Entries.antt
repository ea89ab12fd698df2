-- Which entries fit a shape, of which table an entry is, and the shape after entries.
use Rattle.std.specs.Prelude.{ℕ, ◌+◌, List, [], ◌∷◌, ◌++◌, length, Option, None, Some, Result, Ok, Err, Bool, ◌==◌, ◌&&◌, not, nat_lt}
use Rattle.std.specs.Prelude.{if◌then◌else◌}
use Rattle.std.specs.Prelude.{slice_get, slice_set, is_some, is_ok}
use Rattle.rows.specs.declared.entry.Entry.{Entry}
use Rattle.rows.specs.declared.entry.Entry.TheVariants.{Insert, Patch, Delete, AddColumn}
use Rattle.rows.specs.declared.faults.EntryFault.{EntryFault}
use Rattle.rows.specs.declared.faults.EntryFault.TheVariants.{NoTable, WrongSize, NotAColumn}
use Rattle.rows.specs.declared.kind.Kind.{Kind}
use Rattle.rows.specs.declared.row_id.RowId.{RowId}
use Rattle.rows.specs.declared.value.Value.{Value}
use Rattle.rows.specs.Limits.{columns_max, row_width_max}
use Rattle.rows.specs.Shape.{Shape, width_of, is_good, row_width, column_at, kinds_in}
use Rattle.rows.specs.Values.{kind_of}

-- the table that an entry is of
abbrev pub table_of : Entry → ℕ
table_of (Insert table row bytes) = table
table_of (Patch table row offset bytes) = table
table_of (Delete table row) = table
table_of (AddColumn table default) = table

-- the row that an entry is of; none if it adds a column, which is of every row of its table
abbrev pub row_of : Entry → Option RowId
row_of (Insert table row bytes) = Some row
row_of (Patch table row offset bytes) = Some row
row_of (Delete table row) = Some row
row_of (AddColumn table default) = None

-- whether an insert's data has the width of the table's rows
abbrev pub sized : Option (List Kind) → ℕ → Result (Unit {0}) EntryFault
sized None size = Err NoTable
sized (Some kinds) size = if size == row_width kinds then Ok tt else Err WrongSize

-- whether a patch has exactly the bytes of one of the table's columns
abbrev pub placed : Option (List Kind) → ℕ → ℕ → Result (Unit {0}) EntryFault
placed None offset size = Err NoTable
placed (Some kinds) offset size = if is_some (column_at kinds offset size) then Ok tt else Err NotAColumn

-- whether the table is there
abbrev pub listed : Option (List Kind) → Result (Unit {0}) EntryFault
listed None = Err NoTable
listed (Some kinds) = Ok tt

-- whether a column of this kind may be added behind these: it has bytes, there are fewer than 16 before it, and rows are then not too
-- wide
abbrev pub has_room : List Kind → Kind → Bool
has_room kinds kind =
    is_good kind && nat_lt (length kinds) columns_max && not (nat_lt row_width_max (row_width kinds + width_of kind))

-- whether a column may be added that has this value in each row
abbrev pub addable : Option (List Kind) → Value → Result (Unit {0}) EntryFault
addable None default = Err NoTable
addable (Some kinds) default = if has_room kinds (kind_of default) then Ok tt else Err WrongSize

-- whether an entry fits its table, if that is there, by the kinds of the table's columns; or its first fault
abbrev pub fitting_in : Option (List Kind) → Entry → Result (Unit {0}) EntryFault
fitting_in kinds (Insert table row bytes) = sized kinds (length bytes)
fitting_in kinds (Patch table row offset bytes) = placed kinds offset (length bytes)
fitting_in kinds (Delete table row) = listed kinds
fitting_in kinds (AddColumn table default) = addable kinds default

-- whether an entry fits the shape, which is that of its place, or its first fault
abbrev pub fitting : Shape → Entry → Result (Unit {0}) EntryFault
fitting shape entry = fitting_in (slice_get shape (table_of entry)) entry

-- the kinds of the tables' columns with one more behind those of a table
abbrev pub with_kind : Shape → ℕ → Kind → Shape
with_kind shape table kind = slice_set shape table (kinds_in shape table ++ kind ∷ [])

-- the kinds of the tables' columns after an entry: a column that fits is added, and no other entry changes them
abbrev pub shape_after_one : Shape → Entry → Shape
shape_after_one shape (Insert table row bytes) = shape
shape_after_one shape (Patch table row offset bytes) = shape
shape_after_one shape (Delete table row) = shape
shape_after_one shape (AddColumn table default) =
    if is_ok (addable (slice_get shape table) default) then with_kind shape table (kind_of default) else shape

-- the kinds of the tables' columns after entries
abbrev pub shape_after : Shape → List Entry → Shape
shape_after shape [] = shape
shape_after shape (entry ∷ entries) = shape_after (shape_after_one shape entry) entries
