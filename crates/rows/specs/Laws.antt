-- Laws of the definitions: what changes make of the kinds and leave of the rows, how numbers and entries are read, which column bytes
-- are of, which entries conflict, and what is equal.
use Rattle.std.specs.Prelude.{◌≡◌, ℕ, ◌+◌, ◌^◌, ◌<◌, ◌≤◌, List, [], ◌∷◌, ◌++◌, length, take, drop, nat_eq, is_ok, true, Ok, Some}
use Rattle.std.specs.Bool.{Decides}
use Rattle.std.specs.List.{flat_map, list_all, AllByRecursion}
use Rattle.std.specs.Cmp.Lexicographic.{pointwise}
use Rattle.byteorder.specs.Endian.{big_bytes, big_number}
use Rattle.rows.specs.declared.commit.Commit.{Commit}
use Rattle.rows.specs.declared.entry.Entry.{Entry}
use Rattle.rows.specs.declared.kind.Kind.{Kind}
use Rattle.rows.specs.Shape.{Shape, width_of, is_good, column_at, kinds_in, AreColumns, AreTables}
use Rattle.rows.specs.Entries.{has_room, shape_after_one, shape_after}
use Rattle.rows.specs.Values.{value_of}
use Rattle.rows.specs.Tables.{Tables, opening, shape_in, RowsAreOfKinds, apply_entry, apply_entries, applied}
use Rattle.rows.specs.Commits.{apply_commits, tables_after, shape_after_commits, overlaps}
use Rattle.rows.specs.Equality.{is_same_entry, is_same_commit}
use Rattle.rows.specs.Spelling.{AreBytes, HasSpelling, entry_spelling}
use Rattle.rows.specs.Reading.{entries_filling}

-- the kinds of the tables' columns after an entry are those that the entry makes of them
abbrev pub EntryTellsKinds : Type 0
EntryTellsKinds =
    (tables after : Tables) (entry : Entry) → apply_entry tables entry ≡ Ok after → shape_in after ≡ shape_after_one (shape_in tables) entry

-- and after entries those that the entries make of them, whether each must be defined or one that is refused changes nothing
abbrev pub EntriesTellKinds : Type 0
EntriesTellKinds =
    (tables after : Tables) (entries : List Entry) → apply_entries tables entries ≡ Ok after
    → shape_in after ≡ shape_after (shape_in tables) entries

abbrev pub AppliedTellKinds : Type 0
AppliedTellKinds = (tables : Tables) (entries : List Entry) → shape_in (applied tables entries) ≡ shape_after (shape_in tables) entries

-- and after commits those that the commits make of them
abbrev pub CommitsTellKinds : Type 0
CommitsTellKinds =
    (tables after : Tables) (commits : List Commit) → apply_commits tables commits ≡ Ok after
    → shape_in after ≡ shape_after_commits (shape_in tables) commits

-- the tables at each version have the kinds that the commits up to it make of those that they were opened with
abbrev pub VersionsTellKinds : Type 0
VersionsTellKinds =
    (shape : Shape) (commits : List Commit) (version : ℕ) → is_ok (apply_commits (opening shape) commits) ≡ true
    → shape_in (tables_after shape commits version) ≡ shape_after_commits shape (take version commits)

-- entries change neither how many tables there are, nor the columns that a table has: they add columns behind them
abbrev pub TablesStay : Type 0
TablesStay = (shape : Shape) (entries : List Entry) → length (shape_after shape entries) ≡ length shape

abbrev pub ColumnsStay : Type 0
ColumnsStay =
    (shape : Shape) (entries : List Entry) (table : ℕ)
    → take (length (kinds_in shape table)) (kinds_in (shape_after shape entries) table) ≡ kinds_in shape table

-- columns of a table with one more for which there is room are columns of a table
abbrev pub RoomKeepsLimits : Type 0
RoomKeepsLimits = (kinds : List Kind) (kind : Kind) → AreColumns kinds → has_room kinds kind ≡ true → AreColumns (kinds ++ kind ∷ [])

-- and tables that a schema may have are such tables after entries
abbrev pub LimitsStay : Type 0
LimitsStay = (shape : Shape) (entries : List Entry) → AreTables shape → AreTables (shape_after shape entries)

-- if each row has values of its columns' kinds, it still has after an entry
abbrev pub EntryKeepsRows : Type 0
EntryKeepsRows =
    (tables after : Tables) (entry : Entry) → RowsAreOfKinds tables → apply_entry tables entry ≡ Ok after → RowsAreOfKinds after

-- and after commits
abbrev pub CommitsKeepRows : Type 0
CommitsKeepRows =
    (tables after : Tables) (commits : List Commit) → RowsAreOfKinds tables → apply_commits tables commits ≡ Ok after → RowsAreOfKinds after

-- so each row at each version has values of its columns' kinds
abbrev pub VersionsAreOfKinds : Type 0
VersionsAreOfKinds = (shape : Shape) (commits : List Commit) (version : ℕ) → RowsAreOfKinds (tables_after shape commits version)

-- a number that is read at an offset of bytes is spelled there
abbrev pub NumbersAreSpelled : Type 0
NumbersAreSpelled =
    (size offset : ℕ) (bytes : List ℕ) → offset + size ≤ length bytes → AreBytes bytes
    → big_bytes size (big_number size (drop offset bytes)) ++ drop (offset + size) bytes ≡ drop offset bytes

-- and has a spelling of that size
abbrev pub NumbersAreBelow : Type 0
NumbersAreBelow = (size offset : ℕ) (bytes : List ℕ) → AreBytes bytes → big_number size (drop offset bytes) < 256 ^ size

-- the column that just these bytes are of has a width that columns may have, and is as wide as they are many
abbrev pub FoundColumnsFit : Type 0
FoundColumnsFit =
    (kinds : List Kind) (offset size column : ℕ) (kind : Kind) → column_at kinds offset size ≡ Some (column, kind)
    → list_all is_good kinds ≡ true → (is_good kind ≡ true) × (size ≡ width_of kind)

-- a column's value is determined by as many bytes as it is wide
abbrev pub WidthTellsValue : Type 0
WidthTellsValue =
    (kind : Kind) (bytes others : List ℕ) → take (width_of kind) bytes ≡ take (width_of kind) others
    → value_of kind bytes ≡ value_of kind others

-- entries that are read from bytes are as many as were asked for, and spelled there
abbrev pub FoundAreSpelled : Type 0
FoundAreSpelled =
    (count : ℕ) (bytes : List ℕ) (entries : List Entry) → AreBytes bytes → entries_filling count bytes ≡ Some entries
    → (length entries ≡ count) × AllByRecursion HasSpelling entries × (bytes ≡ flat_map entry_spelling entries)

-- and entries that are spelled there are read
abbrev pub SpelledAreFound : Type 0
SpelledAreFound =
    (entries : List Entry) → AllByRecursion HasSpelling entries
    → entries_filling (length entries) (flat_map entry_spelling entries) ≡ Some entries

-- an entry overlaps with another exactly if the other overlaps with it
abbrev pub IsSymmetric : Type 0
IsSymmetric = (entry other : Entry) → overlaps entry other ≡ overlaps other entry

-- `==` of bytes, of entries, of lists of them and of commits is true exactly if they are equal
abbrev pub BytesEqual : Type 0
BytesEqual = (bytes other : List ℕ) → Decides (pointwise nat_eq bytes other) (bytes ≡ other)

abbrev pub EntryEquals : Type 0
EntryEquals = (entry other : Entry) → Decides (is_same_entry entry other) (entry ≡ other)

abbrev pub EntriesEqual : Type 0
EntriesEqual = (entries others : List Entry) → Decides (pointwise is_same_entry entries others) (entries ≡ others)

abbrev pub CommitEquals : Type 0
CommitEquals = (commit other : Commit) → Decides (is_same_commit commit other) (commit ≡ other)
