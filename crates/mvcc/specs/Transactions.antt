-- A transaction: what it sees, and what a change of it answers.
use Rattle.std.specs.Prelude.{ℕ, List, [], ◌∷◌, ◌++◌, length, take, Bool, false, Option, None, Some, Result, Ok, Err, not}
use Rattle.std.specs.Prelude.{nat_lt, if◌then◌else◌, slice_get, is_some, is_ok}
use Rattle.std.specs.Option.{ok_or}
use Rattle.rows.specs.declared.entry.Entry.{Entry}
use Rattle.rows.specs.declared.entry.Entry.TheVariants.{Insert, Patch, Delete, AddColumn}
use Rattle.rows.specs.declared.commit.Commit.{Commit}
use Rattle.rows.specs.declared.kind.Kind.{Kind}
use Rattle.rows.specs.declared.value.Value.{Value}
use Rattle.rows.specs.Entries.{addable}
use Rattle.rows.specs.Limits.{commit_entries_max}
use Rattle.rows.specs.Shape.{Shape, kinds_in, row_width}
use Rattle.rows.specs.Values.{value_bytes, bytes_of, is_of_kind, are_of_kinds}
use Rattle.rows.specs.Tables.{Tables, shape_in, applied, is_row_at}
use Rattle.rows.specs.Commits.{tables_after}
use Rattle.mvcc.specs.declared.faults.TxFault.{TxFault}
use Rattle.mvcc.specs.declared.faults.TxFault.TheVariants.{Exists, Missing, Unfit, TooManyEntries}
use Rattle.mvcc.specs.Values.{value_in}
use Rattle.mvcc.specs.Transaction.{Transaction}

-- whether the table is there, and these are values of its columns
abbrev pub match_table : List Value → Option (List Kind) → Bool
match_table values None = false
match_table values (Some kinds) = are_of_kinds values kinds

-- whether the column is there, and this is a value of it
abbrev pub match_column : Value → Option Kind → Bool
match_column value None = false
match_column value (Some kind) = is_of_kind value kind

-- the kind of a column; none if the table or the column is not there
abbrev pub column_kind : Shape → ℕ → ℕ → Option Kind
column_kind shape table column = slice_get (kinds_in shape table) column

-- where a column begins among its row's bytes: after the columns before it
abbrev pub column_offset : Shape → ℕ → ℕ → ℕ
column_offset shape table column = row_width (take column (kinds_in shape table))

-- the rows that a transaction sees: those at its snapshot, changed by its own entries in the order of its calls
abbrev pub seen_by : Shape → List Commit → Transaction → Tables
seen_by shape commits draft = applied (tables_after shape commits draft.snapshot) draft.entries

-- the kinds of the tables' columns, as a transaction sees them
abbrev pub seen_shape : Shape → List Commit → Transaction → Shape
seen_shape shape commits draft = shape_in (seen_by shape commits draft)

-- whether a transaction sees that row
abbrev pub sees : Shape → List Commit → Transaction → ℕ → ℕ → Bool
sees shape commits draft table row = is_row_at (seen_by shape commits draft) table row

-- the transaction with one more entry, if it may have one more
abbrev pub transaction_with : Transaction → Entry → Result Transaction TxFault
transaction_with draft entry =
    if nat_lt (length draft.entries) commit_entries_max
    then Ok (record draft { entries = draft.entries ++ entry ∷ [] })
    else Err TooManyEntries

-- what an insert answers: the transaction with one more entry, or the first refusal
abbrev pub insert_answer : Shape → List Commit → Transaction → ℕ → ℕ → List Value → Result Transaction TxFault
insert_answer shape commits draft table row values =
    if not (match_table values (slice_get (seen_shape shape commits draft) table)) then Err Unfit else
    if sees shape commits draft table row then Err Exists else
    transaction_with draft (Insert table (record { 0 = row }) (bytes_of values))

-- what a change of one column answers
abbrev pub set_answer : Shape → List Commit → Transaction → ℕ → ℕ → ℕ → Value → Result Transaction TxFault
set_answer shape commits draft table row column value =
    if not (match_column value (column_kind (seen_shape shape commits draft) table column)) then Err Unfit else
    if not (sees shape commits draft table row) then Err Missing else
    transaction_with draft (Patch table (record { 0 = row }) (column_offset (seen_shape shape commits draft) table column)
    (value_bytes value))

-- what a delete answers
abbrev pub delete_answer : Shape → List Commit → Transaction → ℕ → ℕ → Result Transaction TxFault
delete_answer shape commits draft table row =
    if not (is_some (slice_get (seen_shape shape commits draft) table)) then Err Unfit else
    if not (sees shape commits draft table row) then Err Missing else
    transaction_with draft (Delete table (record { 0 = row }))

-- what an added column answers
abbrev pub add_column_answer : Shape → List Commit → Transaction → ℕ → Value → Result Transaction TxFault
add_column_answer shape commits draft table default =
    if not (is_ok (addable (slice_get (seen_shape shape commits draft) table) default)) then Err Unfit else
    transaction_with draft (AddColumn table default)

-- what a look at one column answers: its value as the transaction sees it, or the first refusal
abbrev pub get_answer : Shape → List Commit → Transaction → ℕ → ℕ → ℕ → Result Value TxFault
get_answer shape commits draft table row column =
    if not (is_some (column_kind (seen_shape shape commits draft) table column)) then Err Unfit else
    ok_or (value_in (seen_by shape commits draft) table row column) Missing
