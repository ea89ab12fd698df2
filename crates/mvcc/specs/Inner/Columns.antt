-- What the commits made of each table's columns, and the last commit of each table.
use Rattle.std.specs.Prelude.{◌≡◌, ℕ, ◌+◌, List, [], ◌∷◌, ◌++◌, map, length, take, replicate, nat_le, Option, None, Some, ◌==◌}
use Rattle.std.specs.Prelude.{if◌then◌else◌, slice_get, slice_set, is_ok}
use Rattle.std.specs.List.{flat_map, prefix_len}
use Rattle.std.specs.Option.{option_map}
use Rattle.rows.specs.declared.commit.Commit.{Commit}
use Rattle.rows.specs.declared.entry.Entry.{Entry}
use Rattle.rows.specs.declared.entry.Entry.TheVariants.{Insert, Patch, Delete, AddColumn}
use Rattle.rows.specs.declared.kind.Kind.{Kind}
use Rattle.rows.specs.declared.value.Value.{Value}
use Rattle.rows.specs.Entries.{table_of, addable}
use Rattle.rows.specs.Shape.{Shape, row_width}
use Rattle.rows.specs.Values.{kind_of, value_bytes}
use Rattle.mvcc.specs.Newest.{newest_in}

-- the values of the columns that entries add to a table
abbrev pub defaults_one : ℕ → Entry → List Value
defaults_one table (Insert at row bytes) = []
defaults_one table (Patch at row offset bytes) = []
defaults_one table (Delete at row) = []
defaults_one table (AddColumn at default) = if at == table then default ∷ [] else []

abbrev pub defaults_in : ℕ → List Entry → List Value
defaults_in table entries = flat_map (defaults_one table) entries

-- those that commits add
abbrev pub defaults_of : ℕ → List Commit → List Value
defaults_of table commits = flat_map (λ (commit : Commit). defaults_in table commit.entries) commits

-- the columns of one table: how many it was opened with, the kinds of all, for each that was added the number of its commit, and the
-- bytes of a blank row, which has zeros in the columns of the opening and in each other that with which it was added
pub record TableColumns : Type 0 where
  pub opening : ℕ
  pub kinds : List Kind
  pub numbers : List ℕ
  pub blank : List ℕ

-- those of a table when it is opened
abbrev pub opened : List Kind → TableColumns
opened kinds = record { opening = length kinds; kinds = kinds; numbers = []; blank = replicate (row_width kinds) 0 }

-- with more columns, which the commit of that number adds with these values
abbrev pub extended : ℕ → List Value → TableColumns → TableColumns
extended number defaults columns = record columns {
  kinds = columns.kinds ++ map kind_of defaults;
  numbers = columns.numbers ++ map (λ (default : Value). number) defaults;
  blank = columns.blank ++ flat_map value_bytes defaults;
}

-- the bytes of a table's blank row; none if there is no such table
abbrev pub blank_at : List TableColumns → ℕ → List ℕ
blank_at tables table = blank_found (slice_get tables table)
  where
    blank_found : Option TableColumns → List ℕ
    blank_found None = []
    blank_found (Some columns) = columns.blank

-- the kinds at a version: the first of all, so many more than at the opening as were added up to it
abbrev pub kinds_upto : ℕ → TableColumns → List Kind
kinds_upto version columns =
    take (columns.opening + prefix_len (λ (number : ℕ). nat_le number version) columns.numbers) columns.kinds

-- the last of these numbers; `last` if there is none
abbrev pub last_from : ℕ → List ℕ → ℕ
last_from last [] = last
last_from last (number ∷ numbers) = last_from number numbers

-- the number of the commit that added the last column; 0 if none was added, or there is no such table
abbrev pub last_added : Option TableColumns → ℕ
last_added None = 0
last_added (Some columns) = last_from 0 columns.numbers

-- the columns of all tables, with one more in one of them
abbrev pub with_added : ℕ → ℕ → Value → List TableColumns → List TableColumns
with_added number table default tables = put (slice_get tables table)
  where
    put : Option TableColumns → List TableColumns
    put None = tables
    put (Some columns) = slice_set tables table (extended number (default ∷ []) columns)

-- the columns after an entry of the commit of that number, and after entries
abbrev pub columns_after_one : ℕ → Entry → List TableColumns → List TableColumns
columns_after_one number (Insert table row bytes) tables = tables
columns_after_one number (Patch table row offset bytes) tables = tables
columns_after_one number (Delete table row) tables = tables
columns_after_one number (AddColumn table default) tables = with_added number table default tables

abbrev pub columns_after : ℕ → List Entry → List TableColumns → List TableColumns
columns_after number [] tables = tables
columns_after number (entry ∷ entries) tables = columns_after number entries (columns_after_one number entry tables)

-- for each column that commits add to a table the number of its commit, the first commit being the next after `before`
abbrev pub numbers_of : ℕ → ℕ → List Commit → List ℕ
numbers_of table before [] = []
numbers_of table before (commit ∷ commits) =
    map (λ (default : Value). before + 1) (defaults_in table commit.entries) ++ numbers_of table (before + 1) commits

-- the columns of a table after commits, by those that it was opened with
abbrev pub columns_of : ℕ → List Commit → List Kind → TableColumns
columns_of table commits kinds = record {
  opening = length kinds;
  kinds = kinds ++ map kind_of (defaults_of table commits);
  numbers = numbers_of table 0 commits;
  blank = replicate (row_width kinds) 0 ++ flat_map value_bytes (defaults_of table commits);
}

-- the columns of all tables are those after the commits
abbrev pub AreColumnsOf : Shape → List Commit → List TableColumns → Type 0
AreColumnsOf shape commits tables = (table : ℕ) → slice_get tables table ≡ option_map (columns_of table commits) (slice_get shape table)

-- the kinds of a table's columns after an entry, and after entries: those that are added behind them, where they fit
abbrev pub kinds_after_one : ℕ → List Kind → Entry → List Kind
kinds_after_one table kinds (Insert at row bytes) = kinds
kinds_after_one table kinds (Patch at row offset bytes) = kinds
kinds_after_one table kinds (Delete at row) = kinds
kinds_after_one table kinds (AddColumn at default) =
    if at == table then (if is_ok (addable (Some kinds) default) then kinds ++ kind_of default ∷ [] else kinds) else kinds

abbrev pub kinds_after : ℕ → List Kind → List Entry → List Kind
kinds_after table kinds [] = kinds
kinds_after table kinds (entry ∷ entries) = kinds_after table (kinds_after_one table kinds entry) entries

-- the last commits of all tables after entries of the commit of that number
abbrev pub last_after : ℕ → List Entry → List ℕ → List ℕ
last_after number [] numbers = numbers
last_after number (entry ∷ entries) numbers = last_after number entries (slice_set numbers (table_of entry) number)

-- for each table the number is that of the last commit with an entry of it
abbrev pub AreLast : Shape → List Commit → List ℕ → Type 0
AreLast shape commits numbers =
    (table : ℕ) → slice_get numbers table ≡ option_map (λ (kinds : List Kind). newest_in table commits) (slice_get shape table)
