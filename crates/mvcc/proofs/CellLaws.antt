-- One column of a row after entries: what they make of the row, and what they make of the column.
use Rattle.std.proofs.Common.{◌≡◌, ℕ, ◌+◌, ◌<◌, get_or, drop, Bool, true, false, cond, ◌==◌, List, [], ◌∷◌, length, Option}
use Rattle.std.proofs.Common.{None, Some, slice_get, refl, ap, ◌∙◌}
use Rattle.std.proofs.lemmas.List.{drop_more}
use Rattle.rows.specs.declared.entry.Entry.{Entry}
use Rattle.rows.specs.declared.entry.Entry.TheVariants.{Insert, Patch, Delete, AddColumn}
use Rattle.rows.specs.declared.kind.Kind.{Kind}
use Rattle.rows.specs.declared.value.Value.{Value}
use Rattle.rows.specs.Shape.{Shape, row_width, column_at}
use Rattle.rows.specs.Values.{value_of}
use Rattle.rows.specs.Tables.{patched_row}
use Rattle.rows.specs.Commits.{is_of}
use Rattle.rows.specs.RowAfter.{row_after_fit, inserted_row}
use Rattle.mvcc.specs.Inner.Cells.{cell_of, inserted_cell, patched_cell, cell_after_one, cell_after_entry, cell_after}
use Rattle.mvcc.specs.Inner.OwnRows.{picked}
use Rattle.mvcc.specs.Inner.Keys.{adds_column, AreOfRows}
use Rattle.mvcc.proofs.Effects.{effect, step, step-is, first-step}
use Rattle.mvcc.proofs.OwnRows.{before, picked-cons}
use Rattle.mvcc.proofs.Places.{slice_get-set}

patched : (kinds : List Kind) (offset : ℕ) (bytes : List ℕ) (column : ℕ) (values : List Value)
    → slice_get (patched_row kinds offset bytes values) column ≡ patched_cell kinds offset bytes column (slice_get values column)
patched kinds offset bytes column values = by (column_at kinds offset (length bytes)) refl
  where
    by : (found : Option (ℕ × Kind)) → column_at kinds offset (length bytes) ≡ found
        → slice_get (patched_row kinds offset bytes values) column ≡ patched_cell kinds offset bytes column (slice_get values column)
    by None e = rw e refl
    by (Some found) e = rw e (slice_get-set values found.0 column (value_of found.1 bytes))

pub effect-cell : (kinds : List Kind) (column : ℕ) (entry : Entry) (was : Option (List Value)) → adds_column entry ≡ false
    → cell_of column (effect (Some kinds) entry was) ≡ cell_after_one kinds column entry (cell_of column was)
effect-cell kinds column (Insert table row bytes) was of = by (length bytes == row_width kinds) was
  where
    by : (wide : Bool) (was : Option (List Value))
        → cell_of column (cond wide (inserted_row kinds bytes was) was) ≡ cond wide (inserted_cell kinds bytes column (cell_of column was))
        (cell_of column was)
    by false was = refl
    by true None = refl
    by true (Some values) = refl
effect-cell kinds column (Patch table row offset bytes) None of = refl
effect-cell kinds column (Patch table row offset bytes) (Some values) of = ap Some (patched kinds offset bytes column values)
effect-cell kinds column (Delete table row) was of = refl
effect-cell kinds column (AddColumn table default) was of = absurd cc

-- what entries make of a column is that column of what they make of the row
pub cell-row : (shape : Shape) (kinds : List Kind) (table row column : ℕ) (entries : List Entry) (was : Option (List Value))
    → AreOfRows entries → slice_get shape table ≡ Some kinds
    → cell_of column (row_after_fit shape table row entries was) ≡ cell_after kinds table row column entries (cell_of column was)
cell-row shape kinds table row column [] was of h = refl
cell-row shape kinds table row column (entry ∷ entries) was of h =
    ap (cell_of column) (first-step shape table row entry entries was of.0)
    ∙ cell-row shape kinds table row column entries (step shape table row entry was) of.1 h
    ∙ ap (cell_after kinds table row column entries)
    (ap (cell_of column) (step-is shape table row entry was ∙ ap (λ found. cond (is_of table row entry) (effect found entry was) was) h)
    ∙ by (is_of table row entry))
  where
    by : (here : Bool) → cell_of column (cond here (effect (Some kinds) entry was) was) ≡ cond here
        (cell_after_one kinds column entry (cell_of column was)) (cell_of column was)
    by true = effect-cell kinds column entry was of.0
    by false = refl

-- what the entries at indices make of a column, one on: where there is an entry, and where there is none
pub cell_after-some : (kinds : List Kind) (table row column : ℕ) (entries : List Entry) (indices : List ℕ) (i : ℕ) (entry : Entry)
    (cell : Option (Option Value)) → i < length indices → slice_get entries (get_or indices i 0) ≡ Some entry
    → cell_after kinds table row column (picked entries (drop i indices)) cell ≡ cell_after kinds table row column
    (picked entries (drop (i + 1) indices)) (cell_after_entry kinds table row column entry cell)
cell_after-some kinds table row column entries indices i entry cell h e =
    ap (λ own. cell_after kinds table row column own cell)
    (ap (picked entries) (drop_more indices i 0 h) ∙ picked-cons entries (get_or indices i 0) (drop (i + 1) indices)
    ∙ ap (λ found. before found (picked entries (drop (i + 1) indices))) e)

pub cell_after-none : (kinds : List Kind) (table row column : ℕ) (entries : List Entry) (indices : List ℕ) (i : ℕ)
    (cell : Option (Option Value)) → i < length indices → slice_get entries (get_or indices i 0) ≡ None
    → cell_after kinds table row column (picked entries (drop i indices)) cell ≡ cell_after kinds table row column
    (picked entries (drop (i + 1) indices)) cell
cell_after-none kinds table row column entries indices i cell h e =
    ap (λ own. cell_after kinds table row column own cell)
    (ap (picked entries) (drop_more indices i 0 h) ∙ picked-cons entries (get_or indices i 0) (drop (i + 1) indices)
    ∙ ap (λ found. before found (picked entries (drop (i + 1) indices))) e)
