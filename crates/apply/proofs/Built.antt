-- The table of identifiers and columns, when a row is put in or taken out, or some rows are left.
use Rattle.std.proofs.Common.{◌≡◌, ℕ, zero, suc, ◌+◌, ◌-◌, ◌<◌, ◌≤◌, true, false, List, [], ◌∷◌, length, get_or, take, drop, Option}
use Rattle.std.proofs.Common.{None, Some, slice_get, nat_lt}
use Rattle.std.proofs.Common.{refl, sym, ap, subst, ◌∙◌, inl, inr, slice_set, arith}
use Rattle.std.specs.List.{insert, remove, prefix_len}
use Rattle.std.specs.List.Sorted.{IsStrictlySortedBy}
use Rattle.std.specs.BTreeMap.{is_at}
use Rattle.std.specs.Map.{keys_of, set_value}
use Rattle.std.specs.Option.{is_some}
use Rattle.std.proofs.lemmas.Bool.{cases_eq}
use Rattle.std.specs.Ordering.{nat_cmp}
use Rattle.std.proofs.lemmas.List.{length-map, get_or-set_same, get_or-set_other, length-set, take-append-drop, length-take-le, length-drop}
use Rattle.std.proofs.lemmas.List.Edits.{length-insert, length-remove}
use Rattle.std.proofs.lemmas.Option.{slice_get_within, same_Some}
use Rattle.rows.specs.declared.kind.Kind.{Kind}
use Rattle.rows.specs.Shape.{width_of, column_at}
use Rattle.rows.specs.declared.value.Value.{Value}
use Rattle.rows.specs.Values.{value_of, values_of}
use Rattle.rows.specs.Tables.{Rows, Table, row_at, is_present, with_row, with_patch, without_row}
use Rattle.apply.specs.declared.cells.Cells.{Cells}
use Rattle.apply.specs.Columns.{kind_of, values_in, AreCells, Keeps, IsTail}
use Rattle.apply.specs.Blocks.{rows_with, kinds_with, table_with}
use Rattle.apply.specs.Orders.{Rising, place_in}
use Rattle.apply.specs.Inner.Edits.{AllCells, Each, IsTaken, IsFront, IsPutIn}
use Rattle.apply.proofs.Ordered.{sorted-keys, with_row-insert, without_row-remove, rising-with_row, rising-without_row, rising-set}
use Rattle.apply.proofs.Ordered.{rising-parts, place-within, there-within, there-at, set-place, set-same}
use Rattle.apply.proofs.Beside.{rows-keys, rows-length, rows-insert, rows-remove, rows-take, rows-drop, rows-same, rows-none, rows-set}
use Rattle.apply.proofs.Beside.{column-found, kinds-same}

-- each column has its values, once each was changed
cells-after : (R : ℕ → Cells → Cells → Type 0) (count : ℕ) (olds news : List Cells) → length news ≡ length olds
    → ((k : ℕ) (old new : Cells) → R k old new → AreCells count new) → Each R (length olds) olds news → AllCells count news
cells-after R count olds news few cells each k d lt = cells k (get_or olds k d) (get_or news k d) (each k d (omega arith))

-- identifiers and columns of a table: each column has a value for each identifier, and these rise
pub record IsTable (ids : List ℕ) (columns : List Cells) : Type 0 where
  pub cells : AllCells (length ids) columns
  pub rise : Rising (rows_with (length ids) ids columns)

-- the rows of identifiers and columns
abbrev pub rows_in : List ℕ → List Cells → Rows
rows_in ids columns = rows_with (length ids) ids columns

pub table-none : (ids : List ℕ) (columns : List Cells) → ids ≡ [] → AllCells 0 columns
    → IsTable ids columns × (table_with ids columns ≡ record { kinds = kinds_with columns; rows = [] })
table-none ids columns none cells =
    let rows : rows_in ids columns ≡ [] = rw none (rows-none 0 columns) in (
      record { cells = rw none cells; rise = rw rows tt },
      rw rows refl,
    )

-- the same columns, written back
pub written : (others : List ℕ) (news back : List Cells) (table : Table) → back ≡ news
    → IsTable others news × (table_with others news ≡ table) → IsTable others back × (table_with others back ≡ table)
written others news back table same is = rw same is

module _ (ids : List ℕ) (columns : List Cells) (is : IsTable ids columns) where
  pub table-keys : keys_of (rows_in ids columns) ≡ ids
  table-keys = rows-keys (length ids) ids columns refl is.cells

  pub table-length : length (rows_in ids columns) ≡ length ids
  table-length = rows-length (length ids) ids columns refl is.cells

  pub table-sorted : IsStrictlySortedBy nat_cmp ids
  table-sorted = subst (IsStrictlySortedBy nat_cmp) table-keys (sorted-keys (rows_in ids columns) is.rise)

  pub table-place : (row : ℕ) → place_in (rows_in ids columns) row ≡ prefix_len (λ id. nat_lt id row) ids
  table-place row = ap (prefix_len (λ id. nat_lt id row)) table-keys

  -- the columns made room
  pub table-keeps : (news : List Cells) → length news ≡ length columns → Each (λ k. Keeps) (length columns) columns news
      → IsTable ids news × (table_with ids news ≡ table_with ids columns)
  table-keeps news few keeps =
      let rows = rows-same (length ids) ids columns news few keeps in
      let kinds = kinds-same (λ k. Keeps) columns news few (λ k old new keep. keep.kind) keeps in (
        record {
          cells = λ k d lt. (keeps k d (omega arith)).cells (length ids) (is.cells k d (omega arith));
          rise =
              subst Rising (sym rows) is.rise;
        },
        rw (kinds, rows) refl,
      )

  -- a row is put in
  pub table-insert : (others : List ℕ) (news : List Cells) (row at : ℕ) (bytes : List ℕ) → others ≡ insert ids at row
      → at ≡ prefix_len (λ id. nat_lt id row) ids → is_present (rows_in ids columns) row ≡ false → length news ≡ length columns
      → Each (IsPutIn (length ids) at columns bytes) (length columns) columns news
      → IsTable others news
      × (table_with others news
      ≡ record { kinds = kinds_with columns; rows = with_row (rows_in ids columns) row (values_of (kinds_with columns) bytes) })
  table-insert others news row at bytes put place away few each =
      let values = values_of (kinds_with columns) bytes in
      let here : at ≡ place_in (rows_in ids columns) row = place ∙ sym (table-place row) in
      let within : at ≤ length ids =
      omega (arith, here, place-within row (rows_in ids columns), table-length) in
      let more : length others ≡ length ids + 1 = ap length put ∙ length-insert ids at row within in
      let made : rows_in others news ≡ with_row (rows_in ids columns) row values =
      ap (λ n. rows_with n others news) more
      ∙ ap (λ others. rows_with (length ids + 1) others news) put
      ∙ rows-insert (length ids) ids at row bytes columns news refl few is.cells each
      ∙ ap (λ at. insert (rows_in ids columns) at (row, values)) here
      ∙ sym (with_row-insert row values (rows_in ids columns) is.rise away) in
      let kinds = kinds-same (IsPutIn (length ids) at columns bytes) columns news few (λ k old new one. one.kind) each in (
        record {
          cells = subst (λ n. AllCells n news) (sym more)
              (cells-after (IsPutIn (length ids) at columns bytes) (length ids + 1) columns news few (λ k old new one. one.cells) each);
          rise = subst Rising (sym made) (rising-with_row row values (rows_in ids columns) is.rise away);
        },
        λ i. record { kinds = kinds i; rows = made i },
      )

  -- a row is taken out
  pub table-remove : (others : List ℕ) (news : List Cells) (row at : ℕ) → others ≡ remove ids at
      → at ≡ prefix_len (λ id. nat_lt id row) ids → is_present (rows_in ids columns) row ≡ true → length news ≡ length columns
      → Each (λ k. IsTaken (length ids) at) (length columns) columns news
      → IsTable others news
      × (table_with others news ≡ record { kinds = kinds_with columns; rows = without_row (rows_in ids columns) row })
  table-remove others news row at taken place there few each =
      let here : at ≡ place_in (rows_in ids columns) row = place ∙ sym (table-place row) in
      let within : at < length ids = omega (arith, here, there-within row (rows_in ids columns) is.rise there, table-length) in
      let fewer : length others + 1 ≡ length ids = ap (λ others. length others + 1) taken ∙ length-remove ids at within in
      let made : rows_in others news ≡ without_row (rows_in ids columns) row =
      ap (λ ids. rows_with (length others) ids news) taken
      ∙ rows-remove (length ids) (length others) ids at columns news refl fewer few is.cells each
      ∙ ap (remove (rows_in ids columns)) here
      ∙ sym (without_row-remove row (rows_in ids columns) is.rise there) in
      let kinds = kinds-same (λ k. IsTaken (length ids) at) columns news few (λ k old new one. one.kind) each in (
        record {
          cells = cells-after (λ k. IsTaken (length ids) at) (length others) columns news few
              (λ k old new one. one.cells (length others) fewer) each;
          rise = subst Rising (sym made) (rising-without_row row (rows_in ids columns) is.rise);
        },
        λ i. record { kinds = kinds i; rows = made i },
      )

  halves : (at : ℕ) → Rising (take at (rows_in ids columns)) × Rising (drop at (rows_in ids columns))
  halves at =
      let parts = rising-parts (take at (rows_in ids columns)) (drop at (rows_in ids columns))
      (subst Rising (sym (take-append-drop at (rows_in ids columns))) is.rise) in
      (parts.0, parts.1)

  -- the rows before an index
  pub table-take : (others : List ℕ) (news : List Cells) (at : ℕ) → others ≡ take at ids → at ≤ length ids → length news ≡ length columns
      → Each (λ k. IsFront (length ids) at) (length columns) columns news
      → IsTable others news × (table_with others news ≡ record { kinds = kinds_with columns; rows = take at (rows_in ids columns) })
  table-take others news at cut within few each =
      let many : length others ≡ at = ap length cut ∙ length-take-le at ids within in
      let made : rows_in others news ≡ take at (rows_in ids columns) =
      ap (λ n. rows_with n others news) many ∙ ap (λ others. rows_with at others news) cut
      ∙ rows-take (length ids) ids at columns news few each in
      let kinds = kinds-same (λ k. IsFront (length ids) at) columns news few (λ k old new one. one.kind) each in (
        record {
          cells = subst (λ n. AllCells n news) (sym many)
              (cells-after (λ k. IsFront (length ids) at) at columns news few (λ k old new one. one.cells) each);
          rise = subst Rising (sym made) (halves at).0;
        },
        λ i. record { kinds = kinds i; rows = made i },
      )

  -- the rows from an index on
  pub table-drop : (others : List ℕ) (news : List Cells) (at : ℕ) → others ≡ drop at ids → at ≤ length ids → length news ≡ length columns
      → Each (λ k. IsTail (length ids) at) (length columns) columns news
      → IsTable others news × (table_with others news ≡ record { kinds = kinds_with columns; rows = drop at (rows_in ids columns) })
  table-drop others news at cut within few each =
      let e : length others + at ≡ length ids = omega (arith, ap length cut, length-drop at ids) in
      let made : rows_in others news ≡ drop at (rows_in ids columns) =
      ap (λ ids. rows_with (length others) ids news) cut ∙ rows-drop (length ids) (length others) ids at columns news e few each in
      let kinds = kinds-same (λ k. IsTail (length ids) at) columns news few (λ k old new one. one.kind) each in (
        record {
          cells = cells-after (λ k. IsTail (length ids) at) (length others) columns news few
              (λ k old new one. one.cells (length others) e) each;
          rise = subst Rising (sym made) (halves at).1;
        },
        λ i. record { kinds = kinds i; rows = made i },
      )

  -- another value in one column of a row
  pub table-set : (row k : ℕ) (new : Cells) (value : Value) (values : List Value) (d : Cells)
      → row_at (rows_in ids columns) row ≡ Some values
      → k < length columns → AreCells (length ids) new → kind_of new ≡ kind_of (get_or columns k d)
      → values_in (length ids) new ≡ slice_set (values_in (length ids) (get_or columns k d)) (place_in (rows_in ids columns) row) value
      → IsTable ids (slice_set columns k new)
      × (table_with ids (slice_set columns k new)
      ≡ record { kinds = kinds_with columns; rows = set_value (is_at (nat_cmp row)) (rows_in ids columns) (slice_set values k value) })
  table-set row k new value values d found lt cells kind set =
      let rows = rows_in ids columns in
      let there : is_present rows row ≡ true = ap is_some found in
      let within : place_in rows row < length ids = omega (arith, there-within row rows is.rise there, table-length) in
      let made : rows_in ids (slice_set columns k new) ≡ set_value (is_at (nat_cmp row)) rows (slice_set values k value) =
      rows-set (length ids) ids columns (place_in rows row) k new value row values d refl is.cells within lt
      (there-at row rows values is.rise found) set
      ∙ sym (set-place row (slice_set values k value) rows is.rise there) in
      let kinds : kinds_with (slice_set columns k new) ≡ kinds_with columns = same-kinds columns k kind in (
        record {
          cells = λ j e few. elim (cases_eq j k) [
            | inl same ↦ rw (same, get_or-set_same columns k new e lt) cells
            | inr other ↦ rw (get_or-set_other columns k j new e other) (is.cells j e (omega (arith, few, length-set columns k new)))
          ];
          rise = subst Rising (sym made) (rising-set row (slice_set values k value) rows is.rise);
        },
        λ i. record { kinds = kinds i; rows = made i },
      )
    where
      same-kinds : (columns : List Cells) (k : ℕ) → kind_of new ≡ kind_of (get_or columns k d)
          → kinds_with (slice_set columns k new) ≡ kinds_with columns
      same-kinds [] k e = refl
      same-kinds (column ∷ columns) zero e = rw e refl
      same-kinds (column ∷ columns) (suc k) e = ap (λ kinds. kind_of column ∷ kinds) (same-kinds columns k e)

  -- bytes in the place of one column's of a row, or of none
  pub patch-none : (row offset : ℕ) (bytes : List ℕ) → column_at (kinds_with columns) offset (length bytes) ≡ None
      → with_patch (kinds_with columns) (rows_in ids columns) row offset bytes ≡ rows_in ids columns
  patch-none row offset bytes none = by (row_at (rows_in ids columns) row) refl
    where
      by : (found : Option (List Value)) → row_at (rows_in ids columns) row ≡ found
          → with_patch (kinds_with columns) (rows_in ids columns) row offset bytes ≡ rows_in ids columns
      by None e = rw e refl
      by (Some values) e = rw (e, none) (set-same row values (rows_in ids columns) e)

  pub patch-some : (row offset : ℕ) (bytes : List ℕ) (values : List Value) (column : ℕ × Kind)
      → row_at (rows_in ids columns) row ≡ Some values
      → column_at (kinds_with columns) offset (length bytes) ≡ Some column
      → with_patch (kinds_with columns) (rows_in ids columns) row offset bytes
      ≡ set_value (is_at (nat_cmp row)) (rows_in ids columns) (slice_set values column.0 (value_of column.1 bytes))
  patch-some row offset bytes values column found at = rw (found, at) refl

  pub column-within : (offset size : ℕ) (column : ℕ) (kind : Kind) → column_at (kinds_with columns) offset size ≡ Some (column, kind)
      → column < length columns
  column-within offset size column kind at =
      let found = column-found 0 (kinds_with columns) offset size column kind at in
      let same : column - 0 ≡ column = omega arith in
      let here : slice_get (kinds_with columns) column ≡ Some kind = rw same at found.1 in
      let lt = slice_get_within (kinds_with columns) column kind here in
      omega (arith, lt, length-map columns kind_of)

  -- the column that the bytes are of
  pub column-here : (offset size : ℕ) (column : ℕ) (kind : Kind) (d : Cells)
      → column_at (kinds_with columns) offset size ≡ Some (column, kind)
      → (column < length columns) × (kind_of (get_or columns column d) ≡ kind) × (size ≡ width_of kind)
  column-here offset size column kind d at =
      let found = column-found 0 (kinds_with columns) offset size column kind at in
      let same : column - 0 ≡ column = omega arith in
      let here : slice_get (kinds_with columns) column ≡ Some kind = rw same at found.1 in
      let lt = slice_get_within (kinds_with columns) column kind here in
      (omega (arith, lt, length-map columns kind_of), read columns column here, found.2)
    where
      read : (columns : List Cells) (k : ℕ) → slice_get (kinds_with columns) k ≡ Some kind → kind_of (get_or columns k d) ≡ kind
      read [] k e = cc
      read (first ∷ columns) zero e = same_Some (kind_of first) kind e
      read (first ∷ columns) (suc k) e = read columns k e
