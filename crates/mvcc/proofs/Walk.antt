-- The walk over a transaction's entries, the kinds of the row's table going along.
use Rattle.std.proofs.Common.{◌≡◌, ℕ, zero, suc, Bool, true, false, cond, ◌==◌, List, [], ◌∷◌, ◌++◌, length, Option, None, Some, Ok, Err}
use Rattle.std.proofs.Common.{slice_get, ◌+◌, drop, refl, sym, ap, subst, ◌∙◌, arith}
use Rattle.std.specs.Option.{option_map, unwrap_or, IfSome}
use Rattle.std.specs.Result.{is_ok}
use Rattle.std.proofs.lemmas.Bool.{and_parts}
use Rattle.std.proofs.lemmas.Bool.Decides.{nat_tests}
use Rattle.std.proofs.lemmas.List.{length-set, length_push}
use Rattle.rows.specs.declared.entry.Entry.{Entry}
use Rattle.rows.specs.declared.entry.Entry.TheVariants.{Insert, Patch, Delete, AddColumn}
use Rattle.rows.specs.declared.faults.EntryFault.TheVariants.{WrongSize}
use Rattle.rows.specs.declared.kind.Kind.{Kind}
use Rattle.rows.specs.declared.value.Value.{Value}
use Rattle.rows.specs.Shape.{Shape, row_width, width_of, column_at}
use Rattle.rows.specs.Values.{value_of, values_of, kind_of, is_of_kind, are_of_kinds}
use Rattle.rows.specs.Entries.{addable, has_room, shape_after_one}
use Rattle.rows.specs.Tables.{Tables, shape_in, kinds_of, rows_of, row_at, patched_row, RowsAreOfKinds}
use Rattle.rows.specs.Commits.{is_of}
use Rattle.rows.specs.RowAfter.{row_after_fit, inserted_row}
use Rattle.mvcc.specs.Inner.Cells.{cell_of, added_cell, cell_after_one, cell_walked, IsAsMany}
use Rattle.mvcc.specs.Inner.Columns.{kinds_after_one}
use Rattle.mvcc.proofs.CellLaws.{effect-cell}
use Rattle.mvcc.proofs.Effects.{effect, step, step-is}
use Rattle.mvcc.proofs.KindsUpto.{after-entries}

-- ---- one entry

slice_get-more : (values : List Value) (default : Value) (column : ℕ)
    → slice_get (values ++ default ∷ []) column ≡ cond (column == length values) (Some default) (slice_get values column)
slice_get-more [] default zero = refl
slice_get-more [] default (suc column) = ap (λ b. cond b (Some default) None) (past column)
  where
    past : (i : ℕ) → false ≡ (suc i == 0)
    past i = grind (arith, nat_tests)
slice_get-more (first ∷ values) default zero = ap (λ b. cond b (Some default) (Some first)) (below (length values))
  where
    below : (i : ℕ) → false ≡ (0 == suc i)
    below i = grind (arith, nat_tests)
slice_get-more (first ∷ values) default (suc column) =
    slice_get-more values default column
    ∙ ap (λ b. cond b (Some default) (slice_get values column)) (next column (length values))
  where
    next : (i j : ℕ) → (i == j) ≡ (suc i == suc j)
    next i j = grind (arith, nat_tests)

ok-room : (kinds : List Kind) (default : Value) → is_ok (addable (Some kinds) default) ≡ has_room kinds (kind_of default)
ok-room kinds default = by (has_room kinds (kind_of default))
  where
    by : (b : Bool) → is_ok (cond b (Ok (tt {0})) (Err WrongSize)) ≡ b
    by true = refl
    by false = refl

-- what an entry makes of a column of its row
made-cell : (kinds : List Kind) (column : ℕ) (entry : Entry) (was : Option (List Value)) → IsAsMany kinds was
    → cell_of column (effect (Some kinds) entry was) ≡ cell_after_one kinds column entry (cell_of column was)
made-cell kinds column (Insert table row bytes) was many = effect-cell kinds column (Insert table row bytes) was refl
made-cell kinds column (Patch table row offset bytes) was many = effect-cell kinds column (Patch table row offset bytes) was refl
made-cell kinds column (Delete table row) was many = effect-cell kinds column (Delete table row) was refl
made-cell kinds column (AddColumn table default) was many =
    by (has_room kinds (kind_of default)) was many
    ∙ ap (λ fits. cond fits (option_map (added_cell kinds default column) (cell_of column was)) (cell_of column was))
    (sym (ok-room kinds default))
  where
    by : (room : Bool) (was : Option (List Value)) → IsAsMany kinds was
        → cell_of column (cond room (option_map (λ values. values ++ default ∷ []) was) was)
        ≡ cond room (option_map (added_cell kinds default column) (cell_of column was)) (cell_of column was)
    by false was many = refl
    by true None many = refl
    by true (Some values) many =
        ap Some (slice_get-more values default column ∙ ap (λ n. cond (column == n) (Some default) (slice_get values column)) many)

-- the row has a value for each kind afterwards
length-values : (kinds : List Kind) (bytes : List ℕ) → length (values_of kinds bytes) ≡ length kinds
length-values [] bytes = refl
length-values (kind ∷ kinds) bytes = ap suc (length-values kinds (drop (width_of kind) bytes))

length-patched : (kinds : List Kind) (offset : ℕ) (bytes : List ℕ) (values : List Value)
    → length (patched_row kinds offset bytes values) ≡ length values
length-patched kinds offset bytes values = by (column_at kinds offset (length bytes)) refl
  where
    by : (found : Option (ℕ × Kind)) → column_at kinds offset (length bytes) ≡ found
        → length (patched_row kinds offset bytes values) ≡ length values
    by None e = rw e refl
    by (Some found) e = rw e (length-set values found.0 (value_of found.1 bytes))

many-made : (kinds : List Kind) (table row : ℕ) (entry : Entry) (was : Option (List Value)) → IsAsMany kinds was
    → IsAsMany (kinds_after_one table kinds entry) (cond (is_of table row entry) (effect (Some kinds) entry was) was)
many-made kinds table row (Insert at id bytes) was many =
    by (is_of table row (Insert at id bytes)) (length bytes == row_width kinds) was many
  where
    by : (here wide : Bool) (was : Option (List Value)) → IsAsMany kinds was
        → IsAsMany kinds (cond here (cond wide (inserted_row kinds bytes was) was) was)
    by false wide was many = many
    by true false was many = many
    by true true None many = length-values kinds bytes
    by true true (Some values) many = many
many-made kinds table row (Patch at id offset bytes) was many = by (is_of table row (Patch at id offset bytes)) was many
  where
    by : (here : Bool) (was : Option (List Value)) → IsAsMany kinds was
        → IsAsMany kinds (cond here (option_map (patched_row kinds offset bytes) was) was)
    by false was many = many
    by true None many = tt
    by true (Some values) many = length-patched kinds offset bytes values ∙ many
many-made kinds table row (Delete at id) was many = by (is_of table row (Delete at id)) was many
  where
    by : (here : Bool) (was : Option (List Value)) → IsAsMany kinds was → IsAsMany kinds (cond here None was)
    by false was many = many
    by true was many = tt
many-made kinds table row (AddColumn at default) was many =
    subst (λ fits. IsAsMany (cond (at == table) (cond fits (kinds ++ kind_of default ∷ []) kinds) kinds)
    (cond (at == table) (effect (Some kinds) (AddColumn at default) was) was))
    (sym (ok-room kinds default)) (by (at == table) (has_room kinds (kind_of default)) was many)
  where
    by : (here room : Bool) (was : Option (List Value)) → IsAsMany kinds was
        → IsAsMany (cond here (cond room (kinds ++ kind_of default ∷ []) kinds) kinds)
        (cond here (cond room (option_map (λ values. values ++ default ∷ []) was) was) was)
    by false room was many = many
    by true false was many = many
    by true true None many = tt
    by true true (Some values) many = length_push values default ∙ ap (λ n. n + 1) many ∙ sym (length_push kinds (kind_of default))

-- ---- all entries

-- a column of what entries make of a row is what they make of the column
pub cells-walked : (shape : Shape) (kinds : List Kind) (table row column : ℕ) (entries : List Entry) (was : Option (List Value))
    → slice_get shape table ≡ Some kinds → IsAsMany kinds was
    → cell_of column (row_after_fit shape table row entries was) ≡ cell_walked kinds table row column entries (cell_of column was)
cells-walked shape kinds table row column [] was there many = refl
cells-walked shape kinds table row column (entry ∷ entries) was there many =
    let next = cond (is_of table row entry) (effect (Some kinds) entry was) was in
    let one : step shape table row entry was ≡ next =
    step-is shape table row entry was ∙ ap (λ found. cond (is_of table row entry) (effect found entry was) was) there in
    let then : slice_get (shape_after_one shape entry) table ≡ Some (kinds_after_one table kinds entry) =
    after-entries shape table (entry ∷ []) ∙ ap (option_map (λ kinds. kinds_after_one table kinds entry)) there in
    ap (λ left. cell_of column (row_after_fit (shape_after_one shape entry) table row entries left)) one
    ∙ cells-walked (shape_after_one shape entry) (kinds_after_one table kinds entry) table row column entries next then
    (many-made kinds table row entry was many)
    ∙ ap (cell_walked (kinds_after_one table kinds entry) table row column entries) (by (is_of table row entry))
  where
    by : (here : Bool) → cell_of column (cond here (effect (Some kinds) entry was) was)
        ≡ cond here (cell_after_one kinds column entry (cell_of column was)) (cell_of column was)
    by true = made-cell kinds column entry was many
    by false = refl

-- in a table that is not there no row changes
pub unlisted : (shape : Shape) (table row : ℕ) (entries : List Entry) (was : Option (List Value)) → slice_get shape table ≡ None
    → row_after_fit shape table row entries was ≡ was
unlisted shape table row [] was none = refl
unlisted shape table row (entry ∷ entries) was none =
    let one : step shape table row entry was ≡ was =
    step-is shape table row entry was ∙ ap (λ found. cond (is_of table row entry) (effect found entry was) was) none
    ∙ alike (is_of table row entry) in
    let then : slice_get (shape_after_one shape entry) table ≡ None =
    after-entries shape table (entry ∷ []) ∙ ap (option_map (λ kinds. kinds_after_one table kinds entry)) none in
    ap (row_after_fit (shape_after_one shape entry) table row entries) one
    ∙ unlisted (shape_after_one shape entry) table row entries was then
  where
    alike : (b : Bool) → cond b was was ≡ was
    alike true = refl
    alike false = refl

-- a row of tables has a value for each of its table's kinds
as-many : (values : List Value) (kinds : List Kind) → are_of_kinds values kinds ≡ true → length values ≡ length kinds
as-many [] [] h = refl
as-many [] (kind ∷ kinds) h = absurd cc
as-many (value ∷ values) [] h = absurd cc
as-many (value ∷ values) (kind ∷ kinds) h =
    ap suc (as-many values kinds (and_parts (is_of_kind value kind) (are_of_kinds values kinds) h).1)

pub rows-many : (tables : Tables) (table row : ℕ) (kinds : List Kind) → RowsAreOfKinds tables
    → slice_get (shape_in tables) table ≡ Some kinds → IsAsMany kinds (row_at (rows_of tables table) row)
rows-many tables table row kinds are there =
    let same : kinds_of tables table ≡ kinds = ap (λ found. unwrap_or found []) there in
    by (row_at (rows_of tables table) row)
    (subst (λ kinds. IfSome (row_at (rows_of tables table) row) (λ values. are_of_kinds values kinds ≡ true)) same (are table row))
  where
    by : (found : Option (List Value)) → IfSome found (λ values. are_of_kinds values kinds ≡ true) → IsAsMany kinds found
    by None h = tt
    by (Some values) h = as-many values kinds h
