-- Rows as columns: what is put in, taken out or replaced in each column is so in the rows.
use Rattle.std.proofs.Common.{◌≡◌, ℕ, zero, suc, ◌+◌, ◌-◌, ◌<◌, ◌≤◌, Bool, true, false, cond, ◌==◌, ◌&&◌, nat_lt, List, [], ◌∷◌, ◌++◌}
use Rattle.std.proofs.Common.{length, get_or, take, drop, map, None, Some, slice_get, slice_set}
use Rattle.std.proofs.Common.{refl, sym, ap, ◌∙◌, arith}
use Rattle.std.specs.List.{insert, remove}
use Rattle.std.specs.Map.{keys_of}
use Rattle.std.proofs.lemmas.List.{length-map, length-take, map-append, take-map, drop-map, drop-drop}
use Rattle.std.proofs.lemmas.List.Sums.{sum_by-cons}
use Rattle.std.proofs.lemmas.Map.Entries.{length-keys_of}
use Rattle.std.proofs.lemmas.Bool.{eqb-true, and_parts}
use Rattle.std.proofs.lemmas.Option.{same_Some}
use Rattle.rows.specs.declared.kind.Kind.{Kind}
use Rattle.rows.specs.declared.value.Value.{Value}
use Rattle.rows.specs.declared.value.Value.TheVariants as values
use Rattle.rows.specs.Shape.{row_width, width_of, column_from}
use Rattle.rows.specs.Values.{value_of, values_of}
use Rattle.rows.specs.Tables.{Rows}
use Rattle.apply.specs.declared.cells.Cells.{Cells}
use Rattle.apply.specs.declared.cells.Cells.TheVariants.{Numbers, Octets}
use Rattle.apply.specs.Columns.{kind_of, values_in, AreCells, Keeps, IsTail}
use Rattle.apply.specs.Blocks.{beside, rows_with, kinds_with, cell_in}
use Rattle.apply.specs.Inner.Edits.{AllCells, Each, IsPut, IsTaken, IsFront, IsPutIn, bytes_from}
use Rattle.apply.proofs.Wide.{octets-length}

pub values-length : (rows : ℕ) (column : Cells) → AreCells rows column → length (values_in rows column) ≡ rows
values-length rows (Numbers numbers) h = length-map numbers.items values.Int ∙ h
values-length rows (Octets width bytes) h = octets-length width rows bytes.items

beside-keys : (values : List Value) (rows : Rows) → length values ≡ length rows → keys_of (beside values rows) ≡ keys_of rows
beside-keys [] [] h = refl
beside-keys [] (row ∷ rows) h = absurd (omega arith)
beside-keys (value ∷ values) [] h = absurd (omega arith)
beside-keys (value ∷ values) (row ∷ rows) h = ap (λ ids. row.0 ∷ ids) (beside-keys values rows (omega arith))

beside-append : (front back : List Value) (rows others : Rows) → length front ≡ length rows
    → beside (front ++ back) (rows ++ others) ≡ beside front rows ++ beside back others
beside-append [] back [] others h = refl
beside-append [] back (row ∷ rows) others h = absurd (omega arith)
beside-append (value ∷ front) back [] others h = absurd (omega arith)
beside-append (value ∷ front) back (row ∷ rows) others h =
    ap (λ rest. (row.0, value ∷ row.1) ∷ rest) (beside-append front back rows others (omega arith))

beside-nil : (values : List Value) → beside values [] ≡ []
beside-nil [] = refl
beside-nil (value ∷ values) = refl

beside-take : (n : ℕ) (values : List Value) (rows : Rows) → beside (take n values) (take n rows) ≡ take n (beside values rows)
beside-take zero values rows = refl
beside-take (suc n) [] rows = refl
beside-take (suc n) (value ∷ values) [] = refl
beside-take (suc n) (value ∷ values) (row ∷ rows) = ap (λ rest. (row.0, value ∷ row.1) ∷ rest) (beside-take n values rows)

beside-drop : (n : ℕ) (values : List Value) (rows : Rows) → beside (drop n values) (drop n rows) ≡ drop n (beside values rows)
beside-drop zero values rows = refl
beside-drop (suc n) [] rows = refl
beside-drop (suc n) (value ∷ values) [] = beside-nil (drop n values)
beside-drop (suc n) (value ∷ values) (row ∷ rows) = beside-drop n values rows

same-take : (n : ℕ) (values : List Value) (rows : Rows) → length values ≡ length rows → length (take n values) ≡ length (take n rows)
same-take n values rows h = omega (arith, length-take n values, length-take n rows, h)

beside-insert : (values : List Value) (rows : Rows) (at row : ℕ) (value : Value) (others : List Value) → length values ≡ length rows
    → beside (insert values at value) (insert rows at (row, others)) ≡ insert (beside values rows) at (row, value ∷ others)
beside-insert values rows at row value others h =
    beside-append (take at values) (value ∷ drop at values) (take at rows) ((row, others) ∷ drop at rows) (same-take at values rows h)
    ∙ rw (beside-take at values rows, beside-drop at values rows) refl

beside-remove : (values : List Value) (rows : Rows) (at : ℕ) → length values ≡ length rows
    → beside (remove values at) (remove rows at) ≡ remove (beside values rows) at
beside-remove values rows at h =
    beside-append (take at values) (drop (suc at) values) (take at rows) (drop (suc at) rows) (same-take at values rows h)
    ∙ rw (beside-take at values rows, beside-drop (suc at) values rows) refl

-- ---- all columns

abbrev bare : ℕ → ℕ × List Value
bare id = (id, [])

bare-keys : (ids : List ℕ) → keys_of (map bare ids) ≡ ids
bare-keys [] = refl
bare-keys (id ∷ ids) = ap (λ ids. id ∷ ids) (bare-keys ids)

tail-cells : (count : ℕ) (column : Cells) (columns : List Cells) → AllCells count (column ∷ columns) → AllCells count columns
tail-cells count column columns h k d lt = h (suc k) d (omega arith)

pub rows-keys : (count : ℕ) (ids : List ℕ) (columns : List Cells) → length ids ≡ count → AllCells count columns
    → keys_of (rows_with count ids columns) ≡ ids
rows-keys count ids [] same h = bare-keys ids
rows-keys count ids (column ∷ columns) same h =
    let rest = rows-keys count ids columns same (tail-cells count column columns h) in
    let many = length-keys_of (rows_with count ids columns) in
    let values = values-length count column (h zero column (omega arith)) in
    beside-keys (values_in count column) (rows_with count ids columns) (omega (arith, values, same, many, ap length rest)) ∙ rest

pub rows-length : (count : ℕ) (ids : List ℕ) (columns : List Cells) → length ids ≡ count → AllCells count columns
    → length (rows_with count ids columns) ≡ count
rows-length count ids columns same h =
    let keys = ap length (rows-keys count ids columns same h) in
    omega (arith, length-keys_of (rows_with count ids columns), keys, same)

values-rows : (count : ℕ) (ids : List ℕ) (column : Cells) (columns : List Cells) → length ids ≡ count → AllCells count (column ∷ columns)
    → length (values_in count column) ≡ length (rows_with count ids columns)
values-rows count ids column columns same h =
    values-length count column (h zero column (omega arith)) ∙ sym (rows-length count ids columns same (tail-cells count column columns h))

-- a row that is put in
pub rows-insert : (count : ℕ) (ids : List ℕ) (at row : ℕ) (bytes : List ℕ) (olds news : List Cells) → length ids ≡ count
    → length news ≡ length olds → AllCells count olds → Each (IsPutIn count at olds bytes) (length olds) olds news
    → rows_with (count + 1) (insert ids at row) news ≡ insert (rows_with count ids olds) at (row, values_of (kinds_with olds) bytes)
rows-insert count ids at row bytes [] [] same few cells put =
    map-append bare (take at ids) (row ∷ drop at ids) ∙ rw (take-map bare at ids, drop-map bare at ids) refl
rows-insert count ids at row bytes [] (new ∷ news) same few cells put = absurd (omega arith)
rows-insert count ids at row bytes (old ∷ olds) [] same few cells put = absurd (omega arith)
rows-insert count ids at row bytes (old ∷ olds) (new ∷ news) same few cells put =
    let first : IsPut count at (value_of (kind_of old) bytes) old new = put zero old (omega arith) in
    let rest = rows-insert count ids at row (drop (width_of (kind_of old)) bytes) olds news same (omega arith)
    (tail-cells count old olds cells) (λ k d lt. later k d lt) in
    rw (first.values, rest) (beside-insert (values_in count old) (rows_with count ids olds) at row (value_of (kind_of old) bytes)
    (values_of (kinds_with olds) (drop (width_of (kind_of old)) bytes)) (values-rows count ids old olds same cells))
  where
    later : (k : ℕ) (d : Cells) → k < length olds
        → IsPutIn count at olds (drop (width_of (kind_of old)) bytes) k (get_or olds k d) (get_or news k d)
    later k d lt =
        let bytes_same : bytes_from olds k (drop (width_of (kind_of old)) bytes) ≡ bytes_from (old ∷ olds) (suc k) bytes =
        drop-drop (row_width (take k (kinds_with olds))) (width_of (kind_of old)) bytes
        ∙ ap (λ n. drop n bytes) (sym (sum_by-cons width_of (kind_of old) (take k (kinds_with olds)))) in
        rw bytes_same (put (suc k) d (omega arith))

-- a row that is taken out
pub rows-remove : (count left : ℕ) (ids : List ℕ) (at : ℕ) (olds news : List Cells) → length ids ≡ count → left + 1 ≡ count
    → length news ≡ length olds → AllCells count olds → Each (λ k. IsTaken count at) (length olds) olds news
    → rows_with left (remove ids at) news ≡ remove (rows_with count ids olds) at
rows-remove count left ids at [] [] same fewer few cells taken =
    map-append bare (take at ids) (drop (suc at) ids) ∙ rw (take-map bare at ids, drop-map bare (suc at) ids) refl
rows-remove count left ids at [] (new ∷ news) same fewer few cells taken = absurd (omega arith)
rows-remove count left ids at (old ∷ olds) [] same fewer few cells taken = absurd (omega arith)
rows-remove count left ids at (old ∷ olds) (new ∷ news) same fewer few cells taken =
    let first : IsTaken count at old new = taken zero old (omega arith) in
    let rest = rows-remove count left ids at olds news same fewer (omega arith) (tail-cells count old olds cells)
    (λ k d lt. taken (suc k) d (omega arith)) in
    rw (first.values left fewer, rest)
    (beside-remove (values_in count old) (rows_with count ids olds) at (values-rows count ids old olds same cells))

-- the rows before a place, and those from it on
pub rows-take : (count : ℕ) (ids : List ℕ) (at : ℕ) (olds news : List Cells) → length news ≡ length olds
    → Each (λ k. IsFront count at) (length olds) olds news → rows_with at (take at ids) news ≡ take at (rows_with count ids olds)
rows-take count ids at [] [] few front = sym (take-map bare at ids)
rows-take count ids at [] (new ∷ news) few front = absurd (omega arith)
rows-take count ids at (old ∷ olds) [] few front = absurd (omega arith)
rows-take count ids at (old ∷ olds) (new ∷ news) few front =
    let first : IsFront count at old new = front zero old (omega arith) in
    let rest = rows-take count ids at olds news (omega arith) (λ k d lt. front (suc k) d (omega arith)) in
    rw (first.values, rest) (beside-take at (values_in count old) (rows_with count ids olds))

pub rows-drop : (count cut : ℕ) (ids : List ℕ) (at : ℕ) (olds news : List Cells) → cut + at ≡ count → length news ≡ length olds
    → Each (λ k. IsTail count at) (length olds) olds news → rows_with cut (drop at ids) news ≡ drop at (rows_with count ids olds)
rows-drop count cut ids at [] [] e few tail = sym (drop-map bare at ids)
rows-drop count cut ids at [] (new ∷ news) e few tail = absurd (omega arith)
rows-drop count cut ids at (old ∷ olds) [] e few tail = absurd (omega arith)
rows-drop count cut ids at (old ∷ olds) (new ∷ news) e few tail =
    let first : IsTail count at old new = tail zero old (omega arith) in
    let rest = rows-drop count cut ids at olds news e (omega arith) (λ k d lt. tail (suc k) d (omega arith)) in
    rw (first.values cut e, rest) (beside-drop at (values_in count old) (rows_with count ids olds))

-- columns that keep their values
pub rows-same : (count : ℕ) (ids : List ℕ) (olds news : List Cells) → length news ≡ length olds
    → Each (λ k. Keeps) (length olds) olds news → rows_with count ids news ≡ rows_with count ids olds
rows-same count ids [] [] few keeps = refl
rows-same count ids [] (new ∷ news) few keeps = absurd (omega arith)
rows-same count ids (old ∷ olds) [] few keeps = absurd (omega arith)
rows-same count ids (old ∷ olds) (new ∷ news) few keeps =
    let first : Keeps old new = keeps zero old (omega arith) in
    rw (first.values count, rows-same count ids olds news (omega arith) (λ k d lt. keeps (suc k) d (omega arith))) refl

-- the kinds stay
pub kinds-same : (R : ℕ → Cells → Cells → Type 0) (olds news : List Cells) → length news ≡ length olds
    → ((k : ℕ) (old new : Cells) → R k old new → kind_of new ≡ kind_of old) → Each R (length olds) olds news
    → kinds_with news ≡ kinds_with olds
kinds-same R [] [] few kind each = refl
kinds-same R [] (new ∷ news) few kind each = absurd (omega arith)
kinds-same R (old ∷ olds) [] few kind each = absurd (omega arith)
kinds-same R (old ∷ olds) (new ∷ news) few kind each =
    let first = kind zero old new (each zero old (omega arith)) in
    let rest = kinds-same (λ k. R (suc k)) olds news (omega arith) (λ k. kind (suc k)) (λ k d lt. each (suc k) d (omega arith)) in
    rw (first, rest) refl

-- no rows
pub rows-none : (count : ℕ) (columns : List Cells) → rows_with count [] columns ≡ []
rows-none count [] = refl
rows-none count (column ∷ columns) = ap (beside (values_in count column)) (rows-none count columns) ∙ beside-nil (values_in count column)

beside-get : (values : List Value) (rows : Rows) (at : ℕ) (value : Value) (row : ℕ × List Value) → slice_get values at ≡ Some value
    → slice_get rows at ≡ Some row → slice_get (beside values rows) at ≡ Some (row.0, value ∷ row.1)
beside-get [] rows at value row v r = cc
beside-get (one ∷ values) [] at value row v r = cc
beside-get (one ∷ values) (first ∷ rows) zero value row v r =
    let same : one ≡ value = same_Some one value v in
    let here : first ≡ row = same_Some first row r in
    rw (same, here) refl
beside-get (one ∷ values) (first ∷ rows) (suc at) value row v r = beside-get values rows at value row v r

some-at : {X : Type 0} (xs : List X) (i : ℕ) → i < length xs → (x : X) × (slice_get xs i ≡ Some x)
some-at [] i lt = absurd (omega arith)
some-at (x ∷ xs) zero lt = (x, refl)
some-at (x ∷ xs) (suc i) lt = some-at xs i (omega arith)

-- the value of one column of a row
pub rows-cell : (count : ℕ) (ids : List ℕ) (columns : List Cells) (at k : ℕ) (d : Cells) → length ids ≡ count → AllCells count columns
    → at < count → k < length columns → cell_in (rows_with count ids columns) at k ≡ slice_get (values_in count (get_or columns k d)) at
rows-cell count ids [] at k d same cells within lt = absurd (omega arith)
rows-cell count ids (column ∷ columns) at k d same cells within lt =
    by k lt (λ k lt. rows-cell count ids columns at k d same (tail-cells count column columns cells) within lt)
  where
    rest : AllCells count columns
    rest = tail-cells count column columns cells

    row : (row : ℕ × List Value) × (slice_get (rows_with count ids columns) at ≡ Some row)
    row = some-at (rows_with count ids columns) at (omega (arith, rows-length count ids columns same rest, within))

    value : (value : Value) × (slice_get (values_in count column) at ≡ Some value)
    value = some-at (values_in count column) at (omega (arith, values-length count column (cells zero column (omega arith)), within))

    both : slice_get (rows_with count ids (column ∷ columns)) at ≡ Some (row.0.0, value.0 ∷ row.0.1)
    both = beside-get (values_in count column) (rows_with count ids columns) at value.0 row.0 value.1 row.1

    by : (k : ℕ) → k < length (column ∷ columns)
        → ((k : ℕ) → k < length columns → cell_in (rows_with count ids columns) at k ≡ slice_get (values_in count (get_or columns k d)) at)
        → cell_in (rows_with count ids (column ∷ columns)) at k ≡ slice_get (values_in count (get_or (column ∷ columns) k d)) at
    by zero lt others = rw both (sym value.1)
    by (suc k) lt others =
        let other = others k (omega arith) in
        rw both (rw row.1 at other)

-- ---- one value

beside-set-front : (values : List Value) (rows : Rows) (at : ℕ) (value : Value) (row : ℕ) (others : List Value)
    → slice_get rows at ≡ Some (row, others)
    → beside (slice_set values at value) rows ≡ slice_set (beside values rows) at (row, value ∷ others)
beside-set-front [] rows at value row others r = refl
beside-set-front (one ∷ values) [] at value row others r = cc
beside-set-front (one ∷ values) (first ∷ rows) zero value row others r =
    let here : first ≡ (row, others) = same_Some first (row, others) r in
    rw here refl
beside-set-front (one ∷ values) (first ∷ rows) (suc at) value row others r =
    ap (λ rest. (first.0, one ∷ first.1) ∷ rest) (beside-set-front values rows at value row others r)

beside-set-back : (values : List Value) (rows : Rows) (at : ℕ) (value : Value) (row : ℕ) (others : List Value)
    → slice_get values at ≡ Some value
    → beside values (slice_set rows at (row, others)) ≡ slice_set (beside values rows) at (row, value ∷ others)
beside-set-back [] rows at value row others v = refl
beside-set-back (one ∷ values) [] at value row others v = refl
beside-set-back (one ∷ values) (first ∷ rows) zero value row others v =
    let same : one ≡ value = same_Some one value v in
    rw same refl
beside-set-back (one ∷ values) (first ∷ rows) (suc at) value row others v =
    ap (λ rest. (first.0, one ∷ first.1) ∷ rest) (beside-set-back values rows at value row others v)

-- another value in one column of a row
pub rows-set : (count : ℕ) (ids : List ℕ) (columns : List Cells) (at k : ℕ) (new : Cells) (value : Value) (row : ℕ)
    (vals : List Value) (d : Cells)
    → length ids ≡ count → AllCells count columns → at < count → k < length columns
    → slice_get (rows_with count ids columns) at ≡ Some (row, vals)
    → values_in count new ≡ slice_set (values_in count (get_or columns k d)) at value
    → rows_with count ids (slice_set columns k new) ≡ slice_set (rows_with count ids columns) at (row, slice_set vals k value)
rows-set count ids [] at k new value row vals d same cells within lt here set = absurd (omega arith)
rows-set count ids (column ∷ columns) at k new value row vals d same cells within lt here set =
    by k lt set (λ k lt others there set. rows-set count ids columns at k new value row others d same
    (tail-cells count column columns cells) within lt there set)
  where
    rest : AllCells count columns
    rest = tail-cells count column columns cells

    other : (row : ℕ × List Value) × (slice_get (rows_with count ids columns) at ≡ Some row)
    other = some-at (rows_with count ids columns) at (omega (arith, rows-length count ids columns same rest, within))

    first : (value : Value) × (slice_get (values_in count column) at ≡ Some value)
    first = some-at (values_in count column) at (omega (arith, values-length count column (cells zero column (omega arith)), within))

    both : slice_get (rows_with count ids (column ∷ columns)) at ≡ Some (other.0.0, first.0 ∷ other.0.1)
    both = beside-get (values_in count column) (rows_with count ids columns) at first.0 other.0 first.1 other.1

    same_row : ◌≡◌ {A = ℕ × List Value} (other.0.0, first.0 ∷ other.0.1) (row, vals)
    same_row = same_Some (other.0.0, first.0 ∷ other.0.1) (row, vals) (sym both ∙ here)

    its_row : other.0.0 ≡ row
    its_row = ap (λ (row : ℕ × List Value). row.0) same_row

    its_vals : first.0 ∷ other.0.1 ≡ vals
    its_vals = ap (λ (row : ℕ × List Value). row.1) same_row

    behind : slice_get (rows_with count ids columns) at ≡ Some (row, other.0.1)
    behind = other.1 ∙ ap (λ row. Some (row, other.0.1)) its_row

    by : (k : ℕ) → k < length (column ∷ columns)
        → values_in count new ≡ slice_set (values_in count (get_or (column ∷ columns) k d)) at value
        → ((k : ℕ) → k < length columns → (others : List Value) → slice_get (rows_with count ids columns) at ≡ Some (row, others)
        → values_in count new ≡ slice_set (values_in count (get_or columns k d)) at value
        → rows_with count ids (slice_set columns k new) ≡ slice_set (rows_with count ids columns) at (row, slice_set others k value))
        → rows_with count ids (slice_set (column ∷ columns) k new)
        ≡ slice_set (rows_with count ids (column ∷ columns)) at (row, slice_set vals k value)
    by zero lt set others =
        rw (set, ← its_vals) (beside-set-front (values_in count column) (rows_with count ids columns) at value row other.0.1 behind)
    by (suc k) lt set others =
        rw (others k (omega arith) other.0.1 behind set, ← its_vals)
        (beside-set-back (values_in count column) (rows_with count ids columns) at first.0 row (slice_set other.0.1 k value) first.1)

-- the column of some bytes: its kind, and how wide it is
pub column-found : (before : ℕ) (kinds : List Kind) (offset size column : ℕ) (kind : Kind)
    → column_from before kinds offset size ≡ Some (column, kind)
    → (before ≤ column) × (slice_get kinds (column - before) ≡ Some kind) × (size ≡ width_of kind)
column-found before [] offset size column kind e = absurd cc
column-found before (first ∷ kinds) offset size column kind e =
    by ((offset == 0) && (size == width_of first)) (nat_lt offset (width_of first)) refl
    (λ e. column-found (before + 1) kinds (offset - width_of first) size column kind e) e
  where
    by : (found short : Bool) → ((offset == 0) && (size == width_of first)) ≡ found
        → (column_from (before + 1) kinds (offset - width_of first) size ≡ Some (column, kind)
        → (before + 1 ≤ column) × (slice_get kinds (column - (before + 1)) ≡ Some kind) × (size ≡ width_of kind))
        → cond found (Some (before, first)) (cond short None (column_from (before + 1) kinds (offset - width_of first) size))
        ≡ Some (column, kind)
        → (before ≤ column) × (slice_get (first ∷ kinds) (column - before) ≡ Some kind) × (size ≡ width_of kind)
    by true short f others e =
        let same = same_Some (before, first) (column, kind) e in
        let at : before ≡ column = ap (λ (found : ℕ × Kind). found.0) same in
        let is : first ≡ kind = ap (λ (found : ℕ × Kind). found.1) same in
        let none : column - before ≡ 0 = omega (arith, at) in
        let wide = eqb-true size (width_of first) (and_parts (offset == 0) (size == width_of first) f).1 in
        (omega (arith, at), rw (none, ← is) refl, rw (← is) wide)
    by false true f others e = absurd cc
    by false false f others e =
        let behind = others e in
        let more : column - before ≡ suc (column - (before + 1)) = omega (arith, behind.0) in
        (omega (arith, behind.0), rw more behind.1, behind.2)
