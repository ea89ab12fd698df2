-- The columns of a block's rows: as they are lent, and row by row.
use Rattle.std.proofs.Common.{◌≡◌, ℕ, suc, ◌+◌, ◌-◌, ◌<◌, ◌≤◌, ℤ, pos, Bool, true, false, cond, List, [], ◌∷◌, ◌++◌, length, map, take}
use Rattle.std.proofs.Common.{drop, get_or}
use Rattle.std.proofs.Common.{Option, Some, None, IsSome, IfSome, slice_get, refl, sym, ap, ◌∙◌, arith}
use Rattle.std.specs.Option.{unwrap_or}
use Rattle.std.proofs.lemmas.List.{length-map, append-nil, append_assoc, map_more, take_all}
use Rattle.rows.specs.declared.value.Value.{Value}
use Rattle.rows.specs.declared.value.Value.TheVariants.{Int, Octets}
use Rattle.rows.specs.Tables.{Rows, Tables, rows_of, row_at, kinds_of, RowsAreOfKinds}
use Rattle.rows.specs.Values.{are_of_kinds}
use Rattle.store.specs.Changes.{column_of}
use Rattle.store.specs.Lent.{rows_in, rows_from, column_in, octets_in}
use Rattle.plans.specs.declared.block.Block.{Block}
use Rattle.queries.specs.declared.column.Column.TheVariants.{Own}
use Rattle.queries.specs.Answers.{joined_value, values_in}
use Rattle.plans.specs.Inner.BlockRows.{values_by, rows_of_block, IsBlock, alone, own_rows}
use Rattle.plans.proofs.Columns.{value-there}

-- ---- lent columns

-- values that are there, as they are lent
pub lent-values : (values : List Value) (rows : Rows) (column : ℕ) → map Some values ≡ column_in rows column
    → values ≡ values_in (Own column) (map alone rows)
lent-values [] [] column e = refl
lent-values [] (row ∷ rows) column e = absurd (cc)
lent-values (value ∷ values) [] column e = absurd (cc)
lent-values (value ∷ values) (row ∷ rows) column e =
    let first : Some value ≡ slice_get row.1 column = cc in
    let rest : map Some values ≡ column_in rows column = cc in
    let is : value ≡ unwrap_or (slice_get row.1 column) (Int (pos 0)) =
    ap (λ (found : Option Value). unwrap_or found (Int (pos 0))) first in
    cc (is, lent-values values rows column rest)

pub some-numbers : (numbers : List ℤ) → map (λ number. Some (Int number)) numbers ≡ map Some (map Int numbers)
some-numbers [] = refl
some-numbers (number ∷ numbers) = ap (λ rest. Some (Int number) ∷ rest) (some-numbers numbers)

pub column-size : (rows : Rows) (column : ℕ) → length (column_in rows column) ≡ length rows
column-size rows column = length-map rows (λ row. slice_get row.1 column)

pub block-size : (tables : Tables) (block : Block) → length (rows_of_block tables block) ≡ length block.ids.now
block-size tables block = length-map block.ids.now (λ id. (id, values_by (rows_of tables block.table) id))

pub own-size : (tables : Tables) (block : Block) → length (own_rows tables block) ≡ length block.ids.now
own-size tables block = length-map (rows_of_block tables block) alone ∙ block-size tables block

-- where a block lends, its rows are those that are lent of
lent-rows : (tables : Tables) (block : Block) (column count : ℕ) → IsBlock tables block → block.lends ≡ true → count ≡ length block.ids.now
    → column_in (rows_from (rows_in (rows_of tables block.table) block.pieces block.piece) block.from count) column
    ≡ column_in (rows_of_block tables block) column
lent-rows tables block column count is lends counts =
    let here = rows_in (rows_of tables block.table) block.pieces block.piece in
    ap (λ (n : ℕ). column_in (rows_from here block.from n) column) counts ∙ ap (λ (rows : Rows). column_in rows column) (is.lent lends)

pub cells-of-block : (tables : Tables) (block : Block) (column : ℕ) (values : List Value) → IsBlock tables block → block.lends ≡ true
    → map Some values
    ≡ column_in (rows_from (rows_in (rows_of tables block.table) block.pieces block.piece) block.from (length block.ids.now)) column
    → values ≡ values_in (Own column) (own_rows tables block)
cells-of-block tables block column values is lends lent =
    lent-values values (rows_of_block tables block) column (lent ∙ lent-rows tables block column (length block.ids.now) is lends refl)

-- a column that is lent has a value for each row of the block
pub lent-size : (tables : Tables) (block : Block) (column : ℕ) → IsBlock tables block → block.lends ≡ true
    → length
    (column_in (rows_from (rows_in (rows_of tables block.table) block.pieces block.piece) block.from (length block.ids.now)) column)
    ≡ length block.ids.now
lent-size tables block column is lends =
    ap length (lent-rows tables block column (length block.ids.now) is lends refl)
    ∙ column-size (rows_of_block tables block) column ∙ block-size tables block

pub lent-octets : (values : List Value) (column : List (Option Value)) (count width : ℕ) (bytes : List ℕ) → length column ≡ count
    → map Some (octets_in (length column) width bytes) ≡ column → values ≡ octets_in count width bytes → map Some values ≡ column
lent-octets values column count width bytes size lent made =
    ap (map Some) (made ∙ ap (λ (n : ℕ). octets_in n width bytes) (sym size)) ∙ lent

-- octets are there one by one
octets-next : (rows i width : ℕ) (bytes : List ℕ) → i < rows
    → octets_in (rows - i) width bytes ≡ Octets (take width bytes) ∷ octets_in (rows - (i + 1)) width (drop width bytes)
octets-next rows i width bytes lt =
    let more : rows - i ≡ suc (rows - (i + 1)) = omega (arith, lt) in
    ap (λ (n : ℕ). octets_in n width bytes) more

pub octets-read : (many : Bool) (octets front : List ℕ) → Some octets ≡ cond many None (Some front) → octets ≡ front
octets-read true octets front e = absurd (cc)
octets-read false octets front e = cc

pub octets-more : (before all : List Value) (rows i width : ℕ) (bytes front : List ℕ) → i < rows → front ≡ take width bytes
    → before ++ octets_in (rows - i) width bytes ≡ all
    → (before ++ Octets front ∷ []) ++ octets_in (rows - (i + 1)) width (drop width bytes) ≡ all
octets-more before all rows i width bytes front lt is so_far =
    append_assoc before (Octets front ∷ []) (octets_in (rows - (i + 1)) width (drop width bytes))
    ∙ ap (λ (first : List ℕ). before ++ (Octets first ∷ octets_in (rows - (i + 1)) width (drop width bytes))) is
    ∙ ap (λ (rest : List Value). before ++ rest) (sym (octets-next rows i width bytes lt))
    ∙ so_far

pub octets-all : (before all : List Value) (rows i width : ℕ) (bytes : List ℕ) → rows ≤ i
    → before ++ octets_in (rows - i) width bytes ≡ all → before ≡ all
octets-all before all rows i width bytes end so_far =
    let none : rows - i ≡ 0 = omega (arith, end) in
    sym (append-nil before) ∙ ap (λ (n : ℕ). before ++ octets_in n width bytes) (sym none) ∙ so_far

-- ---- columns that are there

-- the value of a column of the row of an identifier
abbrev pub own_value : Rows → ℕ → ℕ → Value
own_value rows column id = joined_value (alone (id, values_by rows id)) (Own column)

pub own-values : (tables : Tables) (block : Block) (column : ℕ)
    → map (own_value (rows_of tables block.table) column) block.ids.now ≡ values_in (Own column) (own_rows tables block)
own-values tables block column = go block.ids.now
  where
    go : (ids : List ℕ) → map (own_value (rows_of tables block.table) column) ids
        ≡ values_in (Own column) (map alone (map (λ id. (id, values_by (rows_of tables block.table) id)) ids))
    go [] = refl
    go (id ∷ ids) = ap (λ rest. own_value (rows_of tables block.table) column id ∷ rest) (go ids)

-- what is read of a column is its value
found-value : (found : Option (List Value)) (column : ℕ) (value : Value) → Some value ≡ column_of found column
    → value ≡ unwrap_or (slice_get (unwrap_or found []) column) (Int (pos 0))
found-value None column value e = absurd (cc)
found-value (Some own) column value e = ap (λ (read : Option Value). unwrap_or read (Int (pos 0))) e

pub value-read : (rows : Rows) (id column : ℕ) (value : Value) → Some value ≡ column_of (row_at rows id) column
    → value ≡ own_value rows column id
value-read rows id column value e = found-value (row_at rows id) column value e

there-in : (found : Option (List Value)) (tables : Tables) (table column : ℕ) → IsSome found
    → IfSome found (λ values. are_of_kinds values (kinds_of tables table) ≡ true)
    → IsSome (slice_get (kinds_of tables table) column) → IsSome (column_of found column)
there-in None tables table column there are kind = absurd (cc)
there-in (Some own) tables table column there are kind = value-there own (kinds_of tables table) column are kind

-- a row that is there has the columns of its table
pub column-there : (tables : Tables) (table id column : ℕ) → RowsAreOfKinds tables → IsSome (row_at (rows_of tables table) id)
    → IsSome (slice_get (kinds_of tables table) column) → IsSome (column_of (row_at (rows_of tables table) id) column)
column-there tables table id column are there kind =
    there-in (row_at (rows_of tables table) id) tables table column there (are table id) kind

-- one row more is read, and at the end all are
pub read-more : (rows : Rows) (column : ℕ) (ids : List ℕ) (i : ℕ) (before : List Value) (value : Value) → i < length ids
    → before ≡ map (own_value rows column) (take i ids) → Some value ≡ column_of (row_at rows (get_or ids i 0)) column
    → before ++ value ∷ [] ≡ map (own_value rows column) (take (i + 1) ids)
read-more rows column ids i before value lt so_far read =
    ap (λ (front : List Value). front ++ value ∷ []) so_far
    ∙ ap (λ (last : Value). map (own_value rows column) (take i ids) ++ last ∷ []) (value-read rows (get_or ids i 0) column value read)
    ∙ sym (map_more (own_value rows column) ids i 0 lt)

pub read-all : (tables : Tables) (block : Block) (column i : ℕ) (before : List Value) → length block.ids.now ≤ i
    → before ≡ map (own_value (rows_of tables block.table) column) (take i block.ids.now)
    → before ≡ values_in (Own column) (own_rows tables block)
read-all tables block column i before end so_far =
    so_far ∙ ap (map (own_value (rows_of tables block.table) column)) (take_all i block.ids.now end) ∙ own-values tables block column

-- a row whose column is read is there
pub row-there : (found : Option (List Value)) (column : ℕ) → IsSome (column_of found column) → IsSome found
row-there None column there = absurd (cc)
row-there (Some own) column there = refl
