-- A column behind others is a value behind each row's, and without it the rows are those before.
use Rattle.std.proofs.Common.{◌≡◌, ℕ, zero, suc, ◌+◌, ◌<◌, ◌≤◌, List, [], ◌∷◌, ◌++◌, ◌-◌, length, map, replicate, get_or, take, drop}
use Rattle.std.proofs.Common.{slice_set}
use Rattle.std.proofs.Common.{refl, sym, ap, subst, ◌∙◌, arith}
use Rattle.std.proofs.Common.{Result, Ok, Err, OnOk, OnErr, true, false}
use Rattle.std.specs.Map.{keys_of}
use Rattle.std.specs.Result.{is_err}
use Rattle.std.proofs.lemmas.Bool.{false≢true}
use Rattle.std.proofs.lemmas.List.{length-append, map-append, take_at, drop_at, take_all, drop_all, append-nil, length-take-le}
use Rattle.rows.specs.declared.kind.Kind.{Kind}
use Rattle.rows.specs.declared.value.Value.{Value}
use Rattle.rows.specs.Tables.{Rows, Table, with_column}
use Rattle.rows.specs.Values.{kind_of}
use Rattle.apply.specs.declared.cells.Cells.{Cells}
use Rattle.apply.specs.Blocks.{beside, rows_with, kinds_with, table_with, wider, narrower}
use Rattle.apply.specs.Columns.{kind_of as kind_in, values_in, AreCells, IsFilled}
use Rattle.apply.specs.Inner.Edits.{AllCells}
use Rattle.apply.specs.Orders.{Rising}
use Rattle.apply.proofs.Beside.{values-length, rows-length}
use Rattle.apply.proofs.Built.{IsTable}
use Rattle.apply.proofs.Changed.{rising-with_column}
use Rattle.apply.proofs.Ordered.{rising-keys}

-- rows with one more value each, behind those that they have
abbrev behind : List Value → Rows → Rows
behind [] rows = []
behind (value ∷ values) [] = []
behind (value ∷ values) (row ∷ rows) = (row.0, row.1 ++ value ∷ []) ∷ behind values rows

beside-behind : (values column : List Value) (rows : Rows) → beside column (behind values rows) ≡ behind values (beside column rows)
beside-behind [] [] rows = refl
beside-behind [] (cell ∷ column) rows = refl
beside-behind (value ∷ values) [] rows = refl
beside-behind (value ∷ values) (cell ∷ column) [] = refl
beside-behind (value ∷ values) (cell ∷ column) (row ∷ rows) =
    ap (λ (rest : Rows). (row.0, cell ∷ (row.1 ++ value ∷ [])) ∷ rest) (beside-behind values column rows)

first-behind : (values : List Value) (ids : List ℕ) → beside values (map (λ id. (id, [])) ids) ≡ behind values (map (λ id. (id, [])) ids)
first-behind [] ids = refl
first-behind (value ∷ values) [] = refl
first-behind (value ∷ values) (id ∷ ids) = ap (λ (rest : Rows). (id, value ∷ []) ∷ rest) (first-behind values ids)

rows-behind : (count : ℕ) (ids : List ℕ) (columns : List Cells) (last : Cells)
    → rows_with count ids (columns ++ last ∷ []) ≡ behind (values_in count last) (rows_with count ids columns)
rows-behind count ids [] last = first-behind (values_in count last) ids
rows-behind count ids (column ∷ columns) last =
    ap (beside (values_in count column)) (rows-behind count ids columns last)
    ∙ beside-behind (values_in count last) (values_in count column) (rows_with count ids columns)

behind-filled : (default : Value) (rows : Rows) → behind (replicate (length rows) default) rows ≡ with_column default rows
behind-filled default [] = refl
behind-filled default (row ∷ rows) = ap (λ (rest : Rows). (row.0, row.1 ++ default ∷ []) ∷ rest) (behind-filled default rows)

-- ---- taken back

-- a row without its last value
abbrev pub front_of : ℕ × List Value → ℕ × List Value
front_of row = (row.0, take (length row.1 - 1) row.1)

front-same : {A : Type 0} (xs : List A) (x : A) → take (length (xs ++ x ∷ []) - 1) (xs ++ x ∷ []) ≡ xs
front-same xs x =
    let few : length (xs ++ x ∷ []) - 1 ≡ length xs = omega (arith, length-append xs (x ∷ [])) in
    ap (λ n. take n (xs ++ x ∷ [])) few ∙ take_at xs (x ∷ []) (length xs) refl

front-behind : (values : List Value) (rows : Rows) → length values ≡ length rows → map front_of (behind values rows) ≡ rows
front-behind [] [] many = refl
front-behind [] (row ∷ rows) many = absurd (omega arith)
front-behind (value ∷ values) [] many = absurd (omega arith)
front-behind (value ∷ values) (row ∷ rows) many =
    let own = front-same row.1 value in
    let rest = front-behind values rows (omega arith) in
    λ i. (row.0, own i) ∷ rest i

front-bare : (ids : List ℕ) → map front_of (map (λ id. (id, [])) ids) ≡ map (λ id. (id, [])) ids
front-bare [] = refl
front-bare (id ∷ ids) = ap (λ (rest : Rows). (id, []) ∷ rest) (front-bare ids)

front-column : (default : Value) (rows : Rows) → map front_of (with_column default rows) ≡ rows
front-column default [] = refl
front-column default (row ∷ rows) =
    let own = front-same row.1 default in
    let rest = front-column default rows in
    λ i. (row.0, own i) ∷ rest i

pub narrower-wider : (default : Value) (table : Table) → narrower (wider default table) ≡ table
narrower-wider default table =
    let kinds = front-same table.kinds (kind_of default) in
    let rows = front-column default table.rows in
    λ i. record { kinds = kinds i; rows = rows i }

pub narrower-each : (default : Value) (tables : List Table) → map narrower (map (wider default) tables) ≡ tables
narrower-each default [] = refl
narrower-each default (table ∷ tables) =
    let own = narrower-wider default table in
    let rest = narrower-each default tables in
    λ i. own i ∷ rest i

-- neither changes which rows there are
pub keys-with_column : (default : Value) (rows : Rows) → keys_of rows ≡ keys_of (with_column default rows)
keys-with_column default [] = refl
keys-with_column default (row ∷ rows) = ap (λ keys. row.0 ∷ keys) (keys-with_column default rows)

pub keys-front : (rows : Rows) → keys_of (map front_of rows) ≡ keys_of rows
keys-front [] = refl
keys-front (row ∷ rows) = ap (λ keys. row.0 ∷ keys) (keys-front rows)

-- ---- a block

cells-push : (count : ℕ) (columns : List Cells) (column : Cells) → AllCells count columns → AreCells count column
    → AllCells count (columns ++ column ∷ [])
cells-push count [] column all one zero d lt = one
cells-push count [] column all one (suc k) d lt = absurd (omega arith)
cells-push count (first ∷ columns) column all one zero d lt = all 0 d (omega arith)
cells-push count (first ∷ columns) column all one (suc k) d lt =
    cells-push count columns column (λ k d lt. all (suc k) d (omega arith)) one k d (omega arith)

cells-front : (count : ℕ) (columns : List Cells) (column : Cells) → AllCells count (columns ++ column ∷ []) → AllCells count columns
cells-front count [] column all k d lt = absurd (omega arith)
cells-front count (first ∷ columns) column all zero d lt = all 0 d (omega arith)
cells-front count (first ∷ columns) column all (suc k) d lt =
    cells-front count columns column (λ k d lt. all (suc k) d (omega arith)) k d (omega arith)

cells-last : (count : ℕ) (columns : List Cells) (column : Cells) → AllCells count (columns ++ column ∷ []) → AreCells count column
cells-last count [] column all = all 0 column (omega arith)
cells-last count (first ∷ columns) column all = cells-last count columns column (λ k d lt. all (suc k) d (omega arith))

module _ (ids : List ℕ) (columns : List Cells) (default : Value) (column : Cells) (is : IsTable ids columns)
    (filled : IsFilled (length ids) default column) where
  wider-rows : rows_with (length ids) ids (columns ++ column ∷ []) ≡ with_column default (rows_with (length ids) ids columns)
  wider-rows =
      rows-behind (length ids) ids columns column
      ∙ ap (λ values. behind values (rows_with (length ids) ids columns))
      (filled.values ∙ ap (λ n. replicate n default) (sym (rows-length (length ids) ids columns refl is.cells)))
      ∙ behind-filled default (rows_with (length ids) ids columns)

  wider-kinds : kinds_with (columns ++ column ∷ []) ≡ kinds_with columns ++ kind_of default ∷ []
  wider-kinds = map-append kind_in columns (column ∷ []) ∙ ap (λ kind. kinds_with columns ++ kind ∷ []) filled.kind

  pub table-wider : IsTable ids (columns ++ column ∷ [])
      × (table_with ids (columns ++ column ∷ []) ≡ wider default (table_with ids columns))
  table-wider = (
    record {
      cells = cells-push (length ids) columns column is.cells filled.cells;
      rise = subst Rising (sym wider-rows) (rising-with_column default (rows_with (length ids) ids columns) is.rise);
    },
    λ i. record { kinds = wider-kinds i; rows = wider-rows i },
  )

module _ (ids : List ℕ) (columns : List Cells) (column : Cells) (is : IsTable ids (columns ++ column ∷ [])) where
  abbrev own : Rows
  own = rows_with (length ids) ids columns

  abbrev values : List Value
  values = values_in (length ids) column

  own-cells : AllCells (length ids) columns
  own-cells = cells-front (length ids) columns column is.cells

  own-rows : map front_of (rows_with (length ids) ids (columns ++ column ∷ [])) ≡ own
  own-rows =
      ap (map front_of) (rows-behind (length ids) ids columns column)
      ∙ front-behind values own (values-length (length ids) column (cells-last (length ids) columns column is.cells)
      ∙ sym (rows-length (length ids) ids columns refl own-cells))

  narrower-kinds : take (length (kinds_with (columns ++ column ∷ [])) - 1) (kinds_with (columns ++ column ∷ [])) ≡ kinds_with columns
  narrower-kinds =
      ap (λ (kinds : List Kind). take (length kinds - 1) kinds) (map-append kind_in columns (column ∷ []))
      ∙ front-same (kinds_with columns) (kind_in column)

  pub table-narrower : IsTable ids columns × (table_with ids columns ≡ narrower (table_with ids (columns ++ column ∷ [])))
  table-narrower = (
    record {
      cells = own-cells;
      rise = rising-keys (rows_with (length ids) ids (columns ++ column ∷ [])) own
          (ap keys_of (sym own-rows) ∙ keys-front (rows_with (length ids) ids (columns ++ column ∷ []))) is.rise;
    },
    sym (λ i. record { kinds = narrower-kinds i; rows = own-rows i }),
  )

pub bare-narrower : (ids : List ℕ) → table_with ids [] ≡ narrower (table_with ids [])
bare-narrower ids = ap (λ (rows : Rows). record { kinds = []; rows = rows }) (sym (front-bare ids))

-- ---- lists of which the first were changed

pub mixed-at : {A : Type 0} (k : ℕ) (news olds : List A) (d : A) → length news ≡ length olds → k < length olds
    → get_or (take k news ++ drop k olds) k d ≡ get_or olds k d
mixed-at k [] [] d many lt = absurd (omega arith)
mixed-at k [] (old ∷ olds) d many lt = absurd (omega arith)
mixed-at k (new ∷ news) [] d many lt = absurd (omega arith)
mixed-at zero (new ∷ news) (old ∷ olds) d many lt = refl
mixed-at (suc k) (new ∷ news) (old ∷ olds) d many lt = mixed-at k news olds d (omega arith) (omega arith)

mixed-next : {A : Type 0} (k : ℕ) (news olds : List A) (d : A) → length news ≡ length olds → k < length olds
    → slice_set (take k news ++ drop k olds) k (get_or news k d) ≡ take (suc k) news ++ drop (suc k) olds
mixed-next k [] [] d many lt = absurd (omega arith)
mixed-next k [] (old ∷ olds) d many lt = absurd (omega arith)
mixed-next k (new ∷ news) [] d many lt = absurd (omega arith)
mixed-next zero (new ∷ news) (old ∷ olds) d many lt = refl
mixed-next (suc k) (new ∷ news) (old ∷ olds) d many lt =
    ap (λ rest. new ∷ rest) (mixed-next k news olds d (omega arith) (omega arith))

pub mixed-more : {A : Type 0} (k : ℕ) (news olds : List A) (d new : A) → length news ≡ length olds → k < length olds
    → new ≡ get_or news k d
    → slice_set (take k news ++ drop k olds) k new ≡ take (k + 1) news ++ drop (k + 1) olds
mixed-more k news olds d new many lt is =
    let next : suc k ≡ k + 1 = omega arith in
    ap (slice_set (take k news ++ drop k olds) k) is ∙ mixed-next k news olds d many lt
    ∙ ap (λ n. take n news ++ drop n olds) next

pub mixed-all : {A : Type 0} (k : ℕ) (news olds : List A) → length news ≡ length olds → length olds ≤ k → take k news ++ drop k olds ≡ news
mixed-all k news olds many le =
    ap (λ front. front ++ drop k olds) (take_all k news (omega (arith, many, le)))
    ∙ ap (λ back. news ++ back) (drop_all k olds le)
    ∙ append-nil news

-- the first of them, and the others
pub mixed-front : {A : Type 0} (k : ℕ) (news olds : List A) → length news ≡ length olds → k ≤ length olds
    → take k (take k news ++ drop k olds) ≡ take k news
mixed-front k news olds many le = take_at (take k news) (drop k olds) k (length-take-le k news (omega (arith, many, le)))

pub mixed-back : {A : Type 0} (k : ℕ) (news olds : List A) → length news ≡ length olds → k ≤ length olds
    → drop k (take k news ++ drop k olds) ≡ drop k olds
mixed-back k news olds many le = drop_at (take k news) (drop k olds) k (length-take-le k news (omega (arith, many, le)))

-- an element in its own place
pub set-same : {A : Type 0} (list : List A) (k : ℕ) (new d : A) → new ≡ get_or list k d → slice_set list k new ≡ list
set-same [] k new d same = refl
set-same (one ∷ list) zero new d same = ap (λ one. one ∷ list) same
set-same (one ∷ list) (suc k) new d same = ap (λ list. one ∷ list) (set-same list k new d same)

-- what an outcome says that is no failure
pub of-ok : {T E : Type 0} (result : Result T E) (P : Type 0) → OnOk result P → is_err result ≡ false → P
of-ok (Ok value) P h ok = h
of-ok (Err fault) P h ok = absurd (false≢true (sym ok))

pub of-err : {T E : Type 0} (result : Result T E) (P : Type 0) → OnErr result P → is_err result ≡ true → P
of-err (Ok value) P h err = absurd (false≢true err)
of-err (Err fault) P h err = h
