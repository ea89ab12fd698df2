-- What is lent: values of one column, rows of a block among those of all blocks, and a partition's rows among those of all.
use Rattle.std.proofs.Common.{◌≡◌, ℕ, ℤ, zero, suc, ◌+◌, ◌-◌, ◌*◌, ◌%◌, ◌<◌, ◌≤◌, Bool, true, false, cond, ◌==◌, List, [], ◌∷◌, ◌++◌}
use Rattle.std.proofs.Common.{length, get_or, map, take, drop, None, Some, slice_get, refl, sym, ap, subst, ◌∙◌, arith}
use Rattle.std.specs.List.{filter}
use Rattle.std.specs.Map.{keys_of}
use Rattle.std.proofs.Math.Nat.{mul-le-mul_right}
use Rattle.std.proofs.Math.Seq.{drop-append-add}
use Rattle.std.proofs.lemmas.Bool.{false≢true, eqb-true, eq-eqb}
use Rattle.std.proofs.lemmas.Bool.Decides.{nat_tests}
use Rattle.std.proofs.lemmas.List.{length-map, length-take-le, length-drop, take-map, drop-map, take-append-le, drop-append-le}
use Rattle.std.proofs.lemmas.List.{take_all}
use Rattle.std.proofs.lemmas.Map.Entries.{length-keys_of}
use Rattle.std.proofs.lemmas.Simd.{map-map}
use Rattle.rows.specs.declared.value.Value.{Value}
use Rattle.rows.specs.declared.value.Value.TheVariants as values
use Rattle.rows.specs.Tables.{Rows, Table, Tables, rows_of, row_at}
use Rattle.store.specs.Lent.{rows_in, rows_from, column_in, octets_in}
use Rattle.apply.specs.declared.cells.Cells.{Cells}
use Rattle.apply.specs.declared.partition.Partition.{Partition}
use Rattle.apply.specs.Blocks.{beside, rows_with}
use Rattle.apply.specs.Columns.{values_in}
use Rattle.apply.specs.Orders.{AllOver, Rising}
use Rattle.apply.specs.Partitions.{tables_in}
use Rattle.apply.specs.Inner.Edits.{AllCells}
use Rattle.apply.specs.Inner.Gathered.{ArePartitions}
use Rattle.apply.specs.Inner.Joins.{joined}
use Rattle.apply.specs.Inner.Views.{views}
use Rattle.apply.proofs.Beside.{values-length, rows-length}
use Rattle.apply.proofs.Gathered.{same-rows}
use Rattle.apply.proofs.Joined.{joined-at}
use Rattle.apply.proofs.Splits.{partitions-rise, partitions-row}
use Rattle.apply.proofs.Viewed.{views-get, views-length}
use Rattle.apply.proofs.Wide.{octets-take, octets-drop, octets-length, octets-left}

-- ---- values of one column

pub lends-numbers : (numbers lent : List ℤ) (from count : ℕ) → lent ≡ take count (drop from numbers)
    → map (λ number. Some (values.Int number)) lent ≡ map Some (take count (drop from (map values.Int numbers)))
lends-numbers numbers lent from count is =
    ap (map (λ number. Some (values.Int number))) is
    ∙ sym (map-map Some values.Int (take count (drop from numbers)))
    ∙ ap (map Some)
    (sym (take-map values.Int count (drop from numbers)) ∙ ap (take count) (sym (drop-map values.Int from numbers)))

module _ (width rows from count : ℕ) (bytes : List ℕ) (whole : length bytes ≡ rows * width) (within : from + count ≤ rows) where
  pub lends-enough : (behind : List ℕ) → behind ≡ drop (from * width) bytes → count * width ≤ length behind
  lends-enough behind is =
      let few : count ≤ rows - from = omega (arith, within) in
      let enough : count * width ≤ (rows - from) * width = mul-le-mul_right width few in
      subst (λ n. count * width ≤ n) (sym (ap length is ∙ octets-left width rows from (rows - from) bytes whole (omega (arith, within))))
      enough

  lends-many : length (map Some (take count (drop from (octets_in rows width bytes)))) ≡ count
  lends-many =
      length-map (take count (drop from (octets_in rows width bytes))) Some
      ∙ length-take-le count (drop from (octets_in rows width bytes))
      (omega (arith, within, length-drop from (octets_in rows width bytes), octets-length width rows bytes))

  lends-bytes : (lent : List ℕ) → lent ≡ take (count * width) (drop (from * width) bytes) → length lent ≡ count * width
  lends-bytes lent is =
      ap length is ∙ length-take-le (count * width) (drop (from * width) bytes) (lends-enough (drop (from * width) bytes) refl)

  lends-values : (lent : List ℕ) → lent ≡ take (count * width) (drop (from * width) bytes)
      → map Some (octets_in count width lent) ≡ map Some (take count (drop from (octets_in rows width bytes)))
  lends-values lent is =
      ap (map Some)
      (ap (octets_in count width) is
      ∙ sym (octets-take width (rows - from) count (drop (from * width) bytes) (omega (arith, within)))
      ∙ ap (take count) (sym (octets-drop width rows from (rows - from) bytes (omega (arith, within)))))

  pub lends-octets : (lent : List ℕ) → lent ≡ take (count * width) (drop (from * width) bytes)
      → (length lent ≡ length (map Some (take count (drop from (octets_in rows width bytes)))) * width)
      × (map Some (octets_in (length (map Some (take count (drop from (octets_in rows width bytes))))) width lent)
      ≡ map Some (take count (drop from (octets_in rows width bytes))))
  lends-octets lent is =
      subst (λ n. (length lent ≡ n * width)
      × (map Some (octets_in n width lent) ≡ map Some (take count (drop from (octets_in rows width bytes)))))
      (sym lends-many) (lends-bytes lent is, lends-values lent is)

-- ---- one column of rows

beside-first : (own : List Value) (rows : Rows) → length own ≡ length rows → column_in (beside own rows) zero ≡ map Some own
beside-first [] [] same = refl
beside-first [] (row ∷ rows) same = absurd (omega arith)
beside-first (value ∷ own) [] same = absurd (omega arith)
beside-first (value ∷ own) (row ∷ rows) same = ap (λ others. Some value ∷ others) (beside-first own rows (omega arith))

beside-other : (own : List Value) (rows : Rows) (k : ℕ) → length own ≡ length rows → column_in (beside own rows) (suc k) ≡ column_in rows k
beside-other [] [] k same = refl
beside-other [] (row ∷ rows) k same = absurd (omega arith)
beside-other (value ∷ own) [] k same = absurd (omega arith)
beside-other (value ∷ own) (row ∷ rows) k same = ap (λ others. slice_get row.1 k ∷ others) (beside-other own rows k (omega arith))

tail-cells : (count : ℕ) (column : Cells) (columns : List Cells) → AllCells count (column ∷ columns) → AllCells count columns
tail-cells count column columns cells k d lt = cells (suc k) d (omega arith)

values-rows : (count : ℕ) (ids : List ℕ) (column : Cells) (columns : List Cells) → length ids ≡ count → AllCells count (column ∷ columns)
    → length (values_in count column) ≡ length (rows_with count ids columns)
values-rows count ids column columns same cells =
    values-length count column (cells zero column (omega arith))
    ∙ sym (rows-length count ids columns same (tail-cells count column columns cells))

rows-column : (count : ℕ) (ids : List ℕ) (columns : List Cells) (k : ℕ) (d : Cells) → length ids ≡ count → AllCells count columns
    → k < length columns → column_in (rows_with count ids columns) k ≡ map Some (values_in count (get_or columns k d))
rows-column count ids [] k d same cells lt = absurd (omega arith)
rows-column count ids (column ∷ columns) zero d same cells lt =
    beside-first (values_in count column) (rows_with count ids columns) (values-rows count ids column columns same cells)
rows-column count ids (column ∷ columns) (suc k) d same cells lt =
    beside-other (values_in count column) (rows_with count ids columns) k (values-rows count ids column columns same cells)
    ∙ rows-column count ids columns k d same (tail-cells count column columns cells) (omega arith)

-- of some of them
pub rows-column-from : (count : ℕ) (ids : List ℕ) (columns : List Cells) (k from some : ℕ) (d : Cells) → length ids ≡ count
    → AllCells count columns → k < length columns
    → map Some (take some (drop from (values_in count (get_or columns k d))))
    ≡ column_in (rows_from (rows_with count ids columns) from some) k
rows-column-from count ids columns k from some d same cells lt =
    let own = values_in count (get_or columns k d) in
    let rows = rows_with count ids columns in
    let cell : ℕ × List Value → _ = λ row. slice_get row.1 k in
    sym (take-map Some some (drop from own))
    ∙ ap (take some) (sym (drop-map Some from own))
    ∙ ap (λ cells. take some (drop from cells)) (sym (rows-column count ids columns k d same cells lt))
    ∙ ap (take some) (drop-map cell from rows)
    ∙ take-map cell some (drop from rows)

-- ---- rows of one block

pub joined-from : (blocks : List Table) (m at i count : ℕ) (d : Table) → m < length blocks → at ≡ length (joined (take m blocks)) + i
    → i + count ≤ length (get_or blocks m d).rows
    → rows_from (joined blocks) at count ≡ rows_from (get_or blocks m d).rows i count
joined-from blocks m at i count d lt is within =
    let front = joined (take m blocks) in
    let rows = (get_or blocks m d).rows in
    let back = joined (drop (m + 1) blocks) in
    ap (λ all. take count (drop at all)) (joined-at blocks m d lt)
    ∙ ap (λ n. take count (drop n (front ++ (rows ++ back)))) is
    ∙ ap (take count) (drop-append-add front (rows ++ back) i ∙ drop-append-le i rows back (omega arith))
    ∙ take-append-le count (drop i rows) back (omega (arith, within, length-drop i rows))

-- and the identifiers of all from one on
module _ (blocks : List Table) (m at i : ℕ) (d : Table) (ids : List ℕ) (lt : m < length blocks)
    (is : at ≡ length (joined (take m blocks)) + i) (within : i < length (get_or blocks m d).rows)
    (lent : ids ≡ drop i (keys_of (get_or blocks m d).rows)) where
  many : length ids ≡ length (drop i (get_or blocks m d).rows)
  many =
      let rows = (get_or blocks m d).rows in
      omega (arith, ap length lent, length-drop i (keys_of rows), length-drop i rows, length-keys_of rows)

  pub lends-some : 0 < length ids
  lends-some = omega (arith, many, length-drop i (get_or blocks m d).rows, within)

  pub lends-ids : ids ≡ keys_of (rows_from (joined blocks) at (length ids))
  lends-ids =
      let rows = (get_or blocks m d).rows in
      let enough : i + length ids ≤ length rows = omega (arith, many, length-drop i rows, within) in
      lent ∙ drop-map (λ (row : ℕ × List Value). row.0) i rows
      ∙ ap keys_of
      (sym (joined-from blocks m at i (length ids) d lt is enough ∙ take_all (length ids) (drop i rows) (omega (arith, many))))

-- ---- rows of one partition

over-filter : (low : ℕ) (test : ℕ × List Value → Bool) (rows : Rows) → AllOver low rows → AllOver low (filter test rows)
over-filter low test [] over = tt
over-filter low test (row ∷ rows) over = by (test row) (over-filter low test rows over.1)
  where
    by : (own : Bool) → AllOver low (filter test rows) → AllOver low (cond own (row ∷ filter test rows) (filter test rows))
    by true rest = (over.0, rest)
    by false rest = rest

rising-filter : (test : ℕ × List Value → Bool) (rows : Rows) → Rising rows → Rising (filter test rows)
rising-filter test [] rise = tt
rising-filter test (row ∷ rows) rise = by (test row) (rising-filter test rows rise.1)
  where
    by : (own : Bool) → Rising (filter test rows) → Rising (cond own (row ∷ filter test rows) (filter test rows))
    by true rest = (over-filter row.0 test rows rise.0, rest)
    by false rest = rest

module _ (test : ℕ → Bool) (row : ℕ) where
  found-own : (rows : Rows) → test row ≡ true → row_at (filter (λ one. test one.0) rows) row ≡ row_at rows row
  found-own [] own = refl
  found-own (one ∷ rows) own = by (test one.0) refl (found-own rows own)
    where
      by : (here : Bool) → test one.0 ≡ here → row_at (filter (λ one. test one.0) rows) row ≡ row_at rows row
          → row_at (cond here (one ∷ filter (λ one. test one.0) rows) (filter (λ one. test one.0) rows)) row ≡ row_at (one ∷ rows) row
      by true e rest = grind (arith, nat_tests, rest)
      by false e rest =
          let away : (one.0 == row) ≡ false = other (one.0 == row) refl in grind (arith, nat_tests, rest, away)
        where
          other : (same : Bool) → (one.0 == row) ≡ same → same ≡ false
          other true is = absurd (false≢true (sym e ∙ ap test (eqb-true one.0 row is) ∙ own))
          other false is = refl

  found-none : (rows : Rows) → test row ≡ false → row_at (filter (λ one. test one.0) rows) row ≡ None
  found-none [] away = refl
  found-none (one ∷ rows) away = by (test one.0) refl (found-none rows away)
    where
      by : (here : Bool) → test one.0 ≡ here → row_at (filter (λ one. test one.0) rows) row ≡ None
          → row_at (cond here (one ∷ filter (λ one. test one.0) rows) (filter (λ one. test one.0) rows)) row ≡ None
      by true e rest =
          let apart : (one.0 == row) ≡ false = other (one.0 == row) refl in grind (arith, nat_tests, rest, apart)
        where
          other : (same : Bool) → (one.0 == row) ≡ same → same ≡ false
          other true is = absurd (false≢true (sym away ∙ ap test (sym (eqb-true one.0 row is)) ∙ e))
          other false is = refl
      by false e rest = rest

-- the rows of that remainder are the partition's own
pub own-rows : (partitions : List Tables) (k t : ℕ) (d : Tables) → ArePartitions partitions → k < length partitions
    → rows_in (rows_of (tables_in partitions) t) (length partitions) k ≡ rows_of (get_or partitions k d) t
own-rows partitions k t d are lt =
    same-rows (rows_in all (length partitions) k) own
    (rising-filter (λ row. row.0 % length partitions == k) all (partitions-rise partitions are t))
    (are.rise k t d lt) (λ row. by row (row % length partitions == k) refl)
  where
    all : Rows
    all = rows_of (tables_in partitions) t

    own : Rows
    own = rows_of (get_or partitions k d) t

    by : (row : ℕ) (here : Bool) → (row % length partitions == k) ≡ here → row_at (rows_in all (length partitions) k) row ≡ row_at own row
    by row true e =
        found-own (λ id. id % length partitions == k) row all e
        ∙ partitions-row partitions t row k d are (eqb-true (row % length partitions) k e) lt
    by row false e =
        found-none (λ id. id % length partitions == k) row all e
        ∙ sym (are.home k t row d lt (λ same. false≢true (sym e ∙ eq-eqb (row % length partitions) k same)))

pub lent-rows : (partitions : List Partition) (n k t : ℕ) (partition : Partition) → ArePartitions (views partitions) → n ≡ length partitions
    → k < n
    → partition ≡ get_or partitions k partition
    → rows_of partition.tables.items t ≡ rows_in (rows_of (tables_in (views partitions)) t) n k
lent-rows partitions n k t partition are is lt at =
    let many = views-length partitions in
    sym (ap (λ n. rows_in (rows_of (tables_in (views partitions)) t) n k) (is ∙ sym many)
    ∙ own-rows (views partitions) k t [] are (omega (arith, lt, is, many))
    ∙ ap (λ (tables : Tables). rows_of tables t) (views-get partitions k partition [] (omega (arith, lt, is)) at))
