-- The tables of each partition, when one of these is read or changed, and what all have together.
use Rattle.std.proofs.Common.{◌≡◌, ℕ, suc, zero, ◌+◌, ◌%◌, ◌<◌, ◌≤◌, ◌==◌, true, false, List, [], ◌∷◌, length, get_or, take}
use Rattle.std.proofs.Common.{replicate, Option}
use Rattle.std.proofs.Common.{None, Some}
use Rattle.std.proofs.Common.{slice_get, slice_set, refl, sym, ap, subst, ◌∙◌, inl, inr, IfSome, IfErr, OnOk, OnErr, Result}
use Rattle.std.proofs.Common.{Ok, Err, arith}
use Rattle.std.specs.List.{sum_by}
use Rattle.std.specs.Option.{is_some, option_map, option_map_or, IsSome}
use Rattle.std.proofs.Math.Seq.{map-set_same}
use Rattle.std.proofs.lemmas.Bool.{false≢true, and_parts, eqb-true, eq-eqb, cases_eq}
use Rattle.std.proofs.lemmas.Bool.Decides.{nat_tests}
use Rattle.std.proofs.lemmas.List.{length-map, length-set, get_or-map, get_or-set_same, get_or-set_other, map-set}
use Rattle.std.proofs.lemmas.List.{take_all, length-replicate, get_or-replicate, get_or_past}
use Rattle.std.proofs.lemmas.List.Sums.{sum_by_more, sum_by-cons}
use Rattle.std.proofs.lemmas.Option.{slice_get_within}
use Rattle.rows.specs.declared.entry.Entry.{Entry}
use Rattle.rows.specs.declared.kind.Kind.{Kind}
use Rattle.rows.specs.declared.row_id.RowId.{RowId}
use Rattle.rows.specs.declared.value.Value.{Value}
use Rattle.rows.specs.Entries.{row_of}
use Rattle.rows.specs.Shape.{Shape}
use Rattle.rows.specs.Tables.{Rows, Tables, RowsAreOfKinds, opening, shape_in, rows_of, kinds_of, row_at, is_present}
use Rattle.rows.specs.Tables.{apply_entry}
use Rattle.rows.specs.Values.{is_of_kind, are_of_kinds}
use Rattle.store.specs.Changes.{column_of, fault_kind}
use Rattle.apply.specs.declared.partition.Partition.{Partition}
use Rattle.apply.specs.declared.spot.Spot.{Spot}
use Rattle.apply.specs.Partitions.{both, tables_in, values_in}
use Rattle.apply.specs.Inner.EntryLaws.{AreEntryLaws}
use Rattle.apply.specs.Inner.Gathered.{ArePartitions, is_in}
use Rattle.apply.specs.Inner.Views.{views}
use Rattle.apply.specs.Orders.{AllUnder, Rising, place_in}
use Rattle.apply.proofs.Gathered.{length-tables, place-tables}
use Rattle.apply.proofs.Joined.{le_or_lt}
use Rattle.apply.proofs.Ordered.{under-higher, there-at, there-from}
use Rattle.apply.proofs.Splits.{from-partitions, partitions-row, refused-alike, new-partitions, all-changes}

-- ---- one partition

pub views-get : (partitions : List Partition) (k : ℕ) (partition : Partition) (d : Tables) → k < length partitions
    → partition ≡ get_or partitions k partition
    → get_or (views partitions) k d ≡ partition.tables.items
views-get partitions k partition d lt e =
    get_or-map (λ (partition : Partition). partition.tables.items) partitions k partition d lt
    ∙ sym (ap (λ (partition : Partition). partition.tables.items) e)

pub views-set : (partitions : List Partition) (k : ℕ) (new : Partition)
    → views (slice_set partitions k new) ≡ slice_set (views partitions) k new.tables.items
views-set partitions k new = map-set (λ (partition : Partition). partition.tables.items) partitions k new

pub views-length : (partitions : List Partition) → length (views partitions) ≡ length partitions
views-length partitions = length-map partitions (λ (partition : Partition). partition.tables.items)

-- the sum over the partitions so far
pub sum-more : (f : Tables → ℕ) (partitions : List Partition) (k : ℕ) (partition : Partition) → k < length partitions
    → partition ≡ get_or partitions k partition
    → sum_by f (take (k + 1) (views partitions)) ≡ sum_by f (take k (views partitions)) + f partition.tables.items
sum-more f partitions k partition lt e =
    sum_by_more f (views partitions) k partition.tables.items (omega (arith, lt, views-length partitions))
    ∙ ap (λ tables. sum_by f (take k (views partitions)) + f tables) (views-get partitions k partition partition.tables.items lt e)

pub sum-whole : (f : Tables → ℕ) (partitions : List Partition) (k : ℕ) → length partitions ≤ k
    → sum_by f (take k (views partitions)) ≡ sum_by f (views partitions)
sum-whole f partitions k le = ap (sum_by f) (take_all k (views partitions) (omega (arith, le, views-length partitions)))

-- as many are below a bound of all as there are
place-all : (bound : ℕ) (rows : Rows) → AllUnder bound rows → place_in rows bound ≡ length rows
place-all bound [] under = refl
place-all bound (row ∷ rows) under = let lt = under.0 in grind (arith, nat_tests, lt, place-all bound rows under.1)

pub place-bound : (partitions : List Tables) (t bound : ℕ)
    → ((k : ℕ) (d : Tables) → k < length partitions → AllUnder bound (rows_of (get_or partitions k d) t))
    → sum_by (λ (partition : Tables). place_in (rows_of partition t) bound) partitions
    ≡ sum_by (λ (partition : Tables). length (rows_of partition t)) partitions
place-bound [] t bound under = refl
place-bound (partition ∷ partitions) t bound under =
    sum_by-cons (λ (partition : Tables). place_in (rows_of partition t) bound) partition partitions
    ∙ ap (λ n. n + sum_by (λ (partition : Tables). place_in (rows_of partition t) bound) partitions)
    (place-all bound (rows_of partition t) (under 0 [] (omega arith)))
    ∙ ap (λ n. length (rows_of partition t) + n) (place-bound partitions t bound (λ k d lt. under (suc k) d (omega arith)))
    ∙ sym (sum_by-cons (λ (partition : Tables). length (rows_of partition t)) partition partitions)

-- all rows of a table are below a bound of those of each partition
pub place-last : (partitions : List Tables) (t bound : ℕ) → ArePartitions partitions
    → ((k : ℕ) (d : Tables) → k < length partitions → AllUnder bound (rows_of (get_or partitions k d) t))
    → place_in (rows_of (tables_in partitions) t) bound ≡ length (rows_of (tables_in partitions) t)
place-last partitions t bound are under =
    let from = from-partitions partitions are in
    place-tables (λ row. row % length partitions) (length (tables_in partitions)) 0 partitions t bound from
    ∙ place-bound partitions t bound under
    ∙ sym (length-tables (λ row. row % length partitions) (length (tables_in partitions)) 0 partitions t from)

-- ---- partitions without rows

opening-rows : (shape : Shape) (t : ℕ) → rows_of (opening shape) t ≡ []
opening-rows [] t = refl
opening-rows (kinds ∷ shape) zero = refl
opening-rows (kinds ∷ shape) (suc t) = opening-rows shape t

both-none : (shape : Shape) → both (opening shape) [] ≡ opening shape
both-none [] = refl
both-none (kinds ∷ shape) = ap (λ rest. record { kinds = kinds; rows = [] } ∷ rest) (both-none shape)

both-opening : (shape : Shape) → both (opening shape) (opening shape) ≡ opening shape
both-opening [] = refl
both-opening (kinds ∷ shape) = ap (λ rest. record { kinds = kinds; rows = [] } ∷ rest) (both-opening shape)

pub tables-opening : (shape : Shape) (n : ℕ) → tables_in (replicate (suc n) (opening shape)) ≡ opening shape
tables-opening shape zero = both-none shape
tables-opening shape (suc n) = ap (both (opening shape)) (tables-opening shape n) ∙ both-opening shape

pub partitions-opening : (shape : Shape) (n : ℕ) → 0 < n → ArePartitions (replicate n (opening shape))
partitions-opening shape zero some = absurd (omega arith)
partitions-opening shape (suc n) some =
    let all = replicate (suc n) (opening shape) in
    let many = length-replicate (suc n) (opening shape) in
    record {
      alike = λ k d lt. ap shape_in (get_or-replicate (suc n) k (opening shape) d (omega (arith, lt, many)) ∙ sym (tables-opening shape n));
      rise = λ k t d lt. subst (λ tables. Rising (rows_of tables t))
          (sym (get_or-replicate (suc n) k (opening shape) d (omega (arith, lt, many))))
          (subst Rising (sym (opening-rows shape t)) tt);
      home = λ k t row d lt other.
          ap (λ tables. row_at (rows_of tables t) row) (get_or-replicate (suc n) k (opening shape) d (omega (arith, lt, many)))
          ∙ ap (λ rows. row_at rows row) (opening-rows shape t);
    }

-- ---- what follows of an outcome

pub ok-follows : {T E : Type 0} (result : Result T E) (P Q : Type 0) → OnOk result P → (P → Q) → OnOk result Q
ok-follows (Ok value) P Q h then = then h
ok-follows (Err fault) P Q h then = h

pub on-err-follows : {T E : Type 0} (result : Result T E) (P Q : Type 0) → OnErr result P → (P → Q) → OnErr result Q
on-err-follows (Ok value) P Q h then = h
on-err-follows (Err fault) P Q h then = then h

pub err-follows : {T E : Type 0} (result : Result T E) (Q S : E → Type 0) → IfErr result Q → ((fault : E) → Q fault → S fault)
    → IfErr result S
err-follows (Ok value) Q S h then = h
err-follows (Err fault) Q S h then = then fault h

-- ---- the partition of an entry

-- the entry is of one row, and so of one partition
is_in-row : (n k : ℕ) (entry : Entry) (row : RowId) → row_of entry ≡ Some row → is_in n k entry ≡ (row.0 % n == k)
is_in-row n k entry row of = ap (λ found. option_map_or (λ (row : RowId). row.0 % n == k) found true) of

module _ (partitions : List Partition) (entry : Entry) (row : RowId) (of : row_of entry ≡ Some row) (home : ℕ) (was new : Partition)
    (is : was ≡ get_or partitions home was) (at : home ≡ row.0 % length partitions) (lt : home < length partitions)
    (are : ArePartitions (views partitions)) where
  abbrev olds : List Tables
  olds = views partitions

  mine : is_in (length partitions) home entry ≡ true
  mine = is_in-row (length partitions) home entry row of ∙ eq-eqb (row.0 % length partitions) home (sym at)

  pub own-refused : fault_kind true (apply_entry was.tables.items entry) ≡ fault_kind true (apply_entry (tables_in olds) entry)
  own-refused =
      ap (λ tables. fault_kind true (apply_entry tables entry)) (sym (views-get partitions home was [] lt is))
      ∙ refused-alike (length partitions) olds (sym (views-length partitions)) are entry home []
      (omega (arith, lt, views-length partitions)) mine

  module _ (laws : AreEntryLaws) (change : apply_entry was.tables.items entry ≡ Ok new.tables.items) where
    abbrev news : List Tables
    news = views (slice_set partitions home new)

    many : length news ≡ length olds
    many = ap length (views-set partitions home new) ∙ length-set olds home new.tables.items

    own : (k : ℕ) (d : Tables) → k < length olds → is_in (length partitions) k entry ≡ true
        → apply_entry (get_or olds k d) entry ≡ Ok (get_or news k d)
    own k d few takes =
        let here : k ≡ home =
        sym (eqb-true (row.0 % length partitions) k (sym (is_in-row (length partitions) k entry row of) ∙ takes)) ∙ sym at in
        ap (λ k. apply_entry (get_or olds k d) entry) here
        ∙ ap (λ tables. apply_entry tables entry) (views-get partitions home was d lt is)
        ∙ change
        ∙ ap Ok (sym (ap (λ k. get_or news k d) here ∙ ap (λ tables. get_or tables home d) (views-set partitions home new)
        ∙ get_or-set_same olds home new.tables.items d (omega (arith, lt, views-length partitions))))

    kept : (k : ℕ) (d : Tables) → k < length olds → is_in (length partitions) k entry ≡ false → get_or news k d ≡ get_or olds k d
    kept k d few away =
        ap (λ tables. get_or tables k d) (views-set partitions home new)
        ∙ get_or-set_other olds home k new.tables.items d
        (λ here. false≢true (sym away ∙ ap (λ k. is_in (length partitions) k entry) here ∙ mine))

    pub own-changes : (apply_entry (tables_in olds) entry ≡ Ok (tables_in news)) × ArePartitions news
    own-changes =
        let is = sym (views-length partitions) in
        let some : 0 < length partitions = omega (arith, lt) in (
          all-changes laws (length partitions) some entry olds news is many are own kept,
          new-partitions laws (length partitions) some entry olds news is many are own kept,
        )

pub views-same : (partitions : List Partition) (home : ℕ) (partition new : Partition) → partition ≡ get_or partitions home partition
    → new.tables.items ≡ partition.tables.items
    → views (slice_set partitions home new) ≡ views partitions
views-same partitions home partition new is same =
    map-set_same (λ (partition : Partition). partition.tables.items) partitions home new partition
    (same ∙ ap (λ (partition : Partition). partition.tables.items) is)

-- a bound of the partitions so far, and of one more
pub most-more : (partitions : List Partition) (t i most other new : ℕ) (partition : Partition) → i < length partitions
    → partition ≡ get_or partitions i partition → most ≤ new
    → other ≤ new
    → ((k : ℕ) (d : Tables) → k < i → AllUnder (most + 1) (rows_of (get_or (views partitions) k d) t))
    → AllUnder (other + 1) (rows_of partition.tables.items t)
    → (k : ℕ) (d : Tables) → k < i + 1 → AllUnder (new + 1) (rows_of (get_or (views partitions) k d) t)
most-more partitions t i most other new partition lt is le too before one k d few = elim (cases_eq k i) [
  | inl here ↦ subst (λ tables. AllUnder (new + 1) (rows_of tables t))
      (sym (ap (λ k. get_or (views partitions) k d) here ∙ views-get partitions i partition d lt is))
      (under-higher (other + 1) (new + 1) (rows_of partition.tables.items t) (omega arith) one)
  | inr apart ↦ under-higher (most + 1) (new + 1) (rows_of (get_or (views partitions) k d) t) (omega arith) (before k d (omega arith))
]

-- ---- a row's columns

columns-many : (values : List Value) (kinds : List Kind) → are_of_kinds values kinds ≡ true → length values ≡ length kinds
columns-many [] [] h = refl
columns-many [] (kind ∷ kinds) h = absurd (false≢true h)
columns-many (value ∷ values) [] h = absurd (false≢true h)
columns-many (value ∷ values) (kind ∷ kinds) h =
    ap suc (columns-many values kinds (and_parts (is_of_kind value kind) (are_of_kinds values kinds) h).1)

pub column-within : (found : Option (List Value)) (kinds : List Kind) (column : ℕ)
    → IfSome found (λ values. are_of_kinds values kinds ≡ true)
    → IsSome (column_of found column) → column < length kinds
column-within None kinds column h there = absurd (false≢true there)
column-within (Some values) kinds column h there =
    omega (arith, columns-many values kinds h, within (slice_get values column) refl there)
  where
    within : (value : Option Value) → slice_get values column ≡ value → IsSome value → column < length values
    within None e h = absurd (false≢true h)
    within (Some value) e h = slice_get_within values column value e

-- ---- a store that opens

pub opens : (partitions : List Tables) (shape : Shape) (n : ℕ) → 0 < n → partitions ≡ replicate n (opening shape)
    → (length partitions ≡ n) × (tables_in partitions ≡ opening shape) × ArePartitions partitions
opens partitions shape zero some is = absurd (omega arith)
opens partitions shape (suc n) some is = (
  ap length is ∙ length-replicate (suc n) (opening shape),
  ap tables_in is ∙ tables-opening shape n,
  subst ArePartitions (sym is) (partitions-opening shape (suc n) some),
)

-- ---- a row's place

pub found-values : (result : Option ℕ) (row : ℕ) (rows : Rows) → Rising rows → is_some result ≡ is_present rows row
    → IfSome result (λ at. at ≡ place_in rows row)
    → IfSome result (λ at. option_map (λ found. found.1) (slice_get rows at) ≡ row_at rows row)
found-values None row rows rise found place = place
found-values (Some at) row rows rise found place = by (row_at rows row) refl
  where
    by : (values : Option (List Value)) → row_at rows row ≡ values
        → option_map (λ found. found.1) (slice_get rows at) ≡ row_at rows row
    by None e = absurd (false≢true (ap is_some (sym e) ∙ sym found))
    by (Some values) e =
        ap (λ at. option_map (λ found. found.1) (slice_get rows at)) place
        ∙ ap (option_map (λ (found : ℕ × List Value). found.1)) (there-at row rows values rise e) ∙ sym e

module _ (partitions : List Tables) (table : ℕ) (spot : Spot) (column : ℕ) where
  none-there : slice_get (rows_of (get_or partitions spot.partition []) table) spot.position ≡ None
      → IsSome (column_of (values_in partitions table spot) column) → ⊥
  none-there e there =
      false≢true (ap (λ found. is_some (column_of (option_map (λ (row : ℕ × List Value). row.1) found) column)) (sym e) ∙ there)

  pub spot-position : IsSome (column_of (values_in partitions table spot) column)
      → spot.position < length (rows_of (get_or partitions spot.partition []) table)
  spot-position there = by (slice_get (rows_of (get_or partitions spot.partition []) table) spot.position) refl
    where
      by : (found : Option (ℕ × List Value)) → slice_get (rows_of (get_or partitions spot.partition []) table) spot.position ≡ found
          → spot.position < length (rows_of (get_or partitions spot.partition []) table)
      by None e = absurd (none-there e there)
      by (Some row) e = slice_get_within (rows_of (get_or partitions spot.partition []) table) spot.position row e

  pub spot-partition : IsSome (column_of (values_in partitions table spot) column) → spot.partition < length partitions
  spot-partition there = elim (le_or_lt (length partitions) spot.partition) [
    | inl past ↦
        (let few = spot-position there in
        absurd (omega (
          arith,
          few,
          ap (λ (tables : Tables). length (rows_of tables table))
              (get_or_past partitions spot.partition [] past),
        )))
    | inr lt ↦ lt
  ]

  pub spot-columns : ArePartitions partitions → RowsAreOfKinds (tables_in partitions)
      → IsSome (column_of (values_in partitions table spot) column)
      → column < length (kinds_of (tables_in partitions) table)
  spot-columns are kinds there = by (slice_get (rows_of (get_or partitions spot.partition []) table) spot.position) refl
    where
      by : (found : Option (ℕ × List Value)) → slice_get (rows_of (get_or partitions spot.partition []) table) spot.position ≡ found
          → column < length (kinds_of (tables_in partitions) table)
      by None e = absurd (none-there e there)
      by (Some (id, values)) e =
          let rows = rows_of (get_or partitions spot.partition []) table in
          let lt = spot-partition there in
          let own = there-from id rows spot.position values (are.rise spot.partition table [] lt) e in
          let of : id % length partitions ≡ spot.partition = home id values own in
          let all : row_at (rows_of (tables_in partitions) table) id
          ≡ Some values = partitions-row partitions table id spot.partition [] are of lt ∙ own in
          column-within (Some values) (kinds_of (tables_in partitions) table) column
          (subst (λ found. IfSome found (λ values. are_of_kinds values (kinds_of (tables_in partitions) table) ≡ true)) all
          (kinds table id))
          (subst (λ found. IsSome (column_of (option_map (λ (row : ℕ × List Value). row.1) found) column)) e there)
        where
          home : (id : ℕ) (values : List Value) → row_at (rows_of (get_or partitions spot.partition []) table) id ≡ Some values
              → id % length partitions ≡ spot.partition
          home id values own = elim (cases_eq (id % length partitions) spot.partition) [
            | inl same ↦ same
            | inr other ↦ absurd (false≢true
                (ap is_some (sym (are.home spot.partition table id [] (spot-partition there) other)) ∙ ap is_some own))
          ]
