-- The tables of all partitions: each row is that of its own partition, and rows are as many as theirs together.
use Rattle.std.proofs.Common.{◌≡◌, ◌≢◌, ℕ, suc, zero, ◌+◌, ◌<◌, ◌≤◌, Bool, true, false, cond, ◌==◌, List, [], ◌∷◌, length, get_or, Option}
use Rattle.std.proofs.Common.{None, Some, nat_lt, refl, sym, ap, subst, ◌∙◌, arith}
use Rattle.std.specs.List.{sum_by}
use Rattle.std.specs.Option.{is_some}
use Rattle.std.proofs.lemmas.Bool.{false≢true}
use Rattle.std.proofs.lemmas.Bool.Decides.{nat_tests}
use Rattle.std.proofs.lemmas.List.{length-map}
use Rattle.std.proofs.lemmas.List.Sums.{sum_by-cons}
use Rattle.rows.specs.declared.value.Value.{Value}
use Rattle.rows.specs.Tables.{Rows, Table, Tables, shape_in, rows_of, row_at, is_present, with_row}
use Rattle.apply.specs.Orders.{AllOver, Rising, place_in}
use Rattle.apply.specs.Partitions.{gathered, both, tables_in}
use Rattle.apply.proofs.Counted.{length-with_row}
use Rattle.apply.proofs.Ordered.{row_at-over, rising-with_row}

-- ---- two lists of rows

row_at-put : (rows : Rows) (row : ℕ) (values : List Value) (other : ℕ)
    → row_at (with_row rows row values) other ≡ cond (row == other) (Some values) (row_at rows other)
row_at-put [] row values other = grind (arith, nat_tests)
row_at-put (one ∷ rows) row values other = grind (arith, nat_tests, row_at-put rows row values other)

-- the first that is found
abbrev pub first_of : Option (List Value) → Option (List Value) → Option (List Value)
first_of None other = other
first_of (Some values) other = Some values

pub row_at-gathered : (rows others : Rows) (row : ℕ) → row_at (gathered rows others) row ≡ first_of (row_at rows row) (row_at others row)
row_at-gathered [] others row = refl
row_at-gathered (one ∷ rows) others row =
    row_at-put (gathered rows others) one.0 one.1 row ∙ grind (arith, nat_tests, row_at-gathered rows others row)

-- no row is in both
abbrev pub Apart : Rows → Rows → Type 0
Apart rows others = (row : ℕ) → is_present rows row ≡ true → is_present others row ≡ false

apart-head : (one : ℕ × List Value) (rows others : Rows) → Apart (one ∷ rows) others → is_present others one.0 ≡ false
apart-head one rows others apart = apart one.0 (grind (arith, nat_tests))

apart-tail : (one : ℕ × List Value) (rows others : Rows) → Apart (one ∷ rows) others → Apart rows others
apart-tail one rows others apart row here = apart row (grind (arith, nat_tests, here))

absent-gathered : (one : ℕ × List Value) (rows others : Rows) → AllOver one.0 rows → is_present others one.0 ≡ false
    → is_present (gathered rows others) one.0 ≡ false
absent-gathered one rows others over away =
    ap is_some (row_at-gathered rows others one.0 ∙ ap (λ found. first_of found (row_at others one.0)) (row_at-over one.0 rows over)) ∙ away

pub rising-gathered : (rows others : Rows) → Rising rows → Rising others → Apart rows others → Rising (gathered rows others)
rising-gathered [] others rise too apart = too
rising-gathered (one ∷ rows) others rise too apart =
    rising-with_row one.0 one.1 (gathered rows others) (rising-gathered rows others rise.1 too (apart-tail one rows others apart))
    (absent-gathered one rows others rise.0 (apart-head one rows others apart))

pub length-gathered : (rows others : Rows) → Rising rows → Apart rows others → length (gathered rows others) ≡ length rows + length others
length-gathered [] others rise apart = omega arith
length-gathered (one ∷ rows) others rise apart =
    omega (
      arith,
      length-with_row one.0 one.1 (gathered rows others) (absent-gathered one rows others rise.0 (apart-head one rows others apart)),
      length-gathered rows others rise.1 (apart-tail one rows others apart),
    )

place-put : (row : ℕ) (values : List Value) (rows : Rows) (id : ℕ) → is_present rows row ≡ false
    → place_in (with_row rows row values) id ≡ cond (nat_lt row id) 1 0 + place_in rows id
place-put row values [] id away = grind (arith, nat_tests)
place-put row values (one ∷ rows) id away = grind (arith, nat_tests, place-put row values rows id)

place-past : (low id : ℕ) (rows : Rows) → AllOver low rows → id ≤ low → place_in rows id ≡ 0
place-past low id [] over le = refl
place-past low id (one ∷ rows) over le = let lt = over.0 in grind (arith, nat_tests, lt)

pub place-gathered : (rows others : Rows) (id : ℕ) → Rising rows → Apart rows others
    → place_in (gathered rows others) id ≡ place_in rows id + place_in others id
place-gathered [] others id rise apart = omega arith
place-gathered (one ∷ rows) others id rise apart =
    let put = place-put one.0 one.1 (gathered rows others) id (absent-gathered one rows others rise.0 (apart-head one rows others apart)) in
    let rest = place-gathered rows others id rise.1 (apart-tail one rows others apart) in
    by (nat_lt one.0 id) refl put rest
  where
    by : (below : Bool) → nat_lt one.0 id ≡ below
        → place_in (with_row (gathered rows others) one.0 one.1) id ≡ cond (nat_lt one.0 id) 1 0 + place_in (gathered rows others) id
        → place_in (gathered rows others) id ≡ place_in rows id + place_in others id
        → place_in (gathered (one ∷ rows) others) id ≡ place_in (one ∷ rows) id + place_in others id
    by true e put rest = grind (arith, nat_tests, e, put, rest)
    by false e put rest =
        let past = place-past one.0 id rows rise.0 (grind (arith, nat_tests, e)) in
        grind (arith, nat_tests, e, put, rest, past)

-- ---- the tables of two partitions

rows_of-both : (these others : Tables) (t : ℕ) → length others ≤ length these
    → rows_of (both these others) t ≡ gathered (rows_of these t) (rows_of others t)
rows_of-both [] [] t le = refl
rows_of-both [] (other ∷ others) t le = absurd (omega arith)
rows_of-both (one ∷ these) [] zero le = refl
rows_of-both (one ∷ these) [] (suc t) le = rows_of-both these [] t (omega arith)
rows_of-both (one ∷ these) (other ∷ others) zero le = refl
rows_of-both (one ∷ these) (other ∷ others) (suc t) le = rows_of-both these others t (omega arith)

pub shape-both : (these others : Tables) → shape_in (both these others) ≡ shape_in these
shape-both [] others = refl
shape-both (one ∷ these) [] = ap (λ shape. one.kinds ∷ shape) (shape-both these [])
shape-both (one ∷ these) (other ∷ others) = ap (λ shape. one.kinds ∷ shape) (shape-both these others)

length-both : (these others : Tables) → length (both these others) ≡ length these
length-both these others =
    sym (length-map (both these others) (λ (table : Table). table.kinds)) ∙ ap length (shape-both these others)
    ∙ length-map these (λ (table : Table). table.kinds)

-- ---- the tables of all

-- partitions that begin at one of a number, each with so many tables, and with no rows but its own
pub record AreFrom (partition_of : ℕ → ℕ) (base many : ℕ) (partitions : List Tables) : Type 0 where
  pub alike : (k : ℕ) (d : Tables) → k < length partitions → length (get_or partitions k d) ≡ many
  pub rise : (k t : ℕ) (d : Tables) → k < length partitions → Rising (rows_of (get_or partitions k d) t)
  pub home : (k t row : ℕ) (d : Tables) → k < length partitions → partition_of row ≢ base + k
      → row_at (rows_of (get_or partitions k d) t) row ≡ None

module _ (partition_of : ℕ → ℕ) (many : ℕ) where
  tail : (base : ℕ) (partition : Tables) (partitions : List Tables) → AreFrom partition_of base many (partition ∷ partitions)
      → AreFrom partition_of (suc base) many partitions
  tail base partition partitions are = record {
    alike = λ k d lt. are.alike (suc k) d (omega arith);
    rise = λ k t d lt. are.rise (suc k) t d (omega arith);
    home = λ k t row d lt other. are.home (suc k) t row d (omega arith) (λ e. other (omega (arith, e)));
  }

  few : (base : ℕ) (partitions : List Tables) → AreFrom partition_of base many partitions → length (tables_in partitions) ≤ many
  few base [] are = omega arith
  few base (partition ∷ partitions) are = omega (arith, length-both partition (tables_in partitions), are.alike 0 [] (omega arith))

  rows-first : (base : ℕ) (partition : Tables) (partitions : List Tables) (t : ℕ) → AreFrom partition_of base many (partition ∷ partitions)
      → rows_of (tables_in (partition ∷ partitions)) t ≡ gathered (rows_of partition t) (rows_of (tables_in partitions) t)
  rows-first base partition partitions t are =
      rows_of-both partition (tables_in partitions) t
      (omega (arith, few (suc base) partitions (tail base partition partitions are), are.alike 0 [] (omega arith)))

  none-in : (base : ℕ) (partitions : List Tables) (t row : ℕ) → AreFrom partition_of base many partitions → partition_of row < base
      → row_at (rows_of (tables_in partitions) t) row ≡ None
  none-in base [] t row are lt = refl
  none-in base (partition ∷ partitions) t row are lt =
      ap (λ rows. row_at rows row) (rows-first base partition partitions t are)
      ∙ row_at-gathered (rows_of partition t) (rows_of (tables_in partitions) t) row
      ∙ ap (λ found. first_of found (row_at (rows_of (tables_in partitions) t) row))
      (are.home 0 t row [] (omega arith) (λ e. absurd (omega (arith, e, lt))))
      ∙ none-in (suc base) partitions t row (tail base partition partitions are) (omega arith)

  first-none : (found : Option (List Value)) → first_of found None ≡ found
  first-none None = refl
  first-none (Some values) = refl

  pub row_at-tables : (base : ℕ) (partitions : List Tables) (t row h : ℕ) (d : Tables) → AreFrom partition_of base many partitions
      → partition_of row ≡ base + h → h < length partitions
      → row_at (rows_of (tables_in partitions) t) row ≡ row_at (rows_of (get_or partitions h d) t) row
  row_at-tables base [] t row h d are of lt = absurd (omega arith)
  row_at-tables base (partition ∷ partitions) t row zero d are of lt =
      ap (λ rows. row_at rows row) (rows-first base partition partitions t are)
      ∙ row_at-gathered (rows_of partition t) (rows_of (tables_in partitions) t) row
      ∙ ap (first_of (row_at (rows_of partition t) row))
      (none-in (suc base) partitions t row (tail base partition partitions are) (omega (arith, of)))
      ∙ first-none (row_at (rows_of partition t) row)
  row_at-tables base (partition ∷ partitions) t row (suc h) d are of lt =
      ap (λ rows. row_at rows row) (rows-first base partition partitions t are)
      ∙ row_at-gathered (rows_of partition t) (rows_of (tables_in partitions) t) row
      ∙ ap (λ found. first_of found (row_at (rows_of (tables_in partitions) t) row))
      (are.home 0 t row [] (omega arith) (λ e. absurd (omega (arith, e, of))))
      ∙ row_at-tables (suc base) partitions t row h d (tail base partition partitions are) (omega (arith, of)) (omega arith)

  apart : (base : ℕ) (partition : Tables) (partitions : List Tables) (t : ℕ) → AreFrom partition_of base many (partition ∷ partitions)
      → Apart (rows_of partition t) (rows_of (tables_in partitions) t)
  apart base partition partitions t are row here = by (partition_of row == base) refl
    where
      by : (own : Bool) → (partition_of row == base) ≡ own → is_present (rows_of (tables_in partitions) t) row ≡ false
      by true e =
          ap is_some (none-in (suc base) partitions t row (tail base partition partitions are) (grind (arith, nat_tests, e)))
      by false e =
          let none = are.home 0 t row [] (omega arith) (λ same. false≢true (sym e ∙ grind (arith, nat_tests, same))) in
          absurd (false≢true (ap is_some (sym none) ∙ here))

  pub rising-tables : (base : ℕ) (partitions : List Tables) (t : ℕ) → AreFrom partition_of base many partitions
      → Rising (rows_of (tables_in partitions) t)
  rising-tables base [] t are = tt
  rising-tables base (partition ∷ partitions) t are =
      subst Rising (sym (rows-first base partition partitions t are))
      (rising-gathered (rows_of partition t) (rows_of (tables_in partitions) t) (are.rise 0 t [] (omega arith))
      (rising-tables (suc base) partitions t (tail base partition partitions are)) (apart base partition partitions t are))

  pub length-tables : (base : ℕ) (partitions : List Tables) (t : ℕ) → AreFrom partition_of base many partitions
      → length (rows_of (tables_in partitions) t) ≡ sum_by (λ (partition : Tables). length (rows_of partition t)) partitions
  length-tables base [] t are = refl
  length-tables base (partition ∷ partitions) t are =
      ap length (rows-first base partition partitions t are)
      ∙ length-gathered (rows_of partition t) (rows_of (tables_in partitions) t) (are.rise 0 t [] (omega arith))
      (apart base partition partitions t are)
      ∙ ap (λ n. length (rows_of partition t) + n) (length-tables (suc base) partitions t (tail base partition partitions are))
      ∙ sym (sum_by-cons (λ (partition : Tables). length (rows_of partition t)) partition partitions)

  pub place-tables : (base : ℕ) (partitions : List Tables) (t id : ℕ) → AreFrom partition_of base many partitions
      → place_in (rows_of (tables_in partitions) t) id ≡ sum_by (λ (partition : Tables). place_in (rows_of partition t) id) partitions
  place-tables base [] t id are = refl
  place-tables base (partition ∷ partitions) t id are =
      ap (λ rows. place_in rows id) (rows-first base partition partitions t are)
      ∙ place-gathered (rows_of partition t) (rows_of (tables_in partitions) t) id (are.rise 0 t [] (omega arith))
      (apart base partition partitions t are)
      ∙ ap (λ n. place_in (rows_of partition t) id + n) (place-tables (suc base) partitions t id (tail base partition partitions are))
      ∙ sym (sum_by-cons (λ (partition : Tables). place_in (rows_of partition t) id) partition partitions)

-- ---- rows that rise are known by their look-ups

found-head : (one : ℕ × List Value) (rows : Rows) → row_at (one ∷ rows) one.0 ≡ Some one.1
found-head one rows = grind (arith, nat_tests)

tail-finds : (one other : ℕ × List Value) (rows others : Rows) → one.0 ≡ other.0 → AllOver one.0 rows → AllOver other.0 others
    → ((row : ℕ) → row_at (one ∷ rows) row ≡ row_at (other ∷ others) row) → (row : ℕ) → row_at rows row ≡ row_at others row
tail-finds one other rows others same over too finds row = by (one.0 == row) refl
  where
    by : (here : Bool) → (one.0 == row) ≡ here → row_at rows row ≡ row_at others row
    by true e =
        let is : one.0 ≡ row = grind (arith, nat_tests, e) in
        row_at-over row rows (subst (λ low. AllOver low rows) is over)
        ∙ sym (row_at-over row others (subst (λ low. AllOver low others) (sym same ∙ is) too))
    by false e = let all = finds row in grind (arith, nat_tests, e, all, same)

pub same-rows : (rows others : Rows) → Rising rows → Rising others → ((row : ℕ) → row_at rows row ≡ row_at others row) → rows ≡ others
same-rows [] [] rise too finds = refl
same-rows [] (other ∷ others) rise too finds = absurd (let e = finds other.0 ∙ found-head other others in cc)
same-rows (one ∷ rows) [] rise too finds = absurd (let e = sym (finds one.0) ∙ found-head one rows in cc)
same-rows (one ∷ rows) (other ∷ others) rise too finds =
    let ids = same-id in
    let values : one.1 ≡ other.1 =
    (let e : Some one.1 ≡ Some other.1 =
    sym (found-head one rows) ∙ finds one.0 ∙ ap (row_at (other ∷ others)) ids ∙ found-head other others in cc) in
    let rest = same-rows rows others rise.1 too.1 (tail-finds one other rows others ids rise.0 too.0 finds) in
    λ i. (ids i, values i) ∷ rest i
  where
    below-head : (row : ℕ) (first : ℕ × List Value) (rows : Rows) → AllOver first.0 rows → row < first.0 → row_at (first ∷ rows) row ≡ None
    below-head row first rows over lt =
        let behind = row_at-over row rows (lower rows over) in grind (arith, nat_tests, lt, behind)
      where
        lower : (rows : Rows) → AllOver first.0 rows → AllOver row rows
        lower [] h = tt
        lower (next ∷ rows) h = (let n = h.0 in omega arith, lower rows h.1)

    same-id : one.0 ≡ other.0
    same-id = by (nat_lt one.0 other.0) (nat_lt other.0 one.0) refl refl
      where
        by : (less more : Bool) → nat_lt one.0 other.0 ≡ less → nat_lt other.0 one.0 ≡ more → one.0 ≡ other.0
        by true more e f =
            let none = below-head one.0 other others too.0 (grind (arith, nat_tests, e)) in
            absurd (let h = sym (found-head one rows) ∙ finds one.0 ∙ none in cc)
        by false true e f =
            let none = below-head other.0 one rows rise.0 (grind (arith, nat_tests, f)) in
            absurd (let h = sym (found-head other others) ∙ sym (finds other.0) ∙ none in cc)
        by false false e f = grind (arith, nat_tests, e, f)

pub same-tables : (these others : Tables) → shape_in these ≡ shape_in others → ((t : ℕ) → Rising (rows_of these t))
    → ((t : ℕ) → Rising (rows_of others t)) → ((t row : ℕ) → row_at (rows_of these t) row ≡ row_at (rows_of others t) row) → these ≡ others
same-tables [] [] kinds rise too rows = refl
same-tables [] (other ∷ others) kinds rise too rows = cc
same-tables (one ∷ these) [] kinds rise too rows = cc
same-tables (one ∷ these) (other ∷ others) kinds rise too rows =
    let first : one.kinds ≡ other.kinds = cc in
    let rest : shape_in these ≡ shape_in others = cc in
    let same = same-rows one.rows other.rows (rise 0) (too 0) (rows 0) in
    let tail = same-tables these others rest (λ t. rise (suc t)) (λ t. too (suc t)) (λ t. rows (suc t)) in
    λ i. record { kinds = first i; rows = same i } ∷ tail i
