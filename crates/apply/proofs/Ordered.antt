-- Rows in rising identifier: where a row stands, and what is changed there.
use Rattle.std.proofs.Common.{◌≡◌, ℕ, zero, suc, ◌+◌, ◌<◌, ◌≤◌, Bool, true, false, cond, not, ◌==◌, List, [], ◌∷◌, ◌++◌, length, take}
use Rattle.std.proofs.Common.{drop, Option, None, Some}
use Rattle.std.proofs.Common.{Less, Equal, Greater, Ordering, refl, sym, ap, subst, ◌∙◌, nat_lt, slice_get, slice_set, nat_eq, get_or}
use Rattle.std.proofs.Common.{arith}
use Rattle.std.specs.BTreeMap.{is_at}
use Rattle.std.specs.List.{AllByRecursion, insert, remove, prefix_len}
use Rattle.std.specs.List.Sorted.{IsStrictlySortedBy, IsPartitionPoint}
use Rattle.std.specs.Map.{keys_of, set_value}
use Rattle.std.specs.Option.{is_some}
use Rattle.std.specs.Ordering.{nat_cmp}
use Rattle.std.proofs.lemmas.Bool.{false≢true}
use Rattle.std.proofs.lemmas.Bool.Decides.{nat_tests}
use Rattle.std.proofs.lemmas.List.{take-append-drop, length-take-le, length-drop, drop-drop, set_split}
use Rattle.std.proofs.lemmas.List.Sums.{prefix_len_is}
use Rattle.std.proofs.lemmas.Map.{keys-set_value}
use Rattle.std.proofs.lemmas.Option.{same_Some}
use Rattle.rows.specs.declared.value.Value.{Value}
use Rattle.rows.specs.declared.kind.Kind.{Kind}
use Rattle.rows.specs.Tables.{Rows, row_at, is_present, with_row, with_patch, without_row}
use Rattle.apply.specs.Orders.{AllOver, AllUnder, Rising, place_in}

-- ---- bounds

pub over-lower : (low high : ℕ) (rows : Rows) → low ≤ high → AllOver high rows → AllOver low rows
over-lower low high [] le h = tt
over-lower low high (row ∷ rows) le h = (let one = h.0 in omega arith, over-lower low high rows le h.1)

pub under-higher : (low high : ℕ) (rows : Rows) → low ≤ high → AllUnder low rows → AllUnder high rows
under-higher low high [] le h = tt
under-higher low high (row ∷ rows) le h = (let one = h.0 in omega arith, under-higher low high rows le h.1)

pub over-append : (low : ℕ) (front back : Rows) → AllOver low front → AllOver low back → AllOver low (front ++ back)
over-append low [] back f b = b
over-append low (row ∷ front) back f b = (f.0, over-append low front back f.1 b)

pub over-parts : (low : ℕ) (front back : Rows) → AllOver low (front ++ back) → AllOver low front × AllOver low back
over-parts low [] back h = (tt, h)
over-parts low (row ∷ front) back h = let rest = over-parts low front back h.1 in ((h.0, rest.0), rest.1)

pub under-append : (high : ℕ) (front back : Rows) → AllUnder high front → AllUnder high back → AllUnder high (front ++ back)
under-append high [] back f b = b
under-append high (row ∷ front) back f b = (f.0, under-append high front back f.1 b)

-- ---- one list behind another

-- each row of a list is below each of another
abbrev pub AllBefore : Rows → Rows → Type 0
AllBefore front back = AllByRecursion (λ row. AllOver row.0 back) front

pub rising-parts : (front back : Rows) → Rising (front ++ back) → Rising front × Rising back × AllBefore front back
rising-parts [] back h = (tt, h, tt)
rising-parts (row ∷ front) back h =
    let over = over-parts row.0 front back h.0 in
    let rest = rising-parts front back h.1 in
    ((over.0, rest.0), rest.1, (over.1, rest.2))

pub rising-join : (front back : Rows) → Rising front → Rising back → AllBefore front back → Rising (front ++ back)
rising-join [] back f b h = b
rising-join (row ∷ front) back f b h = (over-append row.0 front back f.0 h.0, rising-join front back f.1 b h.1)

-- a list whose rows are below one, before a list of others
pub under-before : (row : ℕ × List Value) (front back : Rows) → AllBefore front (row ∷ back) → AllUnder row.0 front
under-before row [] back h = tt
under-before row (one ∷ front) back h = (h.0.0, under-before row front back h.1)

pub before-over : (bound : ℕ) (front back : Rows) → AllUnder bound front → AllOver bound back → AllBefore front back
before-over bound [] back u o = tt
before-over bound (row ∷ front) back u o =
    (over-lower row.0 bound back (let one = u.0 in omega arith) o, before-over bound front back u.1 o)

-- ---- a row between rows below it and rows above it

pub row_at-front : (row : ℕ) (front back : Rows) → AllUnder row front → row_at (front ++ back) row ≡ row_at back row
row_at-front row [] back h = refl
row_at-front row (one ∷ front) back h = grind (arith, nat_tests, h.0, row_at-front row front back h.1)

pub row_at-over : (row : ℕ) (rows : Rows) → AllOver row rows → row_at rows row ≡ None
row_at-over row [] h = refl
row_at-over row (one ∷ rows) h = grind (arith, nat_tests, h.0, row_at-over row rows h.1)

pub row_at-back : (row : ℕ) (front back : Rows) → AllOver row back → row_at (front ++ back) row ≡ row_at front row
row_at-back row [] back h = row_at-over row back h
row_at-back row (one ∷ front) back h = grind (arith, nat_tests, row_at-back row front back h)

pub with_row-front : (row : ℕ) (values : List Value) (front back : Rows) → AllUnder row front
    → with_row (front ++ back) row values ≡ front ++ with_row back row values
with_row-front row values [] back h = refl
with_row-front row values (one ∷ front) back h = grind (arith, nat_tests, h.0, with_row-front row values front back h.1)

pub with_row-over : (row : ℕ) (values : List Value) (rows : Rows) → AllOver row rows → with_row rows row values ≡ (row, values) ∷ rows
with_row-over row values [] h = refl
with_row-over row values (one ∷ rows) h = grind (arith, nat_tests, h.0)

pub with_row-back : (row : ℕ) (values : List Value) (front back : Rows) → AllOver row back
    → with_row (front ++ back) row values ≡ with_row front row values ++ back
with_row-back row values [] back h = with_row-over row values back h
with_row-back row values (one ∷ front) back h = grind (arith, nat_tests, with_row-back row values front back h)

pub without_row-over : (row : ℕ) (rows : Rows) → AllOver row rows → without_row rows row ≡ rows
without_row-over row [] h = refl
without_row-over row (one ∷ rows) h = grind (arith, nat_tests, h.0, without_row-over row rows h.1)

pub without_row-under : (row : ℕ) (rows : Rows) → AllUnder row rows → without_row rows row ≡ rows
without_row-under row [] h = refl
without_row-under row (one ∷ rows) h = grind (arith, nat_tests, h.0, without_row-under row rows h.1)

pub without_row-append : (row : ℕ) (front back : Rows) → without_row (front ++ back) row ≡ without_row front row ++ without_row back row
without_row-append row [] back = refl
without_row-append row (one ∷ front) back = grind (arith, nat_tests, without_row-append row front back)

pub without_row-absent : (row : ℕ) (rows : Rows) → is_present rows row ≡ false → without_row rows row ≡ rows
without_row-absent row [] away = refl
without_row-absent row (one ∷ rows) away = grind (arith, nat_tests, without_row-absent row rows)

pub with_patch-absent : (kinds : List Kind) (rows : Rows) (row offset : ℕ) (bytes : List ℕ) → is_present rows row ≡ false
    → with_patch kinds rows row offset bytes ≡ rows
with_patch-absent kinds rows row offset bytes away = by (row_at rows row) refl
  where
    by : (found : Option (List Value)) → row_at rows row ≡ found → with_patch kinds rows row offset bytes ≡ rows
    by None e = rw e refl
    by (Some values) e = absurd (false≢true (sym away ∙ ap is_some e))

pub set-front : (row : ℕ) (values : List Value) (front back : Rows) → AllUnder row front
    → set_value (is_at (nat_cmp row)) (front ++ back) values ≡ front ++ set_value (is_at (nat_cmp row)) back values
set-front row values [] back h = refl
set-front row values (one ∷ front) back h = grind (arith, nat_tests, h.0, set-front row values front back h.1)

pub set-over : (row : ℕ) (values : List Value) (rows : Rows) → AllOver row rows → set_value (is_at (nat_cmp row)) rows values ≡ rows
set-over row values [] h = refl
set-over row values (one ∷ rows) h = grind (arith, nat_tests, h.0, set-over row values rows h.1)

pub set-back : (row : ℕ) (values : List Value) (front back : Rows) → AllOver row back
    → set_value (is_at (nat_cmp row)) (front ++ back) values ≡ set_value (is_at (nat_cmp row)) front values ++ back
set-back row values [] back h = set-over row values back h
set-back row values (one ∷ front) back h = grind (arith, nat_tests, set-back row values front back h)

-- ---- where a row stands

-- the rows before its place are below it, and of the others it is the first, or all are above it
pub data Stands (row : ℕ) (rows : Rows) : Type 0 where
  absent : AllUnder row (take (place_in rows row) rows) → AllOver row (drop (place_in rows row) rows) → Stands row rows
  there : (values : List Value) (behind : Rows) → AllUnder row (take (place_in rows row) rows)
      → drop (place_in rows row) rows ≡ (row, values) ∷ behind → AllOver row behind → Stands row rows

pub place-within : (row : ℕ) (rows : Rows) → place_in rows row ≤ length rows
place-within row [] = omega arith
place-within row (one ∷ rows) = grind (arith, nat_tests, place-within row rows)

pub stands : (row : ℕ) (rows : Rows) → Rising rows → Stands row rows
stands row [] rise = absent tt tt
stands row (one ∷ rows) rise = by (nat_cmp row one.0) refl (stands row rows rise.1)
  where
    by : (order : Ordering) → nat_cmp row one.0 ≡ order → Stands row rows → Stands row (one ∷ rows)
    by Less e rest =
        let lt : row < one.0 = grind (arith, nat_tests, e) in
        let none : place_in (one ∷ rows) row ≡ 0 = grind (arith, nat_tests, e) in
        absent (rw none tt) (rw none (lt, over-lower row one.0 rows (omega arith) rise.0))
    by Equal e rest =
        let same : one.0 ≡ row = grind (arith, nat_tests, e) in
        let none : place_in (one ∷ rows) row ≡ 0 = grind (arith, nat_tests, e) in
        there one.1 rows (rw none tt) (rw none (ap (λ id. (id, one.1) ∷ rows) same)) (over-lower row one.0 rows (omega arith) rise.0)
    by Greater e rest =
        let lt : one.0 < row = grind (arith, nat_tests, e) in
        let more : place_in (one ∷ rows) row ≡ suc (place_in rows row) = grind (arith, nat_tests, e) in
        elim rest [
          | absent under over ↦ absent (rw more (lt, under)) (rw more over)
          | there values behind under at over ↦ there values behind (rw more (lt, under)) (rw more at) over
        ]

-- the rows before a place and those from it on
abbrev pub front_of : Rows → ℕ → Rows
front_of rows row = take (place_in rows row) rows

abbrev pub back_of : Rows → ℕ → Rows
back_of rows row = drop (place_in rows row) rows

pub parted : (rows : Rows) (row : ℕ) → front_of rows row ++ back_of rows row ≡ rows
parted rows row = take-append-drop (place_in rows row) rows

front-length : (rows : Rows) (row : ℕ) → length (front_of rows row) ≡ place_in rows row
front-length rows row = length-take-le (place_in rows row) rows (place-within row rows)

-- a row that is not there
pub record IsAbsent (row : ℕ) (rows : Rows) : Type 0 where
  pub under : AllUnder row (front_of rows row)
  pub over : AllOver row (back_of rows row)

-- a row that is there, with its values
pub record IsThere (row : ℕ) (rows : Rows) : Type 0 where
  pub values : List Value
  pub behind : Rows
  pub under : AllUnder row (front_of rows row)
  pub at : back_of rows row ≡ (row, values) ∷ behind
  pub over : AllOver row behind
  pub found : row_at rows row ≡ Some values

found-at : (row : ℕ) (rows : Rows) (values : List Value) (behind : Rows) → AllUnder row (front_of rows row)
    → back_of rows row ≡ (row, values) ∷ behind → row_at rows row ≡ Some values
found-at row rows values behind under at =
    ap (λ rows. row_at rows row) (sym (parted rows row)) ∙ row_at-front row (front_of rows row) (back_of rows row) under
    ∙ ap (λ rows. row_at rows row) at ∙ grind (arith, nat_tests)

found-none : (row : ℕ) (rows : Rows) → AllUnder row (front_of rows row) → AllOver row (back_of rows row) → row_at rows row ≡ None
found-none row rows under over =
    ap (λ rows. row_at rows row) (sym (parted rows row)) ∙ row_at-front row (front_of rows row) (back_of rows row) under
    ∙ row_at-over row (back_of rows row) over

pub is-there : (row : ℕ) (rows : Rows) → Rising rows → is_present rows row ≡ true → IsThere row rows
is-there row rows rise here = by (stands row rows rise)
  where
    by : Stands row rows → IsThere row rows
    by (absent under over) = absurd (false≢true (ap is_some (sym (found-none row rows under over)) ∙ here))
    by (there values behind under at over) = record {
      values = values;
      behind = behind;
      under = under;
      at = at;
      over = over;
      found = found-at row rows values behind under at;
    }

pub is-absent : (row : ℕ) (rows : Rows) → Rising rows → is_present rows row ≡ false → IsAbsent row rows
is-absent row rows rise away = by (stands row rows rise)
  where
    by : Stands row rows → IsAbsent row rows
    by (absent under over) = record { under = under; over = over }
    by (there values behind under at over) =
        absurd (false≢true (sym away ∙ ap is_some (found-at row rows values behind under at)))

-- ---- what is changed at its place

pub with_row-insert : (row : ℕ) (values : List Value) (rows : Rows) → Rising rows → is_present rows row ≡ false
    → with_row rows row values ≡ insert rows (place_in rows row) (row, values)
with_row-insert row values rows rise away =
    let is = is-absent row rows rise away in
    ap (λ rows. with_row rows row values) (sym (parted rows row))
    ∙ with_row-front row values (front_of rows row) (back_of rows row) is.under
    ∙ ap (λ back. front_of rows row ++ back) (with_row-over row values (back_of rows row) is.over)

-- behind a row
behind-is : (row : ℕ) (rows : Rows) (one : ℕ × List Value) (behind : Rows) → back_of rows row ≡ one ∷ behind
    → drop (suc (place_in rows row)) rows ≡ behind
behind-is row rows one behind at =
    let next : suc (place_in rows row) ≡ place_in rows row + 1 = omega arith in
    ap (λ n. drop n rows) next ∙ sym (drop-drop 1 (place_in rows row) rows) ∙ ap (drop 1) at

pub without_row-remove : (row : ℕ) (rows : Rows) → Rising rows → is_present rows row ≡ true
    → without_row rows row ≡ remove rows (place_in rows row)
without_row-remove row rows rise here =
    let is = is-there row rows rise here in
    let left : without_row (back_of rows row) row ≡ is.behind =
    ap (λ rows. without_row rows row) is.at ∙ grind (arith, nat_tests, without_row-over row is.behind is.over) in
    ap (λ rows. without_row rows row) (sym (parted rows row))
    ∙ without_row-append row (front_of rows row) (back_of rows row)
    ∙ rw (without_row-under row (front_of rows row) is.under, left, behind-is row rows (row, is.values) is.behind is.at) refl

within-there : (row : ℕ) (rows : Rows) → IsThere row rows → place_in rows row < length rows
within-there row rows is =
    let n = ap length is.at in
    let m = length-drop (place_in rows row) rows in
    omega (arith, n, m)

pub set-place : (row : ℕ) (values : List Value) (rows : Rows) → Rising rows → is_present rows row ≡ true
    → set_value (is_at (nat_cmp row)) rows values ≡ slice_set rows (place_in rows row) (row, values)
set-place row values rows rise here =
    let is = is-there row rows rise here in
    let made : set_value (is_at (nat_cmp row)) (back_of rows row) values ≡ (row, values) ∷ is.behind =
    ap (λ rows. set_value (is_at (nat_cmp row)) rows values) is.at ∙ grind (arith, nat_tests) in
    ap (λ rows. set_value (is_at (nat_cmp row)) rows values) (sym (parted rows row))
    ∙ set-front row values (front_of rows row) (back_of rows row) is.under
    ∙ rw (
      made,
      set_split rows (place_in rows row) (row, values) (within-there row rows is),
      behind-is row rows (row, is.values) is.behind is.at,
    ) refl

pub there-within : (row : ℕ) (rows : Rows) → Rising rows → is_present rows row ≡ true → place_in rows row < length rows
there-within row rows rise here = within-there row rows (is-there row rows rise here)

pub there-at : (row : ℕ) (rows : Rows) (values : List Value) → Rising rows → row_at rows row ≡ Some values
    → slice_get rows (place_in rows row) ≡ Some (row, values)
there-at row rows values rise found =
    let is = is-there row rows rise (ap is_some found) in
    let same : is.values ≡ values = same_Some is.values values (sym is.found ∙ found) in
    at_drop rows (place_in rows row) (row, values) is.behind (is.at ∙ ap (λ values. (row, values) ∷ is.behind) same)
  where
    at_drop : (rows : Rows) (i : ℕ) (one : ℕ × List Value) (behind : Rows) → drop i rows ≡ one ∷ behind → slice_get rows i ≡ Some one
    at_drop [] zero one behind e = cc
    at_drop [] (suc i) one behind e = cc
    at_drop (row ∷ rows) zero one behind e = cc
    at_drop (row ∷ rows) (suc i) one behind e = at_drop rows i one behind e

-- a row stands at a place: it is there
pub there-from : (row : ℕ) (rows : Rows) (i : ℕ) (values : List Value) → Rising rows → slice_get rows i ≡ Some (row, values)
    → row_at rows row ≡ Some values
there-from row [] i values rise at = cc
there-from row (one ∷ rows) zero values rise at =
    let same : one ≡ (row, values) = same_Some one (row, values) at in
    rw same (grind (arith, nat_tests))
there-from row (one ∷ rows) (suc i) values rise at =
    let over = over-at one.0 rows i rise.0 at in
    let rest = there-from row rows i values rise.1 at in
    grind (arith, nat_tests, over, rest)
  where
    over-at : (low : ℕ) (rows : Rows) (i : ℕ) → AllOver low rows → slice_get rows i ≡ Some (row, values) → low < row
    over-at low [] i h e = cc
    over-at low (one ∷ rows) zero h e =
        let same : one.0 ≡ row = ap (λ (one : ℕ × List Value). one.0) (same_Some one (row, values) e) in
        let lt = h.0 in
        omega (arith, same, lt)
    over-at low (one ∷ rows) (suc i) h e = over-at low rows i h.1 e

-- ---- they still rise

before-row : (row : ℕ) (values : List Value) (front back : Rows) → AllUnder row front → AllOver row back
    → AllBefore front ((row, values) ∷ back)
before-row row values [] back u o = tt
before-row row values (one ∷ front) back u o =
    ((u.0, over-lower one.0 row back (let lt = u.0 in omega arith) o), before-row row values front back u.1 o)

pub rising-with_row : (row : ℕ) (values : List Value) (rows : Rows) → Rising rows → is_present rows row ≡ false
    → Rising (with_row rows row values)
rising-with_row row values rows rise away =
    let is = is-absent row rows rise away in
    let parts = rising-parts (front_of rows row) (back_of rows row) (subst Rising (sym (parted rows row)) rise) in
    subst Rising (sym (with_row-insert row values rows rise away))
    (rising-join (front_of rows row) ((row, values) ∷ back_of rows row) parts.0 (is.over, parts.1)
    (before-row row values (front_of rows row) (back_of rows row) is.under is.over))

over-without : (low row : ℕ) (rows : Rows) → AllOver low rows → AllOver low (without_row rows row)
over-without low row [] h = tt
over-without low row (one ∷ rows) h = by (one.0 == row) (over-without low row rows h.1)
  where
    by : (same : Bool) → AllOver low (without_row rows row)
        → AllOver low (cond (not same) (one ∷ without_row rows row) (without_row rows row))
    by true rest = rest
    by false rest = (h.0, rest)

pub rising-without_row : (row : ℕ) (rows : Rows) → Rising rows → Rising (without_row rows row)
rising-without_row row [] rise = tt
rising-without_row row (one ∷ rows) rise = by (one.0 == row) (rising-without_row row rows rise.1)
  where
    by : (same : Bool) → Rising (without_row rows row) → Rising (cond (not same) (one ∷ without_row rows row) (without_row rows row))
    by true rest = rest
    by false rest = (over-without one.0 row rows rise.0, rest)

over-keys : (low : ℕ) (rows others : Rows) → keys_of others ≡ keys_of rows → AllOver low rows → AllOver low others
over-keys low [] [] e h = tt
over-keys low [] (other ∷ others) e h = cc
over-keys low (row ∷ rows) [] e h = cc
over-keys low (row ∷ rows) (other ∷ others) e h =
    let same : other.0 ≡ row.0 = cc in
    let rest : keys_of others ≡ keys_of rows = cc in
    (rw same h.0, over-keys low rows others rest h.1)

pub rising-keys : (rows others : Rows) → keys_of others ≡ keys_of rows → Rising rows → Rising others
rising-keys [] [] e h = tt
rising-keys [] (other ∷ others) e h = cc
rising-keys (row ∷ rows) [] e h = cc
rising-keys (row ∷ rows) (other ∷ others) e h =
    let same : other.0 ≡ row.0 = cc in
    let rest : keys_of others ≡ keys_of rows = cc in
    (rw same (over-keys row.0 rows others rest h.0), rising-keys rows others rest h.1)

pub rising-set : (row : ℕ) (values : List Value) (rows : Rows) → Rising rows → Rising (set_value (is_at (nat_cmp row)) rows values)
rising-set row values rows rise =
    rising-keys rows (set_value (is_at (nat_cmp row)) rows values) (keys-set_value (is_at (nat_cmp row)) rows values) rise

pub sorted-keys : (rows : Rows) → Rising rows → IsStrictlySortedBy nat_cmp (keys_of rows)
unfolding IsStrictlySortedBy
sorted-keys [] h = tt
sorted-keys (row ∷ rows) h = (all-less row.0 rows h.0, sorted-keys rows h.1)
  where
    all-less : (low : ℕ) (rows : Rows) → AllOver low rows → AllByRecursion (λ id. nat_cmp low id ≡ Less) (keys_of rows)
    all-less low [] h = tt
    all-less low (row ∷ rows) h = (let lt = h.0 in grind (arith, nat_tests, lt), all-less low rows h.1)

-- the place that a halving finds
pub place-partition : (row : ℕ) (ids : List ℕ) (i : ℕ) → i ≤ length ids
    → IsPartitionPoint (λ id. nat_lt id row ≡ true) (λ id. nat_lt id row ≡ false) ids i → i ≡ prefix_len (λ id. nat_lt id row) ids
place-partition row ids i h e =
    sym (prefix_len_is (λ id. nat_lt id row) ids i 0 h (λ k lt. e.0 k 0 (omega arith) lt) (λ lt. e.1 i 0 (omega arith) lt))

-- ---- whether a row is there, told at its place

key-at : (rows : Rows) (i : ℕ) (one : ℕ × List Value) (behind : Rows) (d : ℕ) → drop i rows ≡ one ∷ behind
    → get_or (keys_of rows) i d ≡ one.0
key-at [] zero one behind d e = cc
key-at [] (suc i) one behind d e = cc
key-at (row ∷ rows) zero one behind d e = cc
key-at (row ∷ rows) (suc i) one behind d e = key-at rows i one behind d e

pub present-at : (row : ℕ) (rows : Rows) (id d : ℕ) → Rising rows → place_in rows row < length rows
    → id ≡ get_or (keys_of rows) (place_in rows row) d → nat_eq id row ≡ is_present rows row
present-at row rows id d rise within at = by (stands row rows rise)
  where
    over-head : (back : Rows) → AllOver row back → drop (place_in rows row) rows ≡ back → row < id
    over-head [] over e = absurd (omega (arith, ap length e, length-drop (place_in rows row) rows))
    over-head (one ∷ back) over e =
        let same = key-at rows (place_in rows row) one back d e in
        let lt = over.0 in
        omega (arith, same, lt, at)

    by : Stands row rows → nat_eq id row ≡ is_present rows row
    by (absent under over) =
        let lt = over-head (back_of rows row) over refl in
        let none : is_present rows row ≡ false = ap is_some (found-none row rows under over) in
        rw none (grind (arith, nat_tests, lt))
    by (there values behind under e over) =
        let same : id ≡ row = at ∙ key-at rows (place_in rows row) (row, values) behind d e in
        let here : is_present rows row ≡ true = ap is_some (found-at row rows values behind under e) in
        rw here (grind (arith, nat_tests, same))

pub absent-past : (row : ℕ) (rows : Rows) → Rising rows → length rows ≤ place_in rows row → is_present rows row ≡ false
absent-past row rows rise past = by (is_present rows row) refl
  where
    by : (here : Bool) → is_present rows row ≡ here → is_present rows row ≡ false
    by false e = e
    by true e = absurd (let lt = there-within row rows rise e in omega (arith, lt, past))

-- the same values in the place of a row's
pub set-same : (row : ℕ) (values : List Value) (rows : Rows) → row_at rows row ≡ Some values
    → set_value (is_at (nat_cmp row)) rows values ≡ rows
set-same row values [] e = refl
set-same row values (one ∷ rows) e = grind (arith, nat_tests, e, set-same row values rows)
