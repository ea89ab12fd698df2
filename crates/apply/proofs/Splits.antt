-- An entry that each partition takes as its own all partitions take together; and so lists of them, split by partition.
use Rattle.std.proofs.Common.{◌≡◌, ◌≢◌, ℕ, suc, zero, ◌+◌, ◌%◌, ◌<◌, Bool, true, false, cond, not, ◌==◌, ◌&&◌, List, [], ◌∷◌, ◌++◌, length}
use Rattle.std.proofs.Common.{get_or, Option, None, Result, Ok, Err, refl, sym, ap, subst, ◌∙◌, arith}
use Rattle.std.specs.Option.{is_some}
use Rattle.std.specs.Result.{is_ok, IsErr, result_unwrap_or}
use Rattle.std.proofs.lemmas.Bool.{false≢true, eqb-true, eq-eqb, ne_eqb}
use Rattle.std.proofs.lemmas.Bool.Decides.{nat_tests}
use Rattle.std.proofs.lemmas.List.{length-map, same_lists}
use Rattle.rows.specs.declared.commit.Commit.{Commit}
use Rattle.rows.specs.declared.entry.Entry.{Entry}
use Rattle.rows.specs.declared.entry.Entry.TheVariants.{Insert, Patch, Delete, AddColumn}
use Rattle.rows.specs.declared.value.Value.{Value}
use Rattle.rows.specs.Commits.{apply_commits}
use Rattle.rows.specs.Entries.{fitting, shape_after_one}
use Rattle.rows.specs.RowAfter.{inserted_row, row_after_one, row_after_entry}
use Rattle.rows.specs.Shape.{Shape, kinds_in}
use Rattle.rows.specs.Tables.{Table, Tables, Refusal, shape_in, rows_of, row_at, is_fit, stands, refusal_of, made, change_where}
use Rattle.rows.specs.Tables.{apply_entry}
use Rattle.rows.specs.Tables.{apply_entries, and_then}
use Rattle.store.specs.Changes.{fault_kind}
use Rattle.apply.specs.Orders.{Rising}
use Rattle.apply.specs.Partitions.{tables_in}
use Rattle.apply.specs.Inner.EntryLaws.{AreEntryLaws}
use Rattle.apply.specs.Inner.Gathered.{ArePartitions, is_in, entries_in, entries_of}
use Rattle.apply.proofs.Changed.{apply_entry-made, row_in, Rises, rises-change}
use Rattle.apply.proofs.Gathered.{AreFrom, row_at-tables, rising-tables, shape-both, same-tables}

-- ---- partitions

tables-many : (these others : Tables) → shape_in these ≡ shape_in others → length these ≡ length others
tables-many these others same =
    sym (length-map these (λ (table : Table). table.kinds)) ∙ ap length same ∙ length-map others (λ (table : Table). table.kinds)

pub from-partitions : (partitions : List Tables) → ArePartitions partitions
    → AreFrom (λ row. row % length partitions) 0 (length (tables_in partitions)) partitions
from-partitions partitions are = record {
  alike = λ k d lt. tables-many (get_or partitions k d) (tables_in partitions) (are.alike k d lt);
  rise = λ k t d lt. are.rise k t d lt;
  home = λ k t row d lt other. are.home k t row d lt (λ e. other (omega (arith, e)));
}

pub partitions-rise : (partitions : List Tables) → ArePartitions partitions → Rises (tables_in partitions)
partitions-rise partitions are t =
    rising-tables (λ row. row % length partitions) (length (tables_in partitions)) 0 partitions t (from-partitions partitions are)

-- a row is that of its own partition
pub partitions-row : (partitions : List Tables) (t row k : ℕ) (d : Tables) → ArePartitions partitions → row % length partitions ≡ k
    → k < length partitions → row_at (rows_of (tables_in partitions) t) row ≡ row_at (rows_of (get_or partitions k d) t) row
partitions-row partitions t row k d are of lt =
    row_at-tables (λ row. row % length partitions) (length (tables_in partitions)) 0 partitions t row k d (from-partitions partitions are)
    (omega (arith, of)) lt

shape-first : (partitions : List Tables) (d : Tables) → 0 < length partitions
    → shape_in (tables_in partitions) ≡ shape_in (get_or partitions 0 d)
shape-first [] d some = absurd (omega arith)
shape-first (partition ∷ partitions) d some = shape-both partition (tables_in partitions)

-- ---- whose an entry is

-- some partition takes it
pub taken : (n : ℕ) (entry : Entry) → 0 < n → (k : ℕ) × (k < n) × (is_in n k entry ≡ true)
taken n (Insert table row bytes) some = (row.0 % n, omega (arith, some), eq-eqb (row.0 % n) (row.0 % n) refl)
taken n (Patch table row offset bytes) some = (row.0 % n, omega (arith, some), eq-eqb (row.0 % n) (row.0 % n) refl)
taken n (Delete table row) some = (row.0 % n, omega (arith, some), eq-eqb (row.0 % n) (row.0 % n) refl)
taken n (AddColumn table default) some = (0, some, refl)

-- one that a partition does not take leaves the kinds
kinds-stay : (n k : ℕ) (entry : Entry) (shape : Shape) → is_in n k entry ≡ false → shape_after_one shape entry ≡ shape
kinds-stay n k (Insert table row bytes) shape away = refl
kinds-stay n k (Patch table row offset bytes) shape away = refl
kinds-stay n k (Delete table row) shape away = refl
kinds-stay n k (AddColumn table default) shape away = absurd (false≢true (sym away))

-- rows of two partitions are two
two-rows : (n at row : ℕ) (here : Bool) → (at % n == row % n) ≡ false → (here && (at == row)) ≡ false
two-rows n at row here other = by (at == row) refl
  where
    by : (same : Bool) → (at == row) ≡ same → (here && (at == row)) ≡ false
    by true e = absurd (false≢true (sym other ∙ eq-eqb (at % n) (row % n) (ap (λ r. r % n) (eqb-true at row e))))
    by false e = grind (arith, nat_tests, e)

-- and the rows of the partition
rows-stay : (n : ℕ) (entry : Entry) (shape : Shape) (t row : ℕ) (was : Option (List Value)) → is_in n (row % n) entry ≡ false
    → row_after_entry shape t row entry was ≡ was
rows-stay n (Insert table at bytes) shape t row was away =
    ap (λ here. cond here (row_after_one (kinds_in shape t) (Insert table at bytes) was) was) (two-rows n at.0 row (table == t) away)
rows-stay n (Patch table at offset bytes) shape t row was away =
    ap (λ here. cond here (row_after_one (kinds_in shape t) (Patch table at offset bytes) was) was) (two-rows n at.0 row (table == t) away)
rows-stay n (Delete table at) shape t row was away =
    ap (λ here. cond here (row_after_one (kinds_in shape t) (Delete table at) was) was) (two-rows n at.0 row (table == t) away)
rows-stay n (AddColumn table default) shape t row was away = absurd (false≢true (sym away))

abbrev nothing : Option (List Value)
nothing = None

none-either : (b : Bool) → cond b nothing nothing ≡ nothing
none-either true = refl
none-either false = refl

-- no row of another partition comes by it
none-comes : (n k : ℕ) (entry : Entry) (shape : Shape) (t row : ℕ) → is_in n k entry ≡ true → row % n ≢ k
    → row_after_entry shape t row entry None ≡ None
none-comes n k (Insert table at bytes) shape t row own other =
    ap (λ here. cond here (inserted_row (kinds_in shape t) bytes None) None)
    (two-rows n at.0 row (table == t) (ne_eqb (at.0 % n) (row % n) (λ e. other (sym e ∙ eqb-true (at.0 % n) k own))))
none-comes n k (Patch table at offset bytes) shape t row own other = none-either ((table == t) && (at.0 == row))
none-comes n k (Delete table at) shape t row own other = none-either ((table == t) && (at.0 == row))
none-comes n k (AddColumn table default) shape t row own other = none-either (table == t)

-- ---- one entry, before it is taken

module _ (n : ℕ) (olds : List Tables) (is : n ≡ length olds) (are : ArePartitions olds) where
  own-row : (t row k : ℕ) (d : Tables) → row % n ≡ k → k < length olds → row_in (tables_in olds) t row ≡ row_in (get_or olds k d) t row
  own-row t row k d of lt = partitions-row olds t row k d are (ap (λ n. row % n) (sym is) ∙ of) lt

  pub same-fit : (entry : Entry) (k : ℕ) (d : Tables) → k < length olds → is_fit (get_or olds k d) entry ≡ is_fit (tables_in olds) entry
  same-fit entry k d lt = ap (λ shape. is_ok (fitting shape entry)) (are.alike k d lt)

  -- what an entry needs, a partition that takes it finds as all do
  same-stands : (entry : Entry) (k : ℕ) (d : Tables) → k < length olds → is_in n k entry ≡ true
      → stands (get_or olds k d) entry ≡ stands (tables_in olds) entry
  same-stands (Insert table row bytes) k d lt own =
      ap (λ found. not (is_some found)) (sym (own-row table row.0 k d (eqb-true (row.0 % n) k own) lt))
  same-stands (Patch table row offset bytes) k d lt own = ap is_some (sym (own-row table row.0 k d (eqb-true (row.0 % n) k own) lt))
  same-stands (Delete table row) k d lt own = ap is_some (sym (own-row table row.0 k d (eqb-true (row.0 % n) k own) lt))
  same-stands (AddColumn table default) k d lt own = refl

  -- so it refuses the entry as all do
  module _ (entry : Entry) (k : ℕ) (d : Tables) (lt : k < length olds) (own : is_in n k entry ≡ true) where
    alike : {A : Type 0} (told : Result Tables Refusal → A) → ((one all : Tables) → told (Ok one) ≡ told (Ok all))
        → told (apply_entry (get_or olds k d) entry) ≡ told (apply_entry (tables_in olds) entry)
    alike told same =
        let one = get_or olds k d in
        let all = tables_in olds in
        ap (λ fits. told (change_where fits (stands one entry) (refusal_of entry) (made one entry))) (same-fit entry k d lt)
        ∙ ap (λ right. told (change_where (is_fit all entry) right (refusal_of entry) (made one entry))) (same-stands entry k d lt own)
        ∙ by (is_fit all entry) (stands all entry)
      where
        by : (fits right : Bool) → told (change_where fits right (refusal_of entry) (made (get_or olds k d) entry))
            ≡ told (change_where fits right (refusal_of entry) (made (tables_in olds) entry))
        by true true = same (made (get_or olds k d) entry) (made (tables_in olds) entry)
        by true false = refl
        by false right = refl

    pub refused-alike : fault_kind true (apply_entry (get_or olds k d) entry) ≡ fault_kind true (apply_entry (tables_in olds) entry)
    refused-alike = alike (fault_kind true) (λ one all. refl)

    pub ok-alike : is_ok (apply_entry (get_or olds k d) entry) ≡ is_ok (apply_entry (tables_in olds) entry)
    ok-alike = alike is_ok (λ one all. refl)

-- ---- one entry, which each partition that takes it has made

module _ (laws : AreEntryLaws) (n : ℕ) (some : 0 < n) (entry : Entry) (olds news : List Tables) (is : n ≡ length olds)
    (many : length news ≡ length olds) (are : ArePartitions olds)
    (own : (k : ℕ) (d : Tables) → k < length olds → is_in n k entry ≡ true → apply_entry (get_or olds k d) entry ≡ Ok (get_or news k d))
    (kept : (k : ℕ) (d : Tables) → k < length olds → is_in n k entry ≡ false → get_or news k d ≡ get_or olds k d) where
  abbrev before : Shape
  before = shape_in (tables_in olds)

  new-shape : (k : ℕ) (d : Tables) → k < length olds → shape_in (get_or news k d) ≡ shape_after_one before entry
  new-shape k d lt = by (is_in n k entry) refl
    where
      by : (mine : Bool) → is_in n k entry ≡ mine → shape_in (get_or news k d) ≡ shape_after_one before entry
      by true e =
          laws.kinds (get_or olds k d) (get_or news k d) entry (own k d lt e)
          ∙ ap (λ shape. shape_after_one shape entry) (are.alike k d lt)
      by false e = ap shape_in (kept k d lt e) ∙ are.alike k d lt ∙ sym (kinds-stay n k entry before e)

  all-shape : shape_in (tables_in news) ≡ shape_after_one before entry
  all-shape = shape-first news [] (omega (arith, many, is, some)) ∙ new-shape 0 [] (omega (arith, is, some))

  new-rise : (k t : ℕ) (d : Tables) → k < length olds → Rising (rows_of (get_or news k d) t)
  new-rise k t d lt = by (is_in n k entry) refl
    where
      by : (mine : Bool) → is_in n k entry ≡ mine → Rising (rows_of (get_or news k d) t)
      by true e = rises-change laws (get_or olds k d) (get_or news k d) entry (λ t. are.rise k t d lt) (own k d lt e) t
      by false e = subst (λ tables. Rising (rows_of tables t)) (sym (kept k d lt e)) (are.rise k t d lt)

  new-home : (k t row : ℕ) (d : Tables) → k < length olds → row % n ≢ k → row_in (get_or news k d) t row ≡ None
  new-home k t row d lt other = by (is_in n k entry) refl
    where
      none : row_in (get_or olds k d) t row ≡ None
      none = are.home k t row d lt (λ e. other (ap (λ n. row % n) is ∙ e))

      by : (mine : Bool) → is_in n k entry ≡ mine → row_in (get_or news k d) t row ≡ None
      by true e =
          laws.rows (get_or olds k d) (get_or news k d) entry t row (own k d lt e)
          ∙ ap (row_after_entry (shape_in (get_or olds k d)) t row entry) none
          ∙ none-comes n k entry (shape_in (get_or olds k d)) t row e other
      by false e = ap (λ tables. row_in tables t row) (kept k d lt e) ∙ none

  pub new-partitions : ArePartitions news
  new-partitions = record {
    alike = λ k d lt. new-shape k d (omega (arith, lt, many)) ∙ sym all-shape;
    rise = λ k t d lt. new-rise k t d (omega (arith, lt, many));
    home = λ k t row d lt other.
        new-home k t row d (omega (arith, lt, many)) (λ e. other (ap (λ n. row % n) (many ∙ sym is) ∙ e));
  }

  new-row : (t row : ℕ) → row_in (tables_in news) t row ≡ row_after_entry before t row entry (row_in (tables_in olds) t row)
  new-row t row =
      partitions-row news t row (row % n) [] new-partitions (ap (λ n. row % n) (many ∙ sym is)) (omega (arith, lt, many))
      ∙ by (is_in n (row % n) entry) refl
    where
      lt : row % n < length olds
      lt = omega (arith, is, some)

      here : row_in (get_or olds (row % n) []) t row ≡ row_in (tables_in olds) t row
      here = sym (own-row n olds is are t row (row % n) [] refl lt)

      by : (mine : Bool) → is_in n (row % n) entry ≡ mine
          → row_in (get_or news (row % n) []) t row ≡ row_after_entry before t row entry (row_in (tables_in olds) t row)
      by true e =
          laws.rows (get_or olds (row % n) []) (get_or news (row % n) []) entry t row (own (row % n) [] lt e)
          ∙ ap (λ shape. row_after_entry shape t row entry (row_in (get_or olds (row % n) []) t row)) (are.alike (row % n) [] lt)
          ∙ ap (row_after_entry before t row entry) here
      by false e =
          ap (λ tables. row_in tables t row) (kept (row % n) [] lt e) ∙ here
          ∙ sym (rows-stay n entry before t row (row_in (tables_in olds) t row) e)

  -- all have made it
  pub all-changes : apply_entry (tables_in olds) entry ≡ Ok (tables_in news)
  all-changes =
      let one = taken n entry some in
      let lt : one.0 < length olds = omega (arith, one.1, is) in
      let needs = laws.made (get_or olds one.0 []) (get_or news one.0 []) entry (own one.0 [] lt one.2) in
      let after = made (tables_in olds) entry in
      let whole : apply_entry (tables_in olds) entry ≡ Ok after =
      apply_entry-made (tables_in olds) entry (sym (same-fit n olds is are entry one.0 [] lt) ∙ needs.0)
      (sym (same-stands n olds is are entry one.0 [] lt one.2) ∙ needs.1) in
      whole ∙ sym (ap Ok (same-tables (tables_in news) after
      (all-shape ∙ sym (laws.kinds (tables_in olds) after entry whole))
      (partitions-rise news new-partitions)
      (rises-change laws (tables_in olds) after entry (partitions-rise olds are) whole)
      (λ t row. new-row t row ∙ sym (laws.rows (tables_in olds) after entry t row whole))))

  -- and of the entries behind it each makes what it makes of the whole list
  pub left-over : (k : ℕ) (d : Tables) (entries : List Entry) → k < length olds
      → apply_entries (get_or olds k d) (entries_in n k (entry ∷ entries)) ≡ apply_entries (get_or news k d) (entries_in n k entries)
  left-over k d entries lt = by (is_in n k entry) refl
    where
      by : (mine : Bool) → is_in n k entry ≡ mine
          → apply_entries (get_or olds k d) (entries_in n k (entry ∷ entries)) ≡ apply_entries (get_or news k d) (entries_in n k entries)
      by true e =
          ap (λ mine. apply_entries (get_or olds k d) (cond mine (entry ∷ entries_in n k entries) (entries_in n k entries))) e
          ∙ ap (and_then (λ after. apply_entries after (entries_in n k entries))) (own k d lt e)
      by false e =
          ap (λ mine. apply_entries (get_or olds k d) (cond mine (entry ∷ entries_in n k entries) (entries_in n k entries))) e
          ∙ ap (λ tables. apply_entries tables (entries_in n k entries)) (sym (kept k d lt e))

-- ---- what partitions are after an entry

-- the tables of one, which takes the entry if that is its own
abbrev after_one : ℕ → ℕ → Entry → Tables → Tables
after_one n k entry tables = cond (is_in n k entry) (result_unwrap_or (apply_entry tables entry) tables) tables

-- those of the partitions from a number on
after_each : ℕ → ℕ → Entry → List Tables → List Tables
after_each n k entry [] = []
after_each n k entry (tables ∷ partitions) = after_one n k entry tables ∷ after_each n (suc k) entry partitions

after_each-many : (n k : ℕ) (entry : Entry) (partitions : List Tables) → length (after_each n k entry partitions) ≡ length partitions
unfolding after_each
after_each-many n k entry [] = refl
after_each-many n k entry (tables ∷ partitions) = ap suc (after_each-many n (suc k) entry partitions)

after_each-at : (n base k j : ℕ) (entry : Entry) (partitions : List Tables) (d : Tables) → j ≡ base + k → k < length partitions
    → get_or (after_each n base entry partitions) k d ≡ after_one n j entry (get_or partitions k d)
unfolding after_each
after_each-at n base k j entry [] d e lt = absurd (omega arith)
after_each-at n base zero j entry (tables ∷ partitions) d e lt =
    let same : base ≡ j = omega (arith, e) in ap (λ k. after_one n k entry tables) same
after_each-at n base (suc k) j entry (tables ∷ partitions) d e lt =
    after_each-at n (suc base) k j entry partitions d (omega (arith, e)) (omega arith)

is-ok : (change : Result Tables Refusal) → is_ok change ≡ true → (after : Tables) × (change ≡ Ok after)
is-ok (Ok after) h = (after, refl)
is-ok (Err refusal) h = absurd (false≢true h)

module _ (n : ℕ) (entry : Entry) (olds : List Tables) (is : n ≡ length olds) (are : ArePartitions olds)
    (good : is_ok (apply_entry (tables_in olds) entry) ≡ true) where
  each-takes : (k : ℕ) (d : Tables) → k < length olds → is_in n k entry ≡ true
      → apply_entry (get_or olds k d) entry ≡ Ok (get_or (after_each n 0 entry olds) k d)
  each-takes k d lt own =
      let one = is-ok (apply_entry (get_or olds k d) entry) (ok-alike n olds is are entry k d lt own ∙ good) in
      let here : get_or (after_each n 0 entry olds) k d ≡ one.0 =
      after_each-at n 0 k k entry olds d (omega arith) lt
      ∙ ap (λ mine. cond mine (result_unwrap_or (apply_entry (get_or olds k d) entry) (get_or olds k d)) (get_or olds k d)) own
      ∙ ap (λ change. result_unwrap_or change (get_or olds k d)) one.1 in
      one.1 ∙ sym (ap Ok here)

  each-keeps : (k : ℕ) (d : Tables) → k < length olds → is_in n k entry ≡ false → get_or (after_each n 0 entry olds) k d ≡ get_or olds k d
  each-keeps k d lt away =
      after_each-at n 0 k k entry olds d (omega arith) lt
      ∙ ap (λ mine. cond mine (result_unwrap_or (apply_entry (get_or olds k d) entry) (get_or olds k d)) (get_or olds k d)) away

-- ---- lists of entries

pub and_then-parts : (next : Tables → Result Tables Refusal) (first : Result Tables Refusal) (after : Tables)
    → and_then next first ≡ Ok after → (between : Tables) × (first ≡ Ok between) × (next between ≡ Ok after)
and_then-parts next (Ok between) after h = (between, refl, h)
and_then-parts next (Err refusal) after h = cc

abbrev pub ok-of : Tables → Result Tables Refusal
ok-of tables = Ok tables

pub same-ok : (these others : Tables) → ok-of these ≡ ok-of others → these ≡ others
same-ok these others e = cc

-- the entries of each partition make of its tables what all make of all
pub partitions-fold : AreEntryLaws → (entries : List Entry) (partitions news : List Tables) (n : ℕ) → n ≡ length partitions → 0 < n
    → length news ≡ length partitions → ArePartitions partitions
    → ((k : ℕ) (d e : Tables) → k < length partitions
    → apply_entries (get_or partitions k d) (entries_in n k entries) ≡ Ok (get_or news k e))
    → (apply_entries (tables_in partitions) entries ≡ Ok (tables_in news)) × ArePartitions news
partitions-fold laws [] partitions news n is some many are each =
    let same = same_lists partitions news (sym many) (λ k d lt. same-ok (get_or partitions k d) (get_or news k d) (each k d d lt)) in
    (ap (λ partitions. Ok (tables_in partitions)) same, subst ArePartitions same are)
partitions-fold laws (entry ∷ entries) partitions news n is some many are each =
    let size = after_each-many n 0 entry partitions in
    let takes = each-takes n entry partitions is are good in
    let keeps = each-keeps n entry partitions is are good in
    let rest = partitions-fold laws entries (after_each n 0 entry partitions) news n (is ∙ sym size) some (many ∙ sym size)
    (new-partitions laws n some entry partitions (after_each n 0 entry partitions) is size are takes keeps)
    (λ k d e lt. sym (left-over laws n some entry partitions (after_each n 0 entry partitions) is size are takes keeps k d entries
    (omega (arith, lt, size)))
    ∙ each k d e (omega (arith, lt, size))) in (
      ap (and_then (λ after. apply_entries after entries))
          (all-changes laws n some entry partitions (after_each n 0 entry partitions) is size are takes keeps)
          ∙ rest.0,
      rest.1,
    )
  where
    -- a partition that takes the entry has made it, and so may all
    good : is_ok (apply_entry (tables_in partitions) entry) ≡ true
    good =
        let one = taken n entry some in
        let lt : one.0 < length partitions = omega (arith, one.1, is) in
        let own =
        ap (λ mine. apply_entries (get_or partitions one.0 [])
        (cond mine (entry ∷ entries_in n one.0 entries) (entries_in n one.0 entries)))
        (sym one.2) ∙ each one.0 [] [] lt in
        let cut =
        and_then-parts (λ after. apply_entries after (entries_in n one.0 entries)) (apply_entry (get_or partitions one.0 []) entry)
        (get_or news one.0 []) own in
        sym (ok-alike n partitions is are entry one.0 [] lt one.2) ∙ ap is_ok cut.1

err-then : (next : Tables → Result Tables Refusal) (change : Result Tables Refusal) → is_ok change ≡ false → IsErr (and_then next change)
err-then next (Ok after) h = absurd (false≢true (sym h))
err-then next (Err refusal) h = refl

-- where those of one partition are refused, all are
pub refused-fold : AreEntryLaws → (entries : List Entry) (partitions : List Tables) (n k : ℕ) (d : Tables) → n ≡ length partitions → 0 < n
    → ArePartitions partitions → k < length partitions → IsErr (apply_entries (get_or partitions k d) (entries_in n k entries))
    → IsErr (apply_entries (tables_in partitions) entries)
refused-fold laws [] partitions n k d is some are lt err = absurd (false≢true err)
refused-fold laws (entry ∷ entries) partitions n k d is some are lt err =
    by (λ news same are lt err. refused-fold laws entries news n k d same some are lt err)
    (is_ok (apply_entry (tables_in partitions) entry)) refl
  where
    by : ((news : List Tables) → n ≡ length news → ArePartitions news → k < length news
        → IsErr (apply_entries (get_or news k d) (entries_in n k entries)) → IsErr (apply_entries (tables_in news) entries))
        → (good : Bool) → is_ok (apply_entry (tables_in partitions) entry) ≡ good
        → IsErr (apply_entries (tables_in partitions) (entry ∷ entries))
    by rest false e = err-then (λ after. apply_entries after entries) (apply_entry (tables_in partitions) entry) e
    by rest true e =
        let news = after_each n 0 entry partitions in
        let size = after_each-many n 0 entry partitions in
        let takes = each-takes n entry partitions is are e in
        let keeps = each-keeps n entry partitions is are e in
        subst (λ change. IsErr (and_then (λ after. apply_entries after entries) change))
        (sym (all-changes laws n some entry partitions news is size are takes keeps))
        (rest news (is ∙ sym size) (new-partitions laws n some entry partitions news is size are takes keeps) (omega (arith, lt, size))
        (subst IsErr (left-over laws n some entry partitions news is size are takes keeps k d entries lt) err))

-- ---- commits

pub entries-append : (tables : Tables) (front back : List Entry)
    → apply_entries tables (front ++ back) ≡ and_then (λ after. apply_entries after back) (apply_entries tables front)
entries-append tables [] back = refl
entries-append tables (entry ∷ front) back = by (λ after. entries-append after front back) (apply_entry tables entry)
  where
    by : ((after : Tables) → apply_entries after (front ++ back) ≡ and_then (λ after. apply_entries after back) (apply_entries after front))
        → (first : Result Tables Refusal) → and_then (λ after. apply_entries after (front ++ back)) first
        ≡ and_then (λ after. apply_entries after back) (and_then (λ after. apply_entries after front) first)
    by rest (Ok after) = rest after
    by rest (Err refusal) = refl

-- the commits' entries, one after the other
pub commits-entries : (tables : Tables) (commits : List Commit) → apply_commits tables commits ≡ apply_entries tables (entries_of commits)
commits-entries tables [] = refl
commits-entries tables (commit ∷ commits) =
    by (λ after. commits-entries after commits) (apply_entries tables commit.entries)
    ∙ sym (entries-append tables commit.entries (entries_of commits))
  where
    by : ((after : Tables) → apply_commits after commits ≡ apply_entries after (entries_of commits)) → (first : Result Tables Refusal)
        → and_then (λ after. apply_commits after commits) first ≡ and_then (λ after. apply_entries after (entries_of commits)) first
    by rest (Ok after) = rest after
    by rest (Err refusal) = refl
