-- The columns of the tables and the last commit of each, one commit on; and what they tell of the commits.
use Rattle.std.proofs.Common.{◌≡◌, ℕ, zero, suc, ◌+◌, ◌<◌, ◌≤◌, Bool, true, false, cond, ◌||◌, ◌==◌, List, [], ◌∷◌, ◌++◌, length, map, take}
use Rattle.std.proofs.Common.{replicate, get_or, Option}
use Rattle.std.proofs.Common.{None, Some, slice_get, refl, sym, ap, ◌∙◌, arith, append_assoc, append-nil}
use Rattle.std.specs.List.{flat_map, slice_set, list_any, AllByRecursion}
use Rattle.std.specs.Option.{option_map, unwrap_or}
use Rattle.std.proofs.lemmas.Bool.{eqb-true, ne_eqb}
use Rattle.mvcc.specs.Inner.Keys.{adds_column}
use Rattle.std.proofs.lemmas.Bool.Decides.{nat_tests}
use Rattle.std.proofs.lemmas.List.Concat.{flat_map-append}
use Rattle.std.proofs.lemmas.Option.{same_Some, slice_get_within}
use Rattle.rows.specs.Values.{kind_of, value_bytes}
use Rattle.std.proofs.lemmas.List.{map-append, take_more, take_all, length_push}
use Rattle.rows.specs.declared.commit.Commit.{Commit}
use Rattle.rows.specs.declared.entry.Entry.{Entry}
use Rattle.rows.specs.declared.entry.Entry.TheVariants.{Insert, Patch, Delete, AddColumn}
use Rattle.rows.specs.declared.kind.Kind.{Kind}
use Rattle.rows.specs.declared.value.Value.{Value}
use Rattle.rows.specs.Commits.{last_where}
use Rattle.rows.specs.Entries.{table_of}
use Rattle.rows.specs.Shape.{Shape, row_width}
use Rattle.mvcc.specs.Newest.{is_in, concerns, newest_in, adds_to, widens, newest_added}
use Rattle.mvcc.specs.Inner.Columns.{TableColumns, opened, extended, defaults_of, with_added, columns_after_one, columns_after}
use Rattle.mvcc.specs.Inner.Columns.{defaults_one, defaults_in}
use Rattle.mvcc.specs.Inner.Columns.{numbers_of, columns_of, AreColumnsOf, last_from, last_added, last_after, AreLast}
use Rattle.mvcc.proofs.Places.{slice_get-set, slice_get-past}

-- a table of the shape
get-there : (shape : Shape) (n : ℕ) (kinds : List Kind) → slice_get shape n ≡ Some kinds → kinds ≡ get_or shape n []
get-there [] n kinds h = cc
get-there (first ∷ shape) zero kinds h = sym (same_Some first kinds h)
get-there (first ∷ shape) (suc n) kinds h = get-there shape n kinds h

-- the tables of a schema as they are opened, one table on
pub opened-more : (shape : Shape) (tables after : List TableColumns) (table : TableColumns) (kinds : List Kind)
    → tables ≡ map opened (take (length tables) shape)
    → Some kinds ≡ slice_get shape (length tables) → table ≡ opened kinds → after ≡ tables ++ table ∷ []
    → after ≡ map opened (take (length after) shape)
opened-more shape tables after table kinds so_far there is pushed =
    let more : length tables < length shape = slice_get_within shape (length tables) kinds (sym there) in
    let own : kinds ≡ get_or shape (length tables) [] = get-there shape (length tables) kinds (sym there) in
    let count : length after ≡ length tables + 1 = omega (arith, ap length pushed, length_push tables table) in
    pushed
    ∙ ap (λ front. front ++ table ∷ []) so_far
    ∙ ap (λ one. map opened (take (length tables) shape) ++ one ∷ []) (is ∙ ap opened own)
    ∙ sym (map-append opened (take (length tables) shape) (get_or shape (length tables) [] ∷ []))
    ∙ ap (map opened) (sym (take_more shape (length tables) [] more))
    ∙ ap (λ n. map opened (take n shape)) (sym count)

pub opened-all : (shape : Shape) (tables : List TableColumns) → tables ≡ map opened (take (length tables) shape)
    → length shape ≤ length tables → tables ≡ map opened shape
opened-all shape tables so_far all = so_far ∙ ap (map opened) (take_all (length tables) shape all)

-- one item, so many times
pub same-more : (item : ℕ) (items after : List ℕ) → items ≡ replicate (length items) item → after ≡ items ++ item ∷ []
    → after ≡ replicate (length after) item
same-more item items after so_far pushed =
    pushed ∙ ap (λ front. front ++ item ∷ []) so_far ∙ push (length items)
    ∙ ap (λ n. replicate n item) (sym count)
  where
    count : length after ≡ suc (length items)
    count = omega (arith, ap length pushed, length_push items item)

    push : (n : ℕ) → replicate n item ++ item ∷ [] ≡ replicate (suc n) item
    push zero = refl
    push (suc n) = ap (λ rest. item ∷ rest) (push n)

-- the columns of a table that are the same in each part
same-columns : (opening : ℕ) (kinds kinds' : List Kind) (numbers numbers' blank blank' : List ℕ) → kinds ≡ kinds' → numbers ≡ numbers'
    → blank ≡ blank'
    → ◌≡◌ {A = TableColumns} (record { opening = opening; kinds = kinds; numbers = numbers; blank = blank })
    (record { opening = opening; kinds = kinds'; numbers = numbers'; blank = blank' })
same-columns opening kinds kinds' numbers numbers' blank blank' k n b = cc

-- before the first commit
pub columns-opened : (shape : Shape) → AreColumnsOf shape [] (map opened shape)
columns-opened [] table = refl
columns-opened (kinds ∷ shape) zero =
    ap Some (same-columns (length kinds) kinds (kinds ++ []) [] [] (replicate (row_width kinds) 0) (replicate (row_width kinds) 0 ++ [])
    (sym (append-nil kinds)) refl (sym (append-nil (replicate (row_width kinds) 0))))
columns-opened (kinds ∷ shape) (suc table) = columns-opened shape table ∙ alike (slice_get shape table)
  where
    alike : (found : Option (List Kind)) → option_map (columns_of table []) found ≡ option_map (columns_of (suc table) []) found
    alike None = refl
    alike (Some kinds) = refl

pub last-opened : (shape : Shape) → AreLast shape [] (replicate (length shape) 0)
last-opened [] table = refl
last-opened (kinds ∷ shape) zero = refl
last-opened (kinds ∷ shape) (suc table) = last-opened shape table ∙ alike (slice_get shape table)
  where
    alike : (found : Option (List Kind)) → option_map (λ (kinds : List Kind). newest_in table []) found
        ≡ option_map (λ (kinds : List Kind). newest_in (suc table) []) found
    alike None = refl
    alike (Some kinds) = refl

extended-none : (number : ℕ) (found : Option TableColumns) → found ≡ option_map (extended number []) found
extended-none number None = refl
extended-none number (Some columns) =
    ap Some (same-columns columns.opening columns.kinds (columns.kinds ++ []) columns.numbers (columns.numbers ++ [])
    columns.blank (columns.blank ++ []) (sym (append-nil columns.kinds)) (sym (append-nil columns.numbers))
    (sym (append-nil columns.blank)))

extended-both : (number : ℕ) (first others : List Value) (found : Option TableColumns)
    → option_map (extended number others) (option_map (extended number first) found) ≡ option_map (extended number (first ++ others)) found
extended-both number first others None = refl
extended-both number first others (Some columns) =
    ap Some (same-columns columns.opening
    ((columns.kinds ++ map kind_of first) ++ map kind_of others) (columns.kinds ++ map kind_of (first ++ others))
    ((columns.numbers ++ map (λ (default : Value). number) first) ++ map (λ (default : Value). number) others)
    (columns.numbers ++ map (λ (default : Value). number) (first ++ others))
    ((columns.blank ++ flat_map value_bytes first) ++ flat_map value_bytes others)
    (columns.blank ++ flat_map value_bytes (first ++ others))
    (append_assoc columns.kinds (map kind_of first) (map kind_of others)
    ∙ ap (λ more. columns.kinds ++ more) (sym (map-append kind_of first others)))
    (append_assoc columns.numbers (map (λ (default : Value). number) first) (map (λ (default : Value). number) others)
    ∙ ap (λ more. columns.numbers ++ more) (sym (map-append (λ (default : Value). number) first others)))
    (append_assoc columns.blank (flat_map value_bytes first) (flat_map value_bytes others)
    ∙ ap (λ more. columns.blank ++ more) (sym (flat_map-append value_bytes first others))))

-- what an entry makes of the columns of a table, and what entries make of them
added-one : (number at table : ℕ) (default : Value) (tables : List TableColumns)
    → slice_get (with_added number at default tables) table
    ≡ option_map (extended number (cond (at == table) (default ∷ []) [])) (slice_get tables table)
added-one number at table default tables = by (slice_get tables at) refl
  where
    put : (was : TableColumns) → slice_get tables at ≡ Some was → (here : Bool) → (at == table) ≡ here
        → cond here (option_map (λ (c : TableColumns). extended number (default ∷ []) was)
        (slice_get tables table)) (slice_get tables table)
        ≡ option_map (extended number (cond here (default ∷ []) [])) (slice_get tables table)
    put was e false other = extended-none number (slice_get tables table)
    put was e true same =
        let here : slice_get tables table ≡ Some was = ap (slice_get tables) (sym (eqb-true at table same)) ∙ e in
        ap (option_map (λ (c : TableColumns). extended number (default ∷ []) was)) here
        ∙ sym (ap (option_map (extended number (default ∷ []))) here)

    none : slice_get tables at ≡ None → (here : Bool) → (at == table) ≡ here
        → slice_get tables table ≡ option_map (extended number (cond here (default ∷ []) [])) (slice_get tables table)
    none e false other = extended-none number (slice_get tables table)
    none e true same =
        let here : slice_get tables table ≡ None = ap (slice_get tables) (sym (eqb-true at table same)) ∙ e in
        here ∙ sym (ap (option_map (extended number (default ∷ []))) here)

    by : (found : Option TableColumns) → slice_get tables at ≡ found
        → slice_get (with_added number at default tables) table
        ≡ option_map (extended number (cond (at == table) (default ∷ []) [])) (slice_get tables table)
    by None e = rw e (none e (at == table) refl)
    by (Some was) e = rw e (slice_get-set tables at table (extended number (default ∷ []) was) ∙ put was e (at == table) refl)

after-one : (number table : ℕ) (entry : Entry) (tables : List TableColumns)
    → slice_get (columns_after_one number entry tables) table
    ≡ option_map (extended number (defaults_one table entry)) (slice_get tables table)
after-one number table (Insert at row bytes) tables = extended-none number (slice_get tables table)
after-one number table (Patch at row offset bytes) tables = extended-none number (slice_get tables table)
after-one number table (Delete at row) tables = extended-none number (slice_get tables table)
after-one number table (AddColumn at default) tables = added-one number at table default tables

pub after-all : (number table : ℕ) (entries : List Entry) (tables : List TableColumns)
    → slice_get (columns_after number entries tables) table
    ≡ option_map (extended number (defaults_in table entries)) (slice_get tables table)
after-all number table [] tables = extended-none number (slice_get tables table)
after-all number table (entry ∷ entries) tables =
    after-all number table entries (columns_after_one number entry tables)
    ∙ ap (option_map (extended number (defaults_in table entries))) (after-one number table entry tables)
    ∙ extended-both number (defaults_one table entry) (defaults_in table entries) (slice_get tables table)

-- one more entry at the end
pub columns_after-push : (number : ℕ) (entries : List Entry) (entry : Entry) (tables : List TableColumns)
    → columns_after number (entries ++ entry ∷ []) tables ≡ columns_after_one number entry (columns_after number entries tables)
columns_after-push number [] entry tables = refl
columns_after-push number (first ∷ entries) entry tables = columns_after-push number entries entry (columns_after_one number first tables)

-- entries of rows add none
pub columns-stay : (number : ℕ) (entries : List Entry) (tables : List TableColumns) → list_any adds_column entries ≡ false
    → columns_after number entries tables ≡ tables
columns-stay number [] tables h = refl
columns-stay number (Insert at row bytes ∷ entries) tables h = columns-stay number entries tables h
columns-stay number (Patch at row offset bytes ∷ entries) tables h = columns-stay number entries tables h
columns-stay number (Delete at row ∷ entries) tables h = columns-stay number entries tables h
columns-stay number (AddColumn at default ∷ entries) tables h = cc

-- the numbers of one commit more
numbers-push : (table before : ℕ) (commits : List Commit) (commit : Commit)
    → numbers_of table before (commits ++ commit ∷ [])
    ≡ numbers_of table before commits ++ map (λ (default : Value). before + length commits + 1) (defaults_in table commit.entries)
numbers-push table before [] commit =
    let same : before + 1 ≡ before + 0 + 1 = omega arith in
    append-nil (map (λ (default : Value). before + 1) (defaults_in table commit.entries))
    ∙ ap (λ n. map (λ (default : Value). n) (defaults_in table commit.entries)) same
numbers-push table before (first ∷ commits) commit =
    let own = map (λ (default : Value). before + 1) (defaults_in table first.entries) in
    let same : before + 1 + length commits + 1 ≡ before + suc (length commits) + 1 = omega arith in
    ap (λ numbers. own ++ numbers) (numbers-push table (before + 1) commits commit)
    ∙ sym (append_assoc own (numbers_of table (before + 1) commits)
    (map (λ (default : Value). before + 1 + length commits + 1) (defaults_in table commit.entries)))
    ∙ ap (λ n. (own ++ numbers_of table (before + 1) commits) ++ map (λ (default : Value). n) (defaults_in table commit.entries)) same

defaults-push : (table : ℕ) (commits : List Commit) (commit : Commit)
    → defaults_of table (commits ++ commit ∷ []) ≡ defaults_of table commits ++ defaults_in table commit.entries
defaults-push table commits commit =
    flat_map-append (λ (c : Commit). defaults_in table c.entries) commits (commit ∷ [])
    ∙ ap (λ more. defaults_of table commits ++ more) (append-nil (defaults_in table commit.entries))

pub columns-push : (shape : Shape) (commits : List Commit) (tables : List TableColumns) (commit : Commit)
    → AreColumnsOf shape commits tables
    → AreColumnsOf shape (commits ++ commit ∷ []) (columns_after (length commits + 1) commit.entries tables)
columns-push shape commits tables commit are table =
    after-all (length commits + 1) table commit.entries tables
    ∙ ap (option_map (extended (length commits + 1) (defaults_in table commit.entries))) (are table)
    ∙ by (slice_get shape table)
  where
    same : 0 + length commits + 1 ≡ length commits + 1
    same = omega arith

    by : (found : Option (List Kind))
        → option_map (extended (length commits + 1) (defaults_in table commit.entries)) (option_map (columns_of table commits) found)
        ≡ option_map (columns_of table (commits ++ commit ∷ [])) found
    by None = refl
    by (Some kinds) =
        let more = defaults_in table commit.entries in
        let zeros = replicate {A = ℕ} (row_width kinds) 0 in
        ap Some (same-columns (length kinds)
        ((kinds ++ map kind_of (defaults_of table commits)) ++ map kind_of more)
        (kinds ++ map kind_of (defaults_of table (commits ++ commit ∷ [])))
        (numbers_of table 0 commits ++ map (λ (default : Value). length commits + 1) more) (numbers_of table 0 (commits ++ commit ∷ []))
        ((zeros ++ flat_map value_bytes (defaults_of table commits)) ++ flat_map value_bytes more)
        (zeros ++ flat_map value_bytes (defaults_of table (commits ++ commit ∷ [])))
        (append_assoc kinds (map kind_of (defaults_of table commits)) (map kind_of more)
        ∙ ap (λ kinds'. kinds ++ kinds') (sym (map-append kind_of (defaults_of table commits) more)
        ∙ ap (map kind_of) (sym (defaults-push table commits commit))))
        (ap (λ n. numbers_of table 0 commits ++ map (λ (default : Value). n) more) (sym same)
        ∙ sym (numbers-push table 0 commits commit))
        (append_assoc zeros (flat_map value_bytes (defaults_of table commits)) (flat_map value_bytes more)
        ∙ ap (λ bytes. zeros ++ bytes) (sym (flat_map-append value_bytes (defaults_of table commits) more)
        ∙ ap (flat_map value_bytes) (sym (defaults-push table commits commit)))))

-- the last of which something holds, with one commit more
last_where-push : (holds : Commit → Bool) (before : ℕ) (commits : List Commit) (commit : Commit)
    → last_where holds before (commits ++ commit ∷ []) ≡ cond (holds commit) (before + length commits + 1) (last_where holds before commits)
last_where-push holds before [] commit = by (holds commit)
  where
    by : (here : Bool) → cond (0 == 0) (cond here (before + 1) 0) 0 ≡ cond here (before + 0 + 1) 0
    by true = omega arith
    by false = refl
last_where-push holds before (first ∷ commits) commit =
    ap (λ last. cond (last == 0) (cond (holds first) (before + 1) 0) last) (last_where-push holds (before + 1) commits commit)
    ∙ by (holds first) (holds commit) (last_where holds (before + 1) commits)
  where
    by : (one here : Bool) (last : ℕ)
        → cond (cond here (before + 1 + length commits + 1) last == 0)
        (cond one (before + 1) 0) (cond here (before + 1 + length commits + 1) last)
        ≡ cond here (before + suc (length commits) + 1) (cond (last == 0) (cond one (before + 1) 0) last)
    by one true last = grind (arith, nat_tests)
    by one false last = refl

-- the last commits of the tables after entries
after-last : (number table : ℕ) (entries : List Entry) (numbers : List ℕ)
    → slice_get (last_after number entries numbers) table
    ≡ cond (list_any (is_in table) entries) (option_map (λ (was : ℕ). number) (slice_get numbers table)) (slice_get numbers table)
after-last number table [] numbers = refl
after-last number table (entry ∷ entries) numbers =
    after-last number table entries (slice_set numbers (table_of entry) number)
    ∙ ap (λ found. cond (list_any (is_in table) entries) (option_map (λ (was : ℕ). number) found) found)
    (slice_get-set numbers (table_of entry) table number)
    ∙ by (table_of entry == table) (list_any (is_in table) entries) (slice_get numbers table)
  where
    by : (here others : Bool) (found : Option ℕ)
        → cond others (option_map (λ (was : ℕ). number) (cond here (option_map (λ (was : ℕ). number) found) found))
        (cond here (option_map (λ (was : ℕ). number) found) found)
        ≡ cond (here || others) (option_map (λ (was : ℕ). number) found) found
    by true true None = refl
    by true true (Some was) = refl
    by true false found = refl
    by false others found = refl

pub last-push : (shape : Shape) (commits : List Commit) (numbers : List ℕ) (commit : Commit) → AreLast shape commits numbers
    → AreLast shape (commits ++ commit ∷ []) (last_after (length commits + 1) commit.entries numbers)
last-push shape commits numbers commit are table =
    after-last (length commits + 1) table commit.entries numbers
    ∙ ap (λ found. cond (concerns table commit) (option_map (λ (was : ℕ). length commits + 1) found) found) (are table)
    ∙ by (slice_get shape table)
  where
    same : 0 + length commits + 1 ≡ length commits + 1
    same = omega arith

    by : (found : Option (List Kind))
        → cond (concerns table commit) (option_map (λ (was : ℕ). length commits + 1)
        (option_map (λ (kinds : List Kind). newest_in table commits) found))
        (option_map (λ (kinds : List Kind). newest_in table commits) found)
        ≡ option_map (λ (kinds : List Kind). newest_in table (commits ++ commit ∷ [])) found
    by None = alike (concerns table commit)
      where
        alike : (b : Bool) → ◌≡◌ {A = Option ℕ} (cond b None None) None
        alike true = refl
        alike false = refl
    by (Some kinds) =
        some (concerns table commit)
        ∙ ap (λ n. Some (cond (concerns table commit) n (newest_in table commits))) (sym same)
        ∙ ap Some (sym (last_where-push (concerns table) 0 commits commit))
      where
        some : (b : Bool) → cond b (Some (length commits + 1)) (Some (newest_in table commits))
            ≡ Some (cond b (length commits + 1) (newest_in table commits))
        some true = refl
        some false = refl

-- no commit has an entry of a table that is not there
module _ (shape : Shape) (table : ℕ) (past : length shape ≤ table) where
  none-in : (entries : List Entry) → AllByRecursion (λ entry. table_of entry < length shape) entries
      → list_any (is_in table) entries ≡ false
  none-in [] h = refl
  none-in (entry ∷ entries) h =
      rw (ne_eqb (table_of entry) table (λ e. omega (arith, h.0, past, e))) (none-in entries h.1)

  none-added : (entries : List Entry) → AllByRecursion (λ entry. table_of entry < length shape) entries
      → list_any (adds_to table) entries ≡ false
  none-added [] h = refl
  none-added (Insert at row bytes ∷ entries) h = none-added entries h.1
  none-added (Patch at row offset bytes ∷ entries) h = none-added entries h.1
  none-added (Delete at row ∷ entries) h = none-added entries h.1
  none-added (AddColumn at default ∷ entries) h =
      rw (ne_eqb at table (λ e. omega (arith, h.0, past, e))) (none-added entries h.1)

  none-where : (holds : Commit → Bool)
      → ((commit : Commit) → AllByRecursion (λ entry. table_of entry < length shape) commit.entries → holds commit ≡ false)
      → (before : ℕ) (commits : List Commit)
      → AllByRecursion (λ commit. AllByRecursion (λ entry. table_of entry < length shape) commit.entries) commits
      → last_where holds before commits ≡ 0
  none-where holds none before [] h = refl
  none-where holds none before (commit ∷ commits) h =
      ap (λ last. cond (last == 0) (cond (holds commit) (before + 1) 0) last) (none-where holds none (before + 1) commits h.1)
      ∙ ap (λ b. cond b (before + 1) 0) (none commit h.0)

-- the last commit of a table
pub last-in : (shape : Shape) (commits : List Commit) (numbers : List ℕ) (table : ℕ) → AreLast shape commits numbers
    → AllByRecursion (λ commit. AllByRecursion (λ entry. table_of entry < length shape) commit.entries) commits
    → unwrap_or (slice_get numbers table) 0 ≡ newest_in table commits
last-in shape commits numbers table are tables = ap (λ found. unwrap_or found 0) (are table) ∙ by (slice_get shape table) refl
  where
    by : (found : Option (List Kind)) → slice_get shape table ≡ found
        → unwrap_or (option_map (λ (kinds : List Kind). newest_in table commits) found) 0 ≡ newest_in table commits
    by (Some kinds) e = refl
    by None e =
        let past = slice_get-past shape table e in
        sym (none-where shape table past (concerns table) (λ commit h. none-in shape table past commit.entries h) 0 commits tables)

-- the last of the columns' numbers is the last commit that adds one
last-more : (n last : ℕ) (defaults : List Value) (rest : List ℕ)
    → last_from last (map (λ (default : Value). n) defaults ++ rest)
    ≡ last_from (last_from last (map (λ (default : Value). n) defaults)) rest
last-more n last [] rest = refl
last-more n last (default ∷ defaults) rest = last-more n n defaults rest

last-same : (n : ℕ) (defaults : List Value) → last_from n (map (λ (default : Value). n) defaults) ≡ n
last-same n [] = refl
last-same n (default ∷ defaults) = last-same n defaults

last-own : (table n last : ℕ) (entries : List Entry)
    → last_from last (map (λ (default : Value). n) (defaults_in table entries)) ≡ cond (list_any (adds_to table) entries) n last
last-own table n last [] = refl
last-own table n last (Insert at row bytes ∷ entries) = last-own table n last entries
last-own table n last (Patch at row offset bytes ∷ entries) = last-own table n last entries
last-own table n last (Delete at row ∷ entries) = last-own table n last entries
last-own table n last (AddColumn at default ∷ entries) = by (at == table) (last-own table n last entries)
  where
    by : (here : Bool) → last_from last (map (λ (default : Value). n) (defaults_in table entries))
        ≡ cond (list_any (adds_to table) entries) n last
        → last_from last (map (λ (default : Value). n) (cond here (default ∷ []) [] ++ defaults_in table entries))
        ≡ cond (here || list_any (adds_to table) entries) n last
    by true rest = last-same n (defaults_in table entries)
    by false rest = rest

last-numbers : (table before : ℕ) (commits : List Commit) (last : ℕ)
    → last_from last (numbers_of table before commits)
    ≡ cond (last_where (widens table) before commits == 0) last (last_where (widens table) before commits)
last-numbers table before [] last = refl
last-numbers table before (commit ∷ commits) last =
    last-more (before + 1) last (defaults_in table commit.entries) (numbers_of table (before + 1) commits)
    ∙ ap (λ n. last_from n (numbers_of table (before + 1) commits)) (last-own table (before + 1) last commit.entries)
    ∙ last-numbers table (before + 1) commits (cond (widens table commit) (before + 1) last)
    ∙ by (widens table commit) (last_where (widens table) (before + 1) commits)
  where
    by : (here : Bool) (rest : ℕ) → cond (rest == 0) (cond here (before + 1) last) rest
        ≡ cond (cond (rest == 0) (cond here (before + 1) 0) rest == 0) last (cond (rest == 0) (cond here (before + 1) 0) rest)
    by true rest = grind (arith, nat_tests)
    by false rest = grind (arith, nat_tests)

-- the last commit that adds a column to a table
pub last-added : (shape : Shape) (commits : List Commit) (tables : List TableColumns) (table : ℕ) → AreColumnsOf shape commits tables
    → AllByRecursion (λ commit. AllByRecursion (λ entry. table_of entry < length shape) commit.entries) commits
    → last_added (slice_get tables table) ≡ newest_added table commits
last-added shape commits tables table are there = ap last_added (are table) ∙ by (slice_get shape table) refl
  where
    alike : (n : ℕ) → cond (n == 0) 0 n ≡ n
    alike n = grind (arith, nat_tests)

    by : (found : Option (List Kind)) → slice_get shape table ≡ found
        → last_added (option_map (columns_of table commits) found) ≡ newest_added table commits
    by (Some kinds) e = last-numbers table 0 commits 0 ∙ alike (newest_added table commits)
    by None e =
        let past = slice_get-past shape table e in
        sym (none-where shape table past (widens table) (λ commit h. none-added shape table past commit.entries h) 0 commits there)
