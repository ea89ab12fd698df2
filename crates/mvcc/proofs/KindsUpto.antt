-- The kinds of a table at a version are the first of all, as many as the numbers of its added columns tell.
use Rattle.std.proofs.Common.{◌≡◌, ℕ, zero, suc, ◌+◌, ◌<◌, ◌≤◌, Bool, true, false, cond, ◌==◌, ◌&&◌, not, Ok, Err, List, [], ◌∷◌, ◌++◌}
use Rattle.std.proofs.Common.{length, map, take}
use Rattle.std.proofs.Common.{get_or, Option, None, Some, slice_get, refl, sym, ap, subst, ◌∙◌, arith, append_assoc, append-nil}
use Rattle.std.proofs.Common.{length-append}
use Rattle.std.specs.Prelude.{nat_le, nat_lt}
use Rattle.std.specs.List.{prefix_len, AllByRecursion}
use Rattle.std.specs.List.Sorted.{IsNonDecreasingBy}
use Rattle.std.specs.Option.{option_map, unwrap_or}
use Rattle.std.specs.Result.{is_ok}
use Rattle.std.proofs.lemmas.Bool.{and_parts, eqb-true, le-leb, lt-leb, ltb-true}
use Rattle.std.proofs.lemmas.List.{take_at, length-map, map-append}
use Rattle.std.proofs.lemmas.Option.{same_Some, slice_get_within}
use Rattle.rows.specs.declared.commit.Commit.{Commit}
use Rattle.rows.specs.declared.entry.Entry.{Entry}
use Rattle.rows.specs.declared.entry.Entry.TheVariants.{Insert, Patch, Delete, AddColumn}
use Rattle.rows.specs.declared.kind.Kind.{Kind}
use Rattle.rows.specs.declared.value.Value.{Value}
use Rattle.rows.specs.Shape.{Shape, width_of, is_good, row_width, kinds_in, AreColumns, AreTables}
use Rattle.rows.specs.Values.{kind_of}
use Rattle.rows.specs.declared.faults.EntryFault.{EntryFault}
use Rattle.rows.specs.declared.faults.EntryFault.TheVariants.{WrongSize}
use Rattle.rows.specs.Limits.{columns_max, row_width_max}
use Rattle.rows.specs.Entries.{addable, has_room, fitting, with_kind, shape_after_one, shape_after}
use Rattle.rows.specs.Tables.{opening, shape_in}
use Rattle.rows.specs.Commits.{apply_commits, tables_after, shape_after_commits}
use Rattle.rows.specs.Laws.{VersionsTellKinds, LimitsStay}
use Rattle.rows.specs.ListLaws.{FitInTurn, CommitsFitInTurn, EachFits}
use Rattle.mvcc.specs.Inner.Columns.{TableColumns, defaults_one, defaults_in, defaults_of, numbers_of, columns_of, kinds_upto}
use Rattle.mvcc.specs.Inner.Columns.{AreColumnsOf, kinds_after_one, kinds_after}
use Rattle.mvcc.proofs.Places.{slice_get-set}

-- the kinds of a table, if it is there, with others behind them
abbrev more_kinds : List Value → Option (List Kind) → Option (List Kind)
more_kinds defaults found = option_map (λ kinds. kinds ++ map kind_of defaults) found

same-kinds : (found : Option (List Kind)) → found ≡ option_map (λ kinds. kinds) found
same-kinds None = refl
same-kinds (Some kinds) = refl

no-more : (found : Option (List Kind)) → found ≡ more_kinds [] found
no-more None = refl
no-more (Some kinds) = ap Some (sym (append-nil kinds))

more-both : (first others : List Value) (found : Option (List Kind))
    → more_kinds others (more_kinds first found) ≡ more_kinds (first ++ others) found
more-both first others None = refl
more-both first others (Some kinds) =
    ap Some (append_assoc kinds (map kind_of first) (map kind_of others)
    ∙ ap (λ more. kinds ++ more) (sym (map-append kind_of first others)))

-- the kinds after entries that fit in turn: those before, and those of the columns that were added
kinds-one : (shape : Shape) (table : ℕ) (entry : Entry) → is_ok (fitting shape entry) ≡ true
    → slice_get (shape_after_one shape entry) table ≡ more_kinds (defaults_one table entry) (slice_get shape table)
kinds-one shape table (Insert at row bytes) h = no-more (slice_get shape table)
kinds-one shape table (Patch at row offset bytes) h = no-more (slice_get shape table)
kinds-one shape table (Delete at row) h = no-more (slice_get shape table)
kinds-one shape table (AddColumn at default) h =
    ap (λ fits. slice_get (cond fits (with_kind shape at (kind_of default)) shape) table) h
    ∙ slice_get-set shape at table (kinds_in shape at ++ kind_of default ∷ []) ∙ by (at == table) refl
  where
    own : (found : Option (List Kind)) → option_map (λ (was : List Kind). unwrap_or found [] ++ kind_of default ∷ []) found
        ≡ more_kinds (default ∷ []) found
    own None = refl
    own (Some kinds) = refl

    by : (here : Bool) → (at == table) ≡ here
        → cond here (option_map (λ (was : List Kind). kinds_in shape at ++ kind_of default ∷ [])
        (slice_get shape table)) (slice_get shape table)
        ≡ more_kinds (cond here (default ∷ []) []) (slice_get shape table)
    by false e = no-more (slice_get shape table)
    by true e =
        ap (λ t. option_map (λ (was : List Kind). kinds_in shape t ++ kind_of default ∷ []) (slice_get shape table)) (eqb-true at table e)
        ∙ own (slice_get shape table)

kinds-entries : (shape : Shape) (table : ℕ) (entries : List Entry) → FitInTurn shape entries
    → slice_get (shape_after shape entries) table ≡ more_kinds (defaults_in table entries) (slice_get shape table)
kinds-entries shape table [] fit = no-more (slice_get shape table)
kinds-entries shape table (entry ∷ entries) fit =
    kinds-entries (shape_after_one shape entry) table entries fit.1
    ∙ ap (more_kinds (defaults_in table entries)) (kinds-one shape table entry fit.0)
    ∙ more-both (defaults_one table entry) (defaults_in table entries) (slice_get shape table)

kinds-commits : (shape : Shape) (table : ℕ) (commits : List Commit) → CommitsFitInTurn shape commits
    → slice_get (shape_after_commits shape commits) table ≡ more_kinds (defaults_of table commits) (slice_get shape table)
kinds-commits shape table [] fit = no-more (slice_get shape table)
kinds-commits shape table (commit ∷ commits) fit =
    kinds-commits (shape_after shape commit.entries) table commits fit.1
    ∙ ap (more_kinds (defaults_of table commits)) (kinds-entries shape table commit.entries fit.0)
    ∙ more-both (defaults_in table commit.entries) (defaults_of table commits) (slice_get shape table)

-- how many columns are added up to a version
counts-one : (n version : ℕ) (rest : List ℕ) → nat_le n version ≡ true
    → prefix_len (λ number. nat_le number version) (n ∷ rest) ≡ suc (prefix_len (λ number. nat_le number version) rest)
counts-one n version rest h = rw h (omega arith)

counts-none : (n version : ℕ) (rest : List ℕ) → nat_le n version ≡ false → prefix_len (λ number. nat_le number version) (n ∷ rest) ≡ 0
counts-none n version rest h = rw h refl

early : {X : Type 0} (list : List X) (n version : ℕ) (rest : List ℕ) → n ≤ version
    → prefix_len (λ number. nat_le number version) (map (λ x. n) list ++ rest)
    ≡ length list + prefix_len (λ number. nat_le number version) rest
early [] n version rest h = zero-plus _
  where
    zero-plus : (m : ℕ) → m ≡ 0 + m
    zero-plus m = omega arith
early (x ∷ list) n version rest h =
    counts-one n version (map (λ x. n) list ++ rest) (le-leb n version h)
    ∙ ap suc (early list n version rest h)
    ∙ more (length list) (prefix_len (λ number. nat_le number version) rest)
  where
    more : (a b : ℕ) → suc (a + b) ≡ suc a + b
    more a b = omega arith

late : (table before version : ℕ) (commits : List Commit) → version ≤ before
    → prefix_len (λ number. nat_le number version) (numbers_of table before commits) ≡ 0
late table before version [] h = refl
late table before version (commit ∷ commits) h =
    by (late table (before + 1) version commits (omega arith)) (defaults_in table commit.entries)
  where
    by : prefix_len (λ number. nat_le number version) (numbers_of table (before + 1) commits) ≡ 0 → (added : List Value)
        → prefix_len (λ number. nat_le number version) (map (λ (d : Value). before + 1) added ++ numbers_of table (before + 1) commits) ≡ 0
    by rest [] = rest
    by rest (d ∷ added) =
        counts-none (before + 1) version (map (λ (d : Value). before + 1) added ++ numbers_of table (before + 1) commits)
        (lt-leb (before + 1) version (omega arith))

counted : (table before version : ℕ) (commits : List Commit)
    → prefix_len (λ number. nat_le number (before + version)) (numbers_of table before commits)
    ≡ length (defaults_of table (take version commits))
counted table before zero commits = late table before (before + 0) commits (omega arith) ∙ none commits
  where
    none : (commits : List Commit) → 0 ≡ length (defaults_of table (take zero commits))
    none [] = refl
    none (commit ∷ commits) = refl
counted table before (suc version) [] = refl
counted table before (suc version) (commit ∷ commits) =
    let added = defaults_in table commit.entries in
    let same : before + suc version ≡ (before + 1) + version = omega arith in
    early added (before + 1) (before + suc version) (numbers_of table (before + 1) commits) (omega arith)
    ∙ ap (λ v. length added + prefix_len (λ number. nat_le number v) (numbers_of table (before + 1) commits)) same
    ∙ ap (λ n. length added + n) (counted table (before + 1) version commits)
    ∙ sym (length-append added (defaults_of table (take version commits)))

first-fit : (shape : Shape) (version : ℕ) (commits : List Commit) → CommitsFitInTurn shape commits
    → CommitsFitInTurn shape (take version commits)
first-fit shape zero [] fit = tt
first-fit shape zero (commit ∷ commits) fit = tt
first-fit shape (suc version) [] fit = tt
first-fit shape (suc version) (commit ∷ commits) fit = (fit.0, first-fit (shape_after shape commit.entries) version commits fit.1)

-- the values of those that are added up to a version are the first of all
first-defaults : (table version : ℕ) (commits : List Commit)
    → (more : List Value) × (defaults_of table commits ≡ defaults_of table (take version commits) ++ more)
first-defaults table zero [] = ([], refl)
first-defaults table zero (commit ∷ commits) = (defaults_of table (commit ∷ commits), refl)
first-defaults table (suc version) [] = ([], refl)
first-defaults table (suc version) (commit ∷ commits) =
    let rest = first-defaults table version commits in (
      rest.0,
      ap (λ others. defaults_in table commit.entries ++ others) rest.1
          ∙ sym (append_assoc (defaults_in table commit.entries) (defaults_of table (take version commits)) rest.0),
    )

-- so the kinds at a version are the first of all
pub kinds-first : (table version : ℕ) (commits : List Commit) (kinds : List Kind)
    → kinds ++ map kind_of (defaults_of table (take version commits)) ≡ kinds_upto version (columns_of table commits kinds)
kinds-first table version commits kinds =
    let begun = map kind_of (defaults_of table (take version commits)) in
    let rest = first-defaults table version commits in
    let all : kinds ++ map kind_of (defaults_of table commits) ≡ (kinds ++ begun) ++ map kind_of rest.0 =
    ap (λ defaults. kinds ++ map kind_of defaults) rest.1
    ∙ ap (λ others. kinds ++ others) (map-append kind_of (defaults_of table (take version commits)) rest.0)
    ∙ sym (append_assoc kinds begun (map kind_of rest.0)) in
    let count : length (kinds ++ begun) ≡ length kinds + prefix_len (λ number. nat_le number version) (numbers_of table 0 commits) =
    omega (
      arith,
      length-append kinds begun,
      length-map (defaults_of table (take version commits)) kind_of,
      counted table 0 version commits,
      ap (λ v. prefix_len (λ number. nat_le number v) (numbers_of table 0 commits)) (zero-plus version),
    ) in
    sym (take_at (kinds ++ begun) (map kind_of rest.0) _ count)
    ∙ ap (take (length kinds + prefix_len (λ number. nat_le number version) (numbers_of table 0 commits))) (sym all)
  where
    zero-plus : (m : ℕ) → 0 + m ≡ m
    zero-plus m = omega arith

pub kinds-at : EachFits → VersionsTellKinds → (shape : Shape) (commits : List Commit) (version table : ℕ)
    → is_ok (apply_commits (opening shape) commits) ≡ true
    → slice_get (shape_in (tables_after shape commits version)) table
    ≡ option_map (λ kinds. kinds_upto version (columns_of table commits kinds)) (slice_get shape table)
kinds-at fits tell shape commits version table h =
    ap (λ s. slice_get s table) (tell shape commits version h)
    ∙ kinds-commits shape table (take version commits) (first-fit shape version commits (fits shape commits h))
    ∙ by (slice_get shape table)
  where
    by : (found : Option (List Kind)) → more_kinds (defaults_of table (take version commits)) found
        ≡ option_map (λ kinds. kinds_upto version (columns_of table commits kinds)) found
    by None = refl
    by (Some kinds) = ap Some (kinds-first table version commits kinds)

-- as many numbers as columns that were added
numbers-count : (table before : ℕ) (commits : List Commit) → length (numbers_of table before commits) ≡ length (defaults_of table commits)
numbers-count table before [] = refl
numbers-count table before (commit ∷ commits) =
    omega (
      arith,
      length-append (map (λ (d : Value). before + 1) (defaults_in table commit.entries)) (numbers_of table (before + 1) commits),
      length-map (defaults_in table commit.entries) (λ (d : Value). before + 1),
      length-append (defaults_in table commit.entries) (defaults_of table commits),
      numbers-count table (before + 1) commits,
    )

pub columns-whole : (table : ℕ) (commits : List Commit) (kinds : List Kind)
    → length kinds + length (numbers_of table 0 commits) ≡ length (kinds ++ map kind_of (defaults_of table commits))
columns-whole table commits kinds =
    omega (
      arith,
      length-append kinds (map kind_of (defaults_of table commits)),
      length-map (defaults_of table commits) kind_of,
      numbers-count table 0 commits,
    )

-- the numbers do not fall
abbrev Above : ℕ → List ℕ → Type 0
Above least numbers = (i d : ℕ) → i < length numbers → least ≤ get_or numbers i d

above-more : (n : ℕ) (added : List Value) (rest : List ℕ) → Above n rest → Above n (map (λ (d : Value). n) added ++ rest)
above-more n [] rest h i d k = h i d k
above-more n (a ∷ added) rest h zero d k = omega arith
above-more n (a ∷ added) rest h (suc i) d k = above-more n added rest h i d (omega arith)

sorted-more : (n : ℕ) (added : List Value) (rest : List ℕ) → Above n rest → IsNonDecreasingBy (λ (m : ℕ). m) rest
    → IsNonDecreasingBy (λ (m : ℕ). m) (map (λ (d : Value). n) added ++ rest)
sorted-more n [] rest h s i j d le k = s i j d le k
sorted-more n (a ∷ added) rest h s zero zero d le k = omega arith
sorted-more n (a ∷ added) rest h s zero (suc j) d le k = above-more n added rest h j d (omega arith)
sorted-more n (a ∷ added) rest h s (suc i) zero d le k = absurd (omega arith)
sorted-more n (a ∷ added) rest h s (suc i) (suc j) d le k = sorted-more n added rest h s i j d (omega arith) (omega arith)

numbers-above : (table before : ℕ) (commits : List Commit) → Above (before + 1) (numbers_of table before commits)
numbers-above table before [] i d k = absurd (omega arith)
numbers-above table before (commit ∷ commits) i d k =
    above-more (before + 1) (defaults_in table commit.entries) (numbers_of table (before + 1) commits)
    (λ i d k. lower (numbers-above table (before + 1) commits i d k)) i d k
  where
    lower : {m : ℕ} → before + 1 + 1 ≤ m → before + 1 ≤ m
    lower h = omega arith

pub numbers-sorted : (table before : ℕ) (commits : List Commit) → IsNonDecreasingBy (λ (m : ℕ). m) (numbers_of table before commits)
numbers-sorted table before [] i j d le k = absurd (omega arith)
numbers-sorted table before (commit ∷ commits) i j d le k =
    sorted-more (before + 1) (defaults_in table commit.entries) (numbers_of table (before + 1) commits)
    (λ i d k. lower (numbers-above table (before + 1) commits i d k)) (numbers-sorted table (before + 1) commits) i j d le k
  where
    lower : {m : ℕ} → before + 1 + 1 ≤ m → before + 1 ≤ m
    lower h = omega arith

-- columns at a version are columns that a table may have
pub limits-commits : LimitsStay → (shape : Shape) (commits : List Commit) → AreTables shape → AreTables (shape_after_commits shape commits)
limits-commits stay shape [] h = h
limits-commits stay shape (commit ∷ commits) h =
    limits-commits stay (shape_after shape commit.entries) commits (stay shape commit.entries h)

columns-in : (shape : Shape) (table : ℕ) (kinds : List Kind) → AllByRecursion AreColumns shape → slice_get shape table ≡ Some kinds
    → AreColumns kinds
columns-in [] table kinds h e = absurd cc
columns-in (first ∷ shape) zero kinds h e = subst AreColumns (same-some e) h.0
  where
    same-some : Some first ≡ Some kinds → first ≡ kinds
    same-some e = cc
columns-in (first ∷ shape) (suc table) kinds h e = columns-in shape table kinds h.1 e

pub bounds-at : VersionsTellKinds → LimitsStay → (shape : Shape) (commits : List Commit) (version table : ℕ) (kinds : List Kind)
    → is_ok (apply_commits (opening shape) commits) ≡ true → AreTables shape
    → slice_get (shape_in (tables_after shape commits version)) table ≡ Some kinds
    → (table < 16) × AreColumns kinds
bounds-at tell stay shape commits version table kinds h limits e =
    let then = limits-commits stay shape (take version commits) limits in
    let there : slice_get (shape_after_commits shape (take version commits)) table ≡ Some kinds =
    ap (λ s. slice_get s table) (sym (tell shape commits version h)) ∙ e in
    let within = slice_get_within (shape_after_commits shape (take version commits)) table kinds there in
    (omega (arith, then.few, within), columns-in (shape_after_commits shape (take version commits)) table kinds then.each there)

-- what is kept of a table that is there
pub columns-there : (shape : Shape) (commits : List Commit) (table : ℕ) (columns : TableColumns)
    → Some columns ≡ option_map (columns_of table commits) (slice_get shape table)
    → (kinds : List Kind) × (columns ≡ columns_of table commits kinds)
columns-there shape commits table columns h = by (slice_get shape table) h
  where
    by : (found : Option (List Kind)) → Some columns ≡ option_map (columns_of table commits) found
        → (kinds : List Kind) × (columns ≡ columns_of table commits kinds)
    by None e = absurd cc
    by (Some kinds) e = (kinds, same_Some columns (columns_of table commits kinds) e)

-- and the kinds that it tells
pub kinds-kept : EachFits → VersionsTellKinds → (shape : Shape) (commits : List Commit) (tables : List TableColumns) (version table : ℕ)
    → is_ok (apply_commits (opening shape) commits) ≡ true → AreColumnsOf shape commits tables
    → option_map (kinds_upto version) (slice_get tables table) ≡ slice_get (shape_in (tables_after shape commits version)) table
kinds-kept fits tell shape commits tables version table h are =
    ap (option_map (kinds_upto version)) (are table) ∙ fuse (slice_get shape table) ∙ sym (kinds-at fits tell shape commits version table h)
  where
    fuse : (found : Option (List Kind)) → option_map (kinds_upto version) (option_map (columns_of table commits) found)
        ≡ option_map (λ kinds. kinds_upto version (columns_of table commits kinds)) found
    fuse None = refl
    fuse (Some kinds) = refl

-- the kinds of a table after entries, also where some do not fit
after-one : (shape : Shape) (table : ℕ) (entry : Entry)
    → slice_get (shape_after_one shape entry) table ≡ option_map (λ kinds. kinds_after_one table kinds entry) (slice_get shape table)
after-one shape table (Insert at row bytes) = same-kinds (slice_get shape table)
after-one shape table (Patch at row offset bytes) = same-kinds (slice_get shape table)
after-one shape table (Delete at row) = same-kinds (slice_get shape table)
after-one shape table (AddColumn at default) = put (is_ok (addable (slice_get shape at) default)) (at == table) refl refl
  where
    own : (found : Option (List Kind)) (fits : Bool) → is_ok (addable found default) ≡ fits
        → cond fits (option_map (λ (was : List Kind). unwrap_or found [] ++ kind_of default ∷ []) found) found
        ≡ option_map (λ kinds. cond (is_ok (addable (Some kinds) default)) (kinds ++ kind_of default ∷ []) kinds) found
    own None true e = refl
    own None false e = refl
    own (Some kinds) fits e = by fits e
      where
        by : (fits : Bool) → is_ok (addable (Some kinds) default) ≡ fits
            → cond fits (Some (kinds ++ kind_of default ∷ [])) (Some kinds)
            ≡ Some (cond (is_ok (addable (Some kinds) default)) (kinds ++ kind_of default ∷ []) kinds)
        by true e = ap (λ b. Some (cond b (kinds ++ kind_of default ∷ []) kinds)) (sym e)
        by false e = ap (λ b. Some (cond b (kinds ++ kind_of default ∷ []) kinds)) (sym e)

    put : (fits here : Bool) → is_ok (addable (slice_get shape at) default) ≡ fits → (at == table) ≡ here
        → slice_get (cond fits (with_kind shape at (kind_of default)) shape) table
        ≡ option_map (λ kinds. cond here (cond (is_ok (addable (Some kinds) default)) (kinds ++ kind_of default ∷ []) kinds) kinds)
        (slice_get shape table)
    put false false e h = same-kinds (slice_get shape table)
    put true false e h =
        slice_get-set shape at table (kinds_in shape at ++ kind_of default ∷ [])
        ∙ ap (λ here. cond here (option_map (λ (was : List Kind). kinds_in shape at ++ kind_of default ∷ []) (slice_get shape table))
        (slice_get shape table)) h
        ∙ same-kinds (slice_get shape table)
    put false true e h =
        let same : at ≡ table = eqb-true at table h in
        own (slice_get shape table) false (ap (λ t. is_ok (addable (slice_get shape t) default)) (sym same) ∙ e)
    put true true e h =
        let same : at ≡ table = eqb-true at table h in
        slice_get-set shape at table (kinds_in shape at ++ kind_of default ∷ [])
        ∙ ap (λ here. cond here (option_map (λ (was : List Kind). kinds_in shape at ++ kind_of default ∷ []) (slice_get shape table))
        (slice_get shape table)) h
        ∙ ap (λ t. option_map (λ (was : List Kind). kinds_in shape t ++ kind_of default ∷ []) (slice_get shape table)) same
        ∙ own (slice_get shape table) true (ap (λ t. is_ok (addable (slice_get shape t) default)) (sym same) ∙ e)

pub after-entries : (shape : Shape) (table : ℕ) (entries : List Entry)
    → slice_get (shape_after shape entries) table ≡ option_map (λ kinds. kinds_after table kinds entries) (slice_get shape table)
after-entries shape table [] = same-kinds (slice_get shape table)
after-entries shape table (entry ∷ entries) =
    after-entries (shape_after_one shape entry) table entries
    ∙ ap (option_map (λ kinds. kinds_after table kinds entries)) (after-one shape table entry)
    ∙ fuse (slice_get shape table)
  where
    fuse : (found : Option (List Kind)) → option_map (λ kinds. kinds_after table kinds entries)
        (option_map (λ kinds. kinds_after_one table kinds entry) found)
        ≡ option_map (λ kinds. kinds_after table kinds (entry ∷ entries)) found
    fuse None = refl
    fuse (Some kinds) = refl

-- a column that fits has room
passed : (test : Bool) (fault : EntryFault) → is_ok {T = Unit {0}} (cond test (Ok tt) (Err fault)) ≡ true → test ≡ true
passed true fault h = refl
passed false fault h = cc

pub has-room : (kinds : List Kind) (default : Value) → is_ok (addable (Some kinds) default) ≡ true → has_room kinds (kind_of default) ≡ true
has-room kinds default h = passed (has_room kinds (kind_of default)) WrongSize h

pub room-few : (kinds : List Kind) (default : Value) → is_ok (addable (Some kinds) default) ≡ true → length kinds < 16
room-few kinds default h =
    let kind = kind_of default in
    let first = is_good kind in
    let few = nat_lt (length kinds) columns_max in
    let narrow = not (nat_lt row_width_max (row_width kinds + width_of kind)) in
    ltb-true (length kinds) 16 (and_parts first few (and_parts (first && few) narrow (has-room kinds default h)).0).1
