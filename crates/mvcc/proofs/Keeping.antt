-- The chains of all rows are kept: with each entry that is linked, and where a commit is refused half way.
use Rattle.std.proofs.Common.{◌≡◌, ℕ, suc, zero, ◌+◌, ◌<◌, ◌≤◌, Bool, true, false, cond, ◌==◌, List, [], ◌∷◌, ◌++◌, length, get_or, take}
use Rattle.std.proofs.Common.{drop}
use Rattle.std.proofs.Common.{slice_get, arith}
use Rattle.std.proofs.Common.{Option, None, Some, Result, Ok, Err, refl, sym, ap, subst, ◌∙◌}
use Rattle.std.specs.Prelude.{IfSome}
use Rattle.std.specs.List.{list_any, flat_map, AllByRecursion}
use Rattle.std.specs.Option.{is_some, option_map, option_and_then, unwrap_or}
use Rattle.std.specs.List.Sorted.{IsNonDecreasingBy}
use Rattle.std.specs.Result.{OnErr, is_ok}
use Rattle.std.proofs.lemmas.Bool.{or_parts, or_from, and_parts, eqb-true}
use Rattle.std.proofs.lemmas.List.{take_more, take_all, length-append}
use Rattle.std.proofs.lemmas.Option.{slice_get_within}
use Rattle.rows.specs.declared.commit.Commit.{Commit}
use Rattle.rows.specs.declared.entry.Entry.{Entry}
use Rattle.rows.specs.declared.entry.Entry.TheVariants.{Insert, Patch, Delete, AddColumn}
use Rattle.rows.specs.declared.kind.Kind.{Kind}
use Rattle.rows.specs.Entries.{table_of}
use Rattle.rows.specs.Laws.{WidthTellsValue, VersionsTellKinds, LimitsStay}
use Rattle.rows.specs.Limits.{row_width_max}
use Rattle.rows.specs.Shape.{Shape, AreTables, kinds_in, row_width}
use Rattle.rows.specs.Values.{values_of, value_bytes}
use Rattle.rows.specs.Tables.{opening, shape_in, kinds_of, rows_of, row_at, apply_entries}
use Rattle.rows.specs.Commits.{apply_commits, tables_after}
use Rattle.mvcc.specs.Inner.Keys.{names, adds_column}
use Rattle.mvcc.specs.Inner.Newest.{newest_naming}
use Rattle.mvcc.specs.Inner.Columns.{TableColumns, columns_of, columns_after, last_after, defaults_of, kinds_upto, blank_at}
use Rattle.rows.specs.ListLaws.{OneMoreIsDefined, EachFits, EachHasTable}
use Rattle.mvcc.specs.declared.link.Link.{Link}
use Rattle.mvcc.specs.Values.{value_in}
use Rattle.mvcc.specs.Inner.RowBytes.{wide, blank_in, blank_after, blank_after_commits, HasValue, HaveValues, IsTold, RowsHaveBytes}
use Rattle.mvcc.specs.Inner.Chains.{Chains, chain_of, newest_link, bytes_at, taken_back_at, linked, links_at, all_taken_back, Turns}
use Rattle.mvcc.specs.Inner.Chains.{and_entries, AreChains, AreChainsTakenBack, AreLinkable, AreVersions}
use Rattle.mvcc.proofs.Histories.{chain-at, chain-sorted, chain-newest_naming, taken_back-chain, taken_back-and_entries, and_entries-other}
use Rattle.mvcc.proofs.Histories.{and_entries-push}
use Rattle.mvcc.proofs.Histories.{and_entries-commit}
use Rattle.mvcc.proofs.Blanks.{kept-newest, beginning, values-front, found-there}
use Rattle.mvcc.proofs.KindsUpto.{bounds-at, kinds-kept}
use Rattle.mvcc.proofs.RowBytes.{length-wide, wide-more}
use Rattle.mvcc.proofs.TableCommits.{columns-push, last-push}

-- an entry of a row alone is of its table
names-table : (t r : ℕ) (entry : Entry) → names t r entry ≡ true → table_of entry ≡ t
names-table t r (Insert table row bytes) h = eqb-true table t (and_parts (table == t) (row.0 == r) h).0
names-table t r (Patch table row offset bytes) h = eqb-true table t (and_parts (table == t) (row.0 == r) h).0
names-table t r (Delete table row) h = eqb-true table t (and_parts (table == t) (row.0 == r) h).0
names-table t r (AddColumn table default) h = absurd cc

-- what holds, holds where a call fails
pub on_err : {T E P : Type 0} (r : Result T E) → P → OnErr r P
on_err (Ok x) p = tt
on_err (Err e) p = p

-- the next commit without entries
pub kept-begun : (shape : Shape) (commits : List Commit) (chains : Chains) → AreChains shape commits chains
    → AreChains shape (and_entries commits []) chains
kept-begun shape commits chains kept t r = kept t r ∙ sym (and_entries-other t r (blank_in shape t) commits [] refl)

-- one entry more
pub kept-linked : (shape : Shape) (commits : List Commit) (before after : Chains) (blank : List ℕ) (entries : List Entry) (i : ℕ)
    (entry : Entry) → i < length entries → entry ≡ get_or entries i entry
    → blank ≡ blank_after (table_of entry) (blank_after_commits (table_of entry) (blank_in shape (table_of entry)) commits) (take i entries)
    → Turns entry (linked (length commits + 1) blank entry) before after
    → AreChains shape (and_entries commits (take i entries)) before → AreChains shape (and_entries commits (take (i + 1) entries)) after
kept-linked shape commits before after blank entries i entry h e is turns kept t r =
    let more : take (i + 1) entries ≡ take i entries ++ entry ∷ [] =
    take_more entries i entry h ∙ ap (λ x. take i entries ++ x ∷ []) (sym e) in
    let opened = blank_in shape t in
    turns t r
    ∙ ap (λ links. cond (names t r entry) (linked (length commits + 1) blank entry links) links) (kept t r)
    ∙ own (names t r entry) refl (chain_of t r opened (and_entries commits (take i entries)))
    ∙ sym (ap (λ entries. chain_of t r opened (and_entries commits entries)) more
    ∙ and_entries-push t r opened commits (take i entries) entry)
  where
    own : (here : Bool) → names t r entry ≡ here → (links : List Link)
        → cond here (linked (length commits + 1) blank entry links) links
        ≡ cond here (linked (length commits + 1) (blank_after t (blank_after_commits t (blank_in shape t) commits) (take i entries))
        entry links) links
    own true here links =
        ap (λ bytes. linked (length commits + 1) bytes entry links)
        (is ∙ ap (λ table. blank_after table (blank_after_commits table (blank_in shape table) commits) (take i entries))
        (names-table t r entry here))
    own false here links = refl

-- the first of entries of other rows are of other rows
pub any-take : {X : Type 0} (p : X → Bool) (i : ℕ) (xs : List X) → list_any p xs ≡ false → list_any p (take i xs) ≡ false
any-take p zero [] h = refl
any-take p zero (x ∷ xs) h = refl
any-take p (suc i) [] h = refl
any-take p (suc i) (x ∷ xs) h =
    let parts = or_parts (p x) (list_any p xs) h in
    or_from (p x) (list_any p (take i xs)) parts.0 (any-take p i xs parts.1)

-- what a refusal half way leaves
pub taken_back-part : (shape : Shape) (commits : List Commit) (chains : Chains) (entries : List Entry) (i : ℕ)
    → AreChains shape (and_entries commits (take i entries)) chains → AreChainsTakenBack shape commits entries chains
taken_back-part shape commits chains entries i kept = record {
  back = λ t r. ap (taken_back_at (length commits + 1)) (kept t r) ∙ taken_back-and_entries t r (blank_in shape t) commits (take i entries);
  whole = λ t r h. kept t r ∙ and_entries-other t r (blank_in shape t) commits (take i entries) (any-take (names t r) i entries h);
}

-- a chain is that of the commits again, once it was taken back for each entry of its row
taken_back-again : (t r : ℕ) (blank : List ℕ) (commits : List Commit) (entries : List Entry) (links : List Link)
    → taken_back_at (length commits + 1) links ≡ chain_of t r blank commits
    → (list_any (names t r) entries ≡ false → links ≡ chain_of t r blank commits)
    → all_taken_back (length commits + 1) t r entries links ≡ chain_of t r blank commits
taken_back-again t r blank commits [] links back whole = whole refl
taken_back-again t r blank commits (entry ∷ entries) links back whole = by (names t r entry) refl
    (taken_back-again t r blank commits entries)
  where
    by : (here : Bool) → names t r entry ≡ here
        → ((links : List Link) → taken_back_at (length commits + 1) links ≡ chain_of t r blank commits
        → (list_any (names t r) entries ≡ false → links ≡ chain_of t r blank commits)
        → all_taken_back (length commits + 1) t r entries links ≡ chain_of t r blank commits)
        → all_taken_back (length commits + 1) t r entries
        (cond here (taken_back_at (length commits + 1) links) links) ≡ chain_of t r blank commits
    by true e next = next (taken_back_at (length commits + 1) links)
        (ap (taken_back_at (length commits + 1)) back ∙ taken_back-chain t r blank commits) (λ none. back)
    by false e next = next links back (λ none. whole (or_from (names t r entry) (list_any (names t r) entries) e none))

pub kept-taken_back : (shape : Shape) (commits : List Commit) (before after : Chains) (entries : List Entry)
    → AreChainsTakenBack shape commits entries before
    → ((t r : ℕ) → links_at after t r ≡ all_taken_back (length commits + 1) t r entries (links_at before t r))
    → AreChains shape commits after
kept-taken_back shape commits before after entries left back t r =
    back t r ∙ taken_back-again t r (blank_in shape t) commits entries (links_at before t r) (left.back t r) (left.whole t r)

-- what the chains tell
pub sorted-at : (shape : Shape) (commits : List Commit) (chains : Chains) (t r : ℕ) → AreChains shape commits chains
    → IsNonDecreasingBy (λ (link : Link). link.version) (links_at chains t r)
sorted-at shape commits chains t r kept =
    subst (IsNonDecreasingBy (λ (link : Link). link.version)) (sym (kept t r)) (chain-sorted t r (blank_in shape t) commits)

pub newest-at : (shape : Shape) (commits : List Commit) (chains : Chains) (t r : ℕ) → AreChains shape commits chains
    → newest_link (links_at chains t r) ≡ newest_naming t r commits
newest-at shape commits chains t r kept = ap newest_link (kept t r) ∙ chain-newest_naming t r (blank_in shape t) commits

-- a row at a version has the values of its chain's bytes, with those of the blank row behind them
pub row-kept : (law : RowsHaveBytes) (shape : Shape) (commits : List Commit) (chains : Chains) (version t r : ℕ)
    → is_ok (apply_commits (opening shape) commits) ≡ true → HaveValues commits → AreChains shape commits chains
    → IsTold (kinds_of (tables_after shape commits version) t)
    (blank_after_commits t (blank_in shape t) (take version commits))
    (row_at (rows_of (tables_after shape commits version) t) r) (bytes_at version (links_at chains t r))
row-kept law shape commits chains version t r legal valued kept =
    subst (IsTold (kinds_of (tables_after shape commits version) t)
    (blank_after_commits t (blank_in shape t) (take version commits)) (row_at (rows_of (tables_after shape commits version) t) r))
    (sym (ap (bytes_at version) (kept t r) ∙ chain-at t r version (blank_in shape t) commits))
    (law shape commits version t r legal valued)

-- the value of a column at a version: that in its chain's bytes, with those of the newest blank row behind them
module _ (law : RowsHaveBytes) (tells : WidthTellsValue) (shape : Shape) (commits : List Commit) (chains : Chains)
    (tables : List TableColumns) (last : List ℕ) (version t r column : ℕ) (sound : AreVersions shape commits chains tables last) where
  -- the kinds of the tables' columns at the version
  abbrev now : Shape
  now = shape_in (tables_after shape commits version)

  -- the bytes of the row's chain
  abbrev bytes : Option (List ℕ)
  bytes = bytes_at version (links_at chains t r)

  -- the blank row at the version
  abbrev blank : List ℕ
  blank = blank_after_commits t (blank_in shape t) (take version commits)

  told : IsTold (kinds_of (tables_after shape commits version) t) blank (row_at (rows_of (tables_after shape commits version) t) r) bytes
  told = row-kept law shape commits chains version t r sound.legal sound.valued sound.kept

  value-columns : (kinds : List Kind) → kinds_in now t ≡ kinds
      → value_in (tables_after shape commits version) t r column
      ≡ option_and_then (λ values. slice_get values column) (option_map (λ row. values_of kinds (wide blank row)) bytes)
  value-columns kinds columns =
      ap (option_and_then (λ values. slice_get values column))
      (told.told ∙ ap (λ kinds. option_map (λ row. values_of kinds (wide blank row)) bytes) columns)

  -- no such table, and no such row
  pub value-unknown : slice_get now t ≡ None → value_in (tables_after shape commits version) t r column ≡ None
  value-unknown none =
      let columns : kinds_in now t ≡ [] = rw none refl in
      value-columns [] columns ∙ by bytes
    where
      by : (found : Option (List ℕ))
          → option_and_then (λ values. slice_get values column) (option_map (λ row. values_of [] (wide blank row)) found) ≡ None
      by None = refl
      by (Some found) = refl

  pub value-absent : None ≡ bytes → value_in (tables_after shape commits version) t r column ≡ None
  value-absent none =
      value-columns (kinds_in now t) refl
      ∙ ap (λ found. option_and_then (λ values. slice_get values column)
      (option_map (λ row. values_of (kinds_in now t) (wide blank row)) found)) (sym none)

  -- a row that is there: with the newest blank row behind its bytes, it begins as with that of the version
  module _ (kinds : List Kind) (found : List ℕ) (of_table : Some kinds ≡ slice_get now t) (there : Some found ≡ bytes)
      (within : t < length shape) where
    columns : kinds_in now t ≡ kinds
    columns = rw (← of_table) refl

    narrow : length found ≤ length blank
    narrow = subst (λ found. IfSome found (λ row. length row ≤ length blank)) (sym there) told.narrow

    as-wide : length blank ≡ row_width kinds
    as-wide = told.blank_wide ∙ ap row_width columns

    -- what later columns add to the blank row
    abbrev more : List ℕ
    more = flat_map value_bytes (defaults_of t (drop version commits))

    newest : blank_at tables t ≡ blank ++ more
    newest = kept-newest shape commits tables t sound.columns within ∙ beginning t version (blank_in shape t) commits

    longer : wide (blank_at tables t) found ≡ wide blank found ++ more
    longer = ap (λ blank. wide blank found) newest ∙ wide-more blank found more narrow

    full : length (wide blank found) ≡ row_width kinds
    full = length-wide blank found narrow ∙ as-wide

    pub value-there : value_in (tables_after shape commits version) t r column
        ≡ slice_get (values_of kinds (wide (blank_at tables t) found)) column
    value-there =
        value-columns kinds columns
        ∙ ap (λ found. option_and_then (λ values. slice_get values column) (option_map (λ row. values_of kinds (wide blank row)) found))
        (sym there)
        ∙ ap (λ values. slice_get values column)
        (sym (ap (values_of kinds) longer ∙ values-front tells kinds (wide blank found) more (omega (arith, full))))

    pub wide-there : row_width kinds ≤ length (wide (blank_at tables t) found)
    wide-there = omega (arith, ap length longer, length-append (wide blank found) more, full)

    pub narrow-there : length (wide (blank_at tables t) found) ≡ length (blank_at tables t)
    narrow-there = length-wide (blank_at tables t) found (omega (arith, narrow, ap length newest, length-append blank more))

-- a table that is there at a version is there
pub table-there : (fits : EachFits) (tell : VersionsTellKinds) (shape : Shape) (commits : List Commit) (chains : Chains)
    (tables : List TableColumns) (last : List ℕ) (version t : ℕ) (kinds : List Kind) → AreVersions shape commits chains tables last
    → Some kinds ≡ slice_get (shape_in (tables_after shape commits version)) t → t < length shape
table-there fits tell shape commits chains tables last version t kinds sound there =
    by (slice_get shape t) refl
    (there ∙ sym (kinds-kept fits tell shape commits tables version t sound.legal sound.columns)
    ∙ ap (option_map (kinds_upto version)) (sound.columns t))
  where
    by : (found : Option (List Kind)) → slice_get shape t ≡ found
        → Some kinds ≡ option_map (kinds_upto version) (option_map (columns_of t commits) (slice_get shape t)) → t < length shape
    by (Some first) e h = slice_get_within shape t first e
    by None e h =
        let none : Some kinds ≡ None =
        h ∙ ap (λ found. option_map (kinds_upto version) (option_map (columns_of t commits) found)) e in
        absurd cc

-- the newest blank row is as wide as a row may be
pub blank-narrow : (law : RowsHaveBytes) (fits : EachFits) (tell : VersionsTellKinds) (limits : LimitsStay) (shape : Shape)
    (commits : List Commit) (chains : Chains) (tables : List TableColumns) (last : List ℕ) (t : ℕ)
    → AreVersions shape commits chains tables last → AreTables shape → t < length shape → length (blank_at tables t) ≤ row_width_max
blank-narrow law fits tell limits shape commits chains tables last t sound are within =
    let version = length commits in
    let now = shape_in (tables_after shape commits version) in
    let kinds = kinds_upto version (columns_of t commits (kinds_in shape t)) in
    let told = row-kept law shape commits chains version t 0 sound.legal sound.valued sound.kept in
    let all : blank_at tables t ≡ blank_after_commits t (blank_in shape t) (take version commits) =
    kept-newest shape commits tables t sound.columns within
    ∙ ap (blank_after_commits t (blank_in shape t)) (sym (take_all version commits (omega arith))) in
    let there : slice_get now t ≡ Some kinds =
    sym (kinds-kept fits tell shape commits tables version t sound.legal sound.columns)
    ∙ ap (option_map (kinds_upto version)) (sound.columns t ∙ ap (option_map (columns_of t commits)) (found-there shape t within)) in
    let columns : kinds_in now t ≡ kinds = rw there refl in
    omega (
      arith,
      ap length all,
      told.blank_wide,
      ap row_width columns,
      (bounds-at tell limits shape commits version t kinds sound.legal are there).1.narrow,
    )

-- what holds of all holds of the last
of-last : {X : Type 0} (P : X → Type 0) (xs : List X) (x : X) → AllByRecursion P (xs ++ x ∷ []) → P x
of-last P [] x all = all.0
of-last P (first ∷ xs) x all = of-last P xs x all.1

-- the next commit, where it is defined, can be linked
pub linkable : (law : OneMoreIsDefined) (there : EachHasTable) (shape : Shape) (commits : List Commit) (chains : Chains)
    (tables : List TableColumns) (last : List ℕ) (commit : Commit) → AreVersions shape commits chains tables last
    → is_ok (apply_entries (tables_after shape commits (length commits)) commit.entries) ≡ true
    → AreLinkable shape commits commit.entries tables chains
linkable law there shape commits chains tables last commit versions defined = record {
  kept = versions.kept;
  columns = versions.columns;
  there = of-last (λ (commit : Commit). AllByRecursion (λ entry. table_of entry < length shape) commit.entries) commits commit
      (there shape (commits ++ commit ∷ []) (law shape commits commit versions.legal defined));
}

-- the columns once they were put back, where there was a copy
pub restored : (entries : List Entry) (copy : Option (List TableColumns)) (columns linked : List TableColumns)
    → copy ≡ cond (list_any adds_column entries) (Some columns) None → (list_any adds_column entries ≡ false → linked ≡ columns)
    → unwrap_or copy linked ≡ columns
restored entries copy columns linked is stay = ap (λ copy. unwrap_or copy linked) is ∙ by (list_any adds_column entries) refl
  where
    by : (adds : Bool) → list_any adds_column entries ≡ adds → unwrap_or (cond adds (Some columns) None) linked ≡ columns
    by true e = refl
    by false e = stay e

-- with one more commit
valued-push : (commits : List Commit) (commit : Commit) → HaveValues commits → AllByRecursion HasValue commit.entries
    → HaveValues (commits ++ commit ∷ [])
valued-push [] commit all has = (has, tt)
valued-push (first ∷ commits) commit all has = (all.0, valued-push commits commit all.1 has)

pub versions-push : (law : OneMoreIsDefined) (shape : Shape) (commits : List Commit) (before after : Chains) (columns : List TableColumns)
    (last : List ℕ) (commit : Commit)
    → AreVersions shape commits before columns last
    → is_ok (apply_entries (tables_after shape commits (length commits)) commit.entries) ≡ true
    → AllByRecursion HasValue commit.entries → AreChains shape (and_entries commits commit.entries) after
    → AreVersions shape (commits ++ commit ∷ []) after (columns_after (length commits + 1) commit.entries columns)
    (last_after (length commits + 1) commit.entries last)
versions-push law shape commits before after columns last commit versions defined has kept = record {
  legal = law shape commits commit versions.legal defined;
  valued = valued-push commits commit versions.valued has;
  kept = λ t r. kept t r ∙ sym (and_entries-commit t r (blank_in shape t) commits commit);
  columns = columns-push shape commits columns commit versions.columns;
  last = last-push shape commits last commit versions.last;
}

pub is_some-map : {X Y : Type 0} (f : X → Y) (o : Option X) → is_some (option_map f o) ≡ is_some o
is_some-map f None = refl
is_some-map f (Some x) = refl
