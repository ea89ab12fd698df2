-- Blank rows: what entries and commits add to them, and what stands in a row once they are behind its bytes.
use Rattle.std.proofs.Common.{◌≡◌, ℕ, zero, suc, Bool, true, false, subst, ◌+◌, ◌<◌, ◌≤◌, cond, ◌==◌, List, [], ◌∷◌, ◌++◌, length, take}
use Rattle.std.proofs.Common.{drop, get_or}
use Rattle.std.proofs.Common.{Some, slice_get, refl, sym, ap, ◌∙◌, arith, append_assoc, append-nil}
use Rattle.std.specs.List.{flat_map, AllByRecursion}
use Rattle.std.specs.Option.{option_map}
use Rattle.std.proofs.lemmas.List.{take_more, take-append-drop, take-append-le, drop-append-le, length-drop}
use Rattle.std.proofs.lemmas.List.Concat.{flat_map-append}
use Rattle.std.proofs.lemmas.List.Sums.{sum_by-cons}
use Rattle.rows.specs.declared.commit.Commit.{Commit}
use Rattle.rows.specs.declared.entry.Entry.{Entry}
use Rattle.rows.specs.declared.entry.Entry.TheVariants.{Insert, Patch, Delete, AddColumn}
use Rattle.rows.specs.declared.kind.Kind.{Kind}
use Rattle.rows.specs.Laws.{WidthTellsValue}
use Rattle.rows.specs.Shape.{Shape, kinds_in, width_of, row_width}
use Rattle.rows.specs.Values.{value_of, values_of, value_bytes}
use Rattle.mvcc.specs.Inner.Columns.{TableColumns, extended, columns_of, columns_after, defaults_one, defaults_in, defaults_of}
use Rattle.mvcc.specs.Inner.Columns.{AreColumnsOf, blank_at}
use Rattle.mvcc.specs.Inner.RowBytes.{blank_in, blank_after_one, blank_after, blank_after_commits, HasValue}
use Rattle.mvcc.proofs.TableCommits.{after-all}

-- ---- what entries add

one-adds : (table : ℕ) (blank : List ℕ) (entry : Entry)
    → blank_after_one table blank entry ≡ blank ++ flat_map value_bytes (defaults_one table entry)
one-adds table blank (Insert at row bytes) = sym (append-nil blank)
one-adds table blank (Patch at row offset bytes) = sym (append-nil blank)
one-adds table blank (Delete at row) = sym (append-nil blank)
one-adds table blank (AddColumn at default) = by (at == table)
  where
    by : (here : Bool) → cond here (blank ++ value_bytes default) blank ≡ blank ++ flat_map value_bytes (cond here (default ∷ []) [])
    by true = ap (λ more. blank ++ more) (sym (append-nil (value_bytes default)))
    by false = sym (append-nil blank)

entries-add : (table : ℕ) (blank : List ℕ) (entries : List Entry)
    → blank_after table blank entries ≡ blank ++ flat_map value_bytes (defaults_in table entries)
entries-add table blank [] = sym (append-nil blank)
entries-add table blank (entry ∷ entries) =
    entries-add table (blank_after_one table blank entry) entries
    ∙ ap (λ front. front ++ flat_map value_bytes (defaults_in table entries)) (one-adds table blank entry)
    ∙ append_assoc blank (flat_map value_bytes (defaults_one table entry)) (flat_map value_bytes (defaults_in table entries))
    ∙ ap (λ more. blank ++ more) (sym (flat_map-append value_bytes (defaults_one table entry) (defaults_in table entries)))

commits-add : (table : ℕ) (blank : List ℕ) (commits : List Commit)
    → blank_after_commits table blank commits ≡ blank ++ flat_map value_bytes (defaults_of table commits)
commits-add table blank [] = sym (append-nil blank)
commits-add table blank (commit ∷ commits) =
    let own = defaults_in table commit.entries in
    commits-add table (blank_after table blank commit.entries) commits
    ∙ ap (λ front. front ++ flat_map value_bytes (defaults_of table commits)) (entries-add table blank commit.entries)
    ∙ append_assoc blank (flat_map value_bytes own) (flat_map value_bytes (defaults_of table commits))
    ∙ ap (λ more. blank ++ more) (sym (flat_map-append value_bytes own (defaults_of table commits)))

-- the blank row at a version is the front of the newest
pub beginning : (table version : ℕ) (blank : List ℕ) (commits : List Commit)
    → blank_after_commits table blank commits
    ≡ blank_after_commits table blank (take version commits) ++ flat_map value_bytes (defaults_of table (drop version commits))
beginning table version blank commits =
    let first = take version commits in
    let others = drop version commits in
    commits-add table blank commits
    ∙ ap (λ all. blank ++ flat_map value_bytes (defaults_of table all)) (sym (take-append-drop version commits))
    ∙ ap (λ defaults. blank ++ flat_map value_bytes defaults)
    (flat_map-append (λ (commit : Commit). defaults_in table commit.entries) first others)
    ∙ ap (λ more. blank ++ more) (flat_map-append value_bytes (defaults_of table first) (defaults_of table others))
    ∙ sym (append_assoc blank (flat_map value_bytes (defaults_of table first)) (flat_map value_bytes (defaults_of table others)))
    ∙ ap (λ front. front ++ flat_map value_bytes (defaults_of table others)) (sym (commits-add table blank first))

-- ---- what is kept

pub found-there : (shape : Shape) (table : ℕ) → table < length shape → slice_get shape table ≡ Some (kinds_in shape table)
found-there [] table h = absurd (omega arith)
found-there (kinds ∷ shape) zero h = refl
found-there (kinds ∷ shape) (suc table) h = found-there shape table (omega arith)

-- the blank row that is kept of a table, once entries behind the commits have added to its columns
pub kept-after : (shape : Shape) (commits : List Commit) (tables : List TableColumns) (number table : ℕ) (entries : List Entry)
    → AreColumnsOf shape commits tables → table < length shape
    → blank_at (columns_after number entries tables) table
    ≡ blank_after table (blank_after_commits table (blank_in shape table) commits) entries
kept-after shape commits tables number table entries are there =
    let kinds = kinds_in shape table in
    let found : slice_get (columns_after number entries tables) table
    ≡ Some (extended number (defaults_in table entries) (columns_of table commits kinds)) =
    after-all number table entries tables
    ∙ ap (option_map (extended number (defaults_in table entries)))
    (are table ∙ ap (option_map (columns_of table commits)) (found-there shape table there)) in
    rw found
    (ap (λ front. front ++ flat_map value_bytes (defaults_in table entries)) (sym (commits-add table (blank_in shape table) commits))
    ∙ sym (entries-add table (blank_after_commits table (blank_in shape table) commits) entries))

-- and that of the newest columns
pub kept-newest : (shape : Shape) (commits : List Commit) (tables : List TableColumns) (table : ℕ) → AreColumnsOf shape commits tables
    → table < length shape → blank_at tables table ≡ blank_after_commits table (blank_in shape table) commits
kept-newest shape commits tables table are there = kept-after shape commits tables 0 table [] are there

-- ---- what stands in a row

-- the values of columns depend on the front of a row alone
pub values-front : (tells : WidthTellsValue) (kinds : List Kind) (row more : List ℕ) → row_width kinds ≤ length row
    → values_of kinds (row ++ more) ≡ values_of kinds row
values-front tells [] row more h = refl
values-front tells (first ∷ kinds) row more h =
    let whole = sum_by-cons width_of first kinds in
    let long : width_of first ≤ length row = omega (arith, h, whole) in
    ap (λ value. value ∷ values_of kinds (drop (width_of first) (row ++ more)))
    (tells first (row ++ more) row (take-append-le (width_of first) row more long))
    ∙ ap (λ rest. value_of first row ∷ values_of kinds rest) (drop-append-le (width_of first) row more long)
    ∙ ap (λ values. value_of first row ∷ values)
    (values-front tells kinds (drop (width_of first) row) more (omega (arith, h, whole, length-drop (width_of first) row)))

-- ---- values of added columns

all-push : (P : Entry → Type 0) (entries : List Entry) (entry : Entry) → AllByRecursion P entries → P entry
    → AllByRecursion P (entries ++ entry ∷ [])
all-push P [] entry all one = (one, tt)
all-push P (first ∷ entries) entry all one = (all.0, all-push P entries entry all.1 one)

pub valued-more : (entries : List Entry) (i : ℕ) (entry : Entry) → i < length entries → entry ≡ get_or entries i entry
    → AllByRecursion HasValue (take i entries) → HasValue entry → AllByRecursion HasValue (take (i + 1) entries)
valued-more entries i entry within is all one =
    subst (AllByRecursion HasValue)
    (sym (take_more entries i entry within ∙ ap (λ (last : Entry). take i entries ++ last ∷ []) (sym is)))
    (all-push HasValue (take i entries) entry all one)
