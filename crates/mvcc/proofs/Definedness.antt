-- Which entries are defined at a version, one behind the other.
use Rattle.std.proofs.Common.{◌≡◌, ◌+◌, ◌<◌, ℕ, zero, suc, Bool, true, false, ◌&&◌, List, [], ◌∷◌, ◌++◌, length, take, drop, get_or}
use Rattle.std.proofs.Common.{cond, slice_get, Option, None, Some, refl, sym, ap, ◌∙◌}
use Rattle.std.specs.List.{AllByRecursion}
use Rattle.std.specs.Result.{is_ok}
use Rattle.std.proofs.lemmas.List.{take_more, take-append-drop}
use Rattle.rows.specs.declared.entry.Entry.{Entry}
use Rattle.rows.specs.Shape.{Shape, shape_of}
use Rattle.rows.specs.declared.entry.Entry.TheVariants.{Insert, Patch, Delete, AddColumn}
use Rattle.rows.specs.declared.row_id.RowId.{RowId}
use Rattle.rows.specs.Entries.{table_of, row_of, fitting_in, fitting, shape_after}
use Rattle.std.specs.List.{list_any}
use Rattle.std.proofs.lemmas.Bool.{or_parts}
use Rattle.mvcc.specs.Inner.Keys.{of_row, adds_column, AreOfRows}
use Rattle.mvcc.proofs.Effects.{kept}
use Rattle.std.specs.Option.{option_map}
use Rattle.rows.specs.declared.kind.Kind.{Kind}
use Rattle.mvcc.specs.Inner.Columns.{kinds_after}
use Rattle.mvcc.proofs.KindsUpto.{after-entries}
use Rattle.mvcc.proofs.Keys.{of-own, of-any}
use Rattle.rows.specs.Tables.{Tables, shape_in, is_row_at}
use Rattle.rows.specs.Presence.{stands_for, is_there_after}
use Rattle.rows.specs.Spelling.{HasSpelling}
use Rattle.rows.specs.ListLaws.{OneMoreEntryIsDefined, UndefinedStayUndefined}
use Rattle.mvcc.specs.VersionList.{VersionList, tables_at, defined_at}
use Rattle.mvcc.specs.Inner.RowsTold.{Told, there_in, IsToldAfter}

-- one that adds a column stands in any case
stands-any : (entry : Entry) (there other : Bool) → row_of entry ≡ None → stands_for entry there ≡ stands_for entry other
stands-any (Insert table row bytes) there other e = absurd cc
stands-any (Patch table row offset bytes) there other e = absurd cc
stands-any (Delete table row) there other e = absurd cc
stands-any (AddColumn table default) there other e = refl

-- what is told of entries
module _ (longer : OneMoreEntryIsDefined) (versions : VersionList) (version : ℕ) where
  -- the tables at the version
  abbrev tables : Tables
  tables = tables_at versions version

  -- whether the row of an entry is there after these entries
  abbrev pub stands_behind : List Entry → Entry → Bool
  stands_behind before entry =
      of_row (row_of entry) (λ row. is_there_after (table_of entry) row before (is_row_at tables (table_of entry) row))

  -- an entry is defined behind others where it fits the kinds after those, and its row stands as it needs it
  pub defined_at_push : (before : List Entry) (entry : Entry) → defined_at versions version before ≡ true
      → defined_at versions version (before ++ entry ∷ [])
      ≡ (is_ok (fitting (shape_after (shape_in tables) before) entry) && stands_for entry (stands_behind before entry))
  defined_at_push before entry h = by (row_of entry) refl
    where
      by : (found : Option RowId) → row_of entry ≡ found
          → defined_at versions version (before ++ entry ∷ [])
          ≡ (is_ok (fitting (shape_after (shape_in tables) before) entry) && stands_for entry (stands_behind before entry))
      by (Some id) e =
          longer (shape_of versions.schema) versions.commits version before entry (table_of entry) id.0 (of-own entry id e) h
          ∙ ap (λ found. is_ok (fitting (shape_after (shape_in tables) before) entry) && stands_for entry
          (of_row found (λ row. is_there_after (table_of entry) row before (is_row_at tables (table_of entry) row)))) (sym e)
      by None e =
          longer (shape_of versions.schema) versions.commits version before entry (table_of entry) 0 (of-any 0 entry e) h
          ∙ ap (λ stands. is_ok (fitting (shape_after (shape_in tables) before) entry) && stands) (stands-any entry _ _ e)

  -- the next entry is defined behind those before it where it fits the kinds there, and its row stands as it needs it
  pub defined-more : (entries : List Entry) (i : ℕ) (entry : Entry) (there : Bool) (shape : Shape)
      → i < length entries
      → entry ≡ get_or entries i entry
      → defined_at versions version (take i entries) ≡ true
      → there ≡ stands_behind (take i entries) entry
      → shape_after (shape_in tables) (take i entries) ≡ shape
      → defined_at versions version (take (i + 1) entries) ≡ (is_ok (fitting shape entry) && stands_for entry there)
  defined-more entries i entry there shape h e defined is_there kinds =
      let front : take (i + 1) entries ≡ take i entries ++ entry ∷ [] =
      take_more entries i entry h ∙ ap (λ x. take i entries ++ x ∷ []) (sym e) in
      ap (defined_at versions version) front
      ∙ defined_at_push (take i entries) entry defined
      ∙ ap (λ s. is_ok (fitting s entry) && stands_for entry (stands_behind (take i entries) entry)) kinds
      ∙ ap (λ b. is_ok (fitting shape entry) && stands_for entry b) (sym is_there)

  -- where it is not, all are not
  pub not_defined-more : (undefined : UndefinedStayUndefined) (entries : List Entry) (i : ℕ) (entry : Entry) (there : Bool)
      (shape : Shape)
      → i < length entries
      → entry ≡ get_or entries i entry
      → defined_at versions version (take i entries) ≡ true
      → there ≡ stands_behind (take i entries) entry
      → shape_after (shape_in tables) (take i entries) ≡ shape
      → false ≡ (is_ok (fitting shape entry) && stands_for entry there) → false ≡ defined_at versions version entries
  not_defined-more undefined entries i entry there shape h e defined is_there kinds none =
      sym
      (ap (defined_at versions version) (sym (take-append-drop (i + 1) entries))
      ∙ undefined tables (take (i + 1) entries) (drop (i + 1) entries)
      (defined-more entries i entry there shape h e defined is_there kinds ∙ sym none))

-- an entry fits the kinds behind others where it fits those that they make of its table's
pub fits-behind : (shape : Shape) (table : ℕ) (kinds behind : List Kind) (before : List Entry) (entry : Entry) → table ≡ table_of entry
    → Some kinds ≡ slice_get shape table → behind ≡ kinds_after table kinds before
    → fitting (shape_after shape before) entry ≡ fitting_in (Some behind) entry
fits-behind shape table kinds behind before entry of_table there is =
    ap (λ t. fitting_in (slice_get (shape_after shape before) t) entry) (sym of_table)
    ∙ ap (λ found. fitting_in found entry)
    (after-entries shape table before ∙ ap (option_map (λ kinds. kinds_after table kinds before)) (sym there) ∙ ap Some (sym is))

-- and none where its table is not there
pub fits-none : (shape : Shape) (table : ℕ) (before : List Entry) (entry : Entry) → table ≡ table_of entry → None ≡ slice_get shape table
    → is_ok (fitting (shape_after shape before) entry) ≡ false
fits-none shape table before entry of_table none =
    ap is_ok (ap (λ t. fitting_in (slice_get (shape_after shape before) t) entry) (sym of_table)
    ∙ ap (λ found. fitting_in found entry)
    (after-entries shape table before ∙ ap (option_map (λ kinds. kinds_after table kinds before)) (sym none)))
    ∙ by entry
  where
    by : (entry : Entry) → is_ok (fitting_in None entry) ≡ false
    by (Insert table row bytes) = refl
    by (Patch table row offset bytes) = refl
    by (Delete table row) = refl
    by (AddColumn table default) = refl

-- entries of which none adds a column are of rows, and so are the first of them
of-any_added : (entries : List Entry) → false ≡ list_any adds_column entries → AreOfRows entries
of-any_added [] h = tt
of-any_added (entry ∷ entries) h =
    let parts = or_parts (adds_column entry) (list_any adds_column entries) (sym h) in
    (parts.0, of-any_added entries (sym parts.1))

of-take : (i : ℕ) (entries : List Entry) → AreOfRows entries → AreOfRows (take i entries)
of-take zero [] h = tt
of-take zero (entry ∷ entries) h = tt
of-take (suc i) [] h = tt
of-take (suc i) (entry ∷ entries) h = (h.0, of-take i entries h.1)

-- they leave the kinds
kinds-stay : (shape : Shape) (entries : List Entry) (i : ℕ) → AreOfRows entries → shape_after shape (take i entries) ≡ shape
kinds-stay shape entries i h = kept shape (take i entries) (of-take i entries h)

-- the kinds behind the first entries are those behind as many of them as matter
pub kinds-before : (shape : Shape) (entries before : List Entry) (i : ℕ) (grows : Bool) → grows ≡ list_any adds_column entries
    → before ≡ cond grows (take i entries) [] → shape_after shape (take i entries) ≡ shape_after shape before
kinds-before shape entries before i true h e = ap (shape_after shape) (sym e)
kinds-before shape entries before i false h e =
    kinds-stay shape entries i (of-any_added entries h) ∙ ap (shape_after shape) (sym e)

-- what is told of the row of the next entry is what the entries before it leave
pub told-there : (versions : VersionList) (version : ℕ) (entries : List Entry) (told : Told) (entry : Entry) (there : Bool)
    → IsToldAfter versions version entries told
    → there ≡ of_row (row_of entry)
    (λ row. there_in told (table_of entry) row (is_row_at (tables_at versions version) (table_of entry) row))
    → there ≡ of_row (row_of entry)
    (λ row. is_there_after (table_of entry) row entries (is_row_at (tables_at versions version) (table_of entry) row))
told-there versions version entries told entry there are is_there = is_there ∙ by (row_of entry)
  where
    by : (found : Option RowId) → of_row found
        (λ row. there_in told (table_of entry) row (is_row_at (tables_at versions version) (table_of entry) row)) ≡ of_row found
        (λ row. is_there_after (table_of entry) row entries (is_row_at (tables_at versions version) (table_of entry) row))
    by None = refl
    by (Some id) = are.each (table_of entry) id.0

-- the spellings of those before the next entry, and its own
spelled-push : (entries : List Entry) (entry : Entry) → AllByRecursion HasSpelling entries → HasSpelling entry
    → AllByRecursion HasSpelling (entries ++ entry ∷ [])
spelled-push [] entry all one = (one, tt)
spelled-push (first ∷ entries) entry all one = (all.0, spelled-push entries entry all.1 one)

pub spelled-more : (entries : List Entry) (i : ℕ) (entry : Entry) → i < length entries → entry ≡ get_or entries i entry
    → AllByRecursion HasSpelling (take i entries) → HasSpelling entry → AllByRecursion HasSpelling (take (i + 1) entries)
spelled-more entries i entry h e all one =
    let front : take (i + 1) entries ≡ take i entries ++ entry ∷ [] =
    take_more entries i entry h ∙ ap (λ x. take i entries ++ x ∷ []) (sym e) in
    rw front (spelled-push (take i entries) entry all one)
