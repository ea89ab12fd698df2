-- The tables at each version have an image: their columns begin with those of the opening, their rows rise, and each row's values can
-- be read back.
use Rattle.std.proofs.Common.{◌≡◌, ℕ, zero, suc, ◌^◌, ◌<◌, Bool, true, false, cond, not, ◌==◌, List, [], ◌∷◌, ◌++◌}
use Rattle.std.proofs.Common.{length, take, drop}
use Rattle.std.proofs.Common.{Option, None, Some, Ok, Err, Ordering, Less, Equal, Greater, slice_get, refl, sym, ap, subst, ◌∙◌, arith}
use Rattle.std.proofs.Common.{append-nil, append_assoc}
use Rattle.std.specs.List.{AllByRecursion}
use Rattle.std.specs.Map.{lookup, set_value}
use Rattle.std.specs.BTreeMap.{is_at}
use Rattle.std.specs.Option.{unwrap_or}
use Rattle.std.specs.Ordering.{nat_cmp, match_ordering}
use Rattle.std.specs.Result.{is_ok}
use Rattle.std.proofs.lemmas.Bool.Decides.{nat_tests}
use Rattle.std.proofs.lemmas.List.{length-map, take_at, drop_at}
use Rattle.std.proofs.lemmas.Option.{same_Some, none-some}
use Rattle.rows.specs.declared.commit.Commit.{Commit}
use Rattle.rows.specs.declared.entry.Entry.{Entry}
use Rattle.rows.specs.declared.entry.Entry.TheVariants.{Insert, Patch, Delete, AddColumn}
use Rattle.rows.specs.declared.faults.EntryFault.{EntryFault}
use Rattle.rows.specs.declared.faults.EntryFault.TheVariants.{WrongSize}
use Rattle.rows.specs.declared.kind.Kind.{Kind}
use Rattle.rows.specs.declared.value.Value.{Value}
use Rattle.rows.specs.Commits.{tables_after}
use Rattle.rows.specs.Entries.{has_room, addable}
use Rattle.rows.specs.ImageLaws.{HaveRoom, Rise, AreReadBack, HasImage, AreSpelled, VersionsRise, VersionsHaveImages}
use Rattle.rows.specs.Shape.{Shape, kinds_in}
use Rattle.rows.specs.Spelling.{AreBytes, HasSpelling}
use Rattle.rows.specs.Tables.{Rows, Table, Tables, opening, shape_in, kinds_of, rows_of, row_at, with_row, with_patch, without_row}
use Rattle.rows.specs.Tables.{with_column, patched_row, is_fit, apply_entry, made}
use Rattle.rows.specs.Values.{values_of, kind_of}
use Rattle.rows.proofs.Kept.{hold-any, version-keeps, EachTable, placed}
use Rattle.rows.proofs.Presence.{renewed, wider, shape_in-opening, fit-within, apply_entry-parts, Turns-change}
use Rattle.rows.proofs.ReadBack.{Each, found-each, column-back, each-more, each-back, patched-each}
use Rattle.rows.proofs.ValueKinds.{sized-wide}
use Rattle.rows.proofs.Widening.{length-shape_after_one}

-- ---- what holds of the identifiers of rows

module _ (P : ℕ → Type 0) where
  abbrev Ids : Rows → Type 0
  Ids rows = AllByRecursion (λ row. P row.0) rows

  ids-with : (rows : Rows) (row : ℕ) (values : List Value) → P row → Ids rows → Ids (with_row rows row values)
  ids-with [] row values p ids = (p, tt)
  ids-with (one ∷ rows) row values p ids = by (ids-with rows row values p ids.1) (nat_cmp row one.0)
    where
      by : Ids (with_row rows row values) → (o : Ordering)
          → Ids (match_ordering o ((row, values) ∷ one ∷ rows) ((one.0, values) ∷ rows) (one ∷ with_row rows row values))
      by rest Less = (p, ids)
      by rest Equal = ids
      by rest Greater = (ids.0, rest)

  ids-set : (test : ℕ → Bool) (rows : Rows) (values : List Value) → Ids rows → Ids (set_value test rows values)
  ids-set test [] values ids = tt
  ids-set test (one ∷ rows) values ids = by (test one.0) (ids-set test rows values ids.1)
    where
      by : (here : Bool) → Ids (set_value test rows values) → Ids (cond here ((one.0, values) ∷ rows) (one ∷ set_value test rows values))
      by true rest = ids
      by false rest = (ids.0, rest)

  ids-without : (row : ℕ) (rows : Rows) → Ids rows → Ids (without_row rows row)
  ids-without row [] ids = tt
  ids-without row (one ∷ rows) ids = by (not (one.0 == row)) (ids-without row rows ids.1)
    where
      by : (stays : Bool) → Ids (without_row rows row) → Ids (cond stays (one ∷ without_row rows row) (without_row rows row))
      by true rest = (ids.0, rest)
      by false rest = rest

  ids-column : (default : Value) (rows : Rows) → Ids rows → Ids (with_column default rows)
  ids-column default [] ids = tt
  ids-column default (one ∷ rows) ids = (ids.0, ids-column default rows ids.1)

-- ---- rows rise

less-is : (a b : ℕ) → nat_cmp a b ≡ Less → a < b
less-is a b e = grind (arith, nat_tests)

greater-is : (a b : ℕ) → nat_cmp a b ≡ Greater → b < a
greater-is a b e = grind (arith, nat_tests)

lower : (low high : ℕ) (rows : Rows) → low < high → AllByRecursion (λ row. high < row.0) rows → AllByRecursion (λ row. low < row.0) rows
lower low high [] below above = tt
lower low high (row ∷ rows) below above = (omega (arith, below, above.0), lower low high rows below above.1)

rise-with : (rows : Rows) (row : ℕ) (values : List Value) → Rise rows → Rise (with_row rows row values)
rise-with [] row values rise = (tt, tt)
rise-with (one ∷ rows) row values rise = by (rise-with rows row values rise.1) (nat_cmp row one.0) refl
  where
    by : Rise (with_row rows row values) → (o : Ordering) → nat_cmp row one.0 ≡ o
        → Rise (match_ordering o ((row, values) ∷ one ∷ rows) ((one.0, values) ∷ rows) (one ∷ with_row rows row values))
    by rest Less e =
        let below = less-is row one.0 e in
        ((below, lower row one.0 rows below rise.0), rise)
    by rest Equal e = rise
    by rest Greater e = (ids-with (λ (other : ℕ). one.0 < other) rows row values (greater-is row one.0 e) rise.0, rest)

rise-set : (test : ℕ → Bool) (rows : Rows) (values : List Value) → Rise rows → Rise (set_value test rows values)
rise-set test [] values rise = tt
rise-set test (one ∷ rows) values rise =
    by (test one.0) (ids-set (λ (other : ℕ). one.0 < other) test rows values rise.0) (rise-set test rows values rise.1)
  where
    by : (here : Bool) → AllByRecursion (λ other. one.0 < other.0) (set_value test rows values) → Rise (set_value test rows values)
        → Rise (cond here ((one.0, values) ∷ rows) (one ∷ set_value test rows values))
    by true above rest = rise
    by false above rest = (above, rest)

rise-patch : (columns : List Kind) (rows : Rows) (row offset : ℕ) (bytes : List ℕ) → Rise rows
    → Rise (with_patch columns rows row offset bytes)
rise-patch columns rows row offset bytes rise = by (row_at rows row) refl
  where
    by : (found : Option (List Value)) → row_at rows row ≡ found → Rise (with_patch columns rows row offset bytes)
    by None e = rw e rise
    by (Some values) e = rw e (rise-set (is_at (nat_cmp row)) rows (patched_row columns offset bytes values) rise)

rise-without : (row : ℕ) (rows : Rows) → Rise rows → Rise (without_row rows row)
rise-without row [] rise = tt
rise-without row (one ∷ rows) rise =
    by (not (one.0 == row)) (ids-without (λ (other : ℕ). one.0 < other) row rows rise.0) (rise-without row rows rise.1)
  where
    by : (stays : Bool) → AllByRecursion (λ other. one.0 < other.0) (without_row rows row) → Rise (without_row rows row)
        → Rise (cond stays (one ∷ without_row rows row) (without_row rows row))
    by true above rest = (above, rest)
    by false above rest = rest

rise-column : (default : Value) (rows : Rows) → Rise rows → Rise (with_column default rows)
rise-column default [] rise = tt
rise-column default (one ∷ rows) rise =
    (ids-column (λ (other : ℕ). one.0 < other) default rows rise.0, rise-column default rows rise.1)

abbrev RiseAt : ℕ → List Kind → Rows → Type 0
RiseAt table columns rows = Rise rows

rise-made : (tables after : Tables) (entry : Entry) → Unit {0} → apply_entry tables entry ≡ Ok after → EachTable RiseAt tables
    → EachTable RiseAt after
rise-made tables after entry any h rise =
    let parts = apply_entry-parts tables after entry h in
    subst (EachTable RiseAt) parts.2 (by entry parts.0)
  where
    by : (entry : Entry) → is_fit tables entry ≡ true → EachTable RiseAt (made tables entry)
    by (Insert table row bytes) fits =
        let rows = with_row (rows_of tables table) row.0 (values_of (kinds_of tables table) bytes) in
        placed RiseAt tables table (renewed tables table rows) (fit-within tables (Insert table row bytes) fits) rise
        (rise-with (rows_of tables table) row.0 (values_of (kinds_of tables table) bytes) (rise table))
    by (Patch table row offset bytes) fits =
        let rows = with_patch (kinds_of tables table) (rows_of tables table) row.0 offset bytes in
        placed RiseAt tables table (renewed tables table rows) (fit-within tables (Patch table row offset bytes) fits) rise
        (rise-patch (kinds_of tables table) (rows_of tables table) row.0 offset bytes (rise table))
    by (Delete table row) fits =
        placed RiseAt tables table (renewed tables table (without_row (rows_of tables table) row.0))
        (fit-within tables (Delete table row) fits) rise (rise-without row.0 (rows_of tables table) (rise table))
    by (AddColumn table default) fits =
        placed RiseAt tables table (wider tables table default) (fit-within tables (AddColumn table default) fits) rise
        (rise-column default (rows_of tables table) (rise table))

-- at the opening there are no rows
no-rows : (shape : Shape) (table : ℕ) → rows_of (opening shape) table ≡ []
no-rows [] table = refl
no-rows (columns ∷ shape) zero = refl
no-rows (columns ∷ shape) (suc table) = no-rows shape table

pub versions-rise : VersionsRise
versions-rise shape commits version =
    version-keeps (λ (entry : Entry). Unit {0}) (EachTable RiseAt) rise-made shape commits version (hold-any commits)
    (λ table. subst Rise (sym (no-rows shape table)) tt)

-- ---- what holds of the values of rows

module _ (P : List Value → Type 0) where
  abbrev AllOf : Rows → Type 0
  AllOf rows = AllByRecursion (λ row. P row.1) rows

  all-with : (rows : Rows) (row : ℕ) (values : List Value) → AllOf rows → P values → AllOf (with_row rows row values)
  all-with [] row values h p = (p, tt)
  all-with (one ∷ rows) row values h p = by (all-with rows row values h.1 p) (nat_cmp row one.0)
    where
      by : AllOf (with_row rows row values) → (o : Ordering)
          → AllOf (match_ordering o ((row, values) ∷ one ∷ rows) ((one.0, values) ∷ rows) (one ∷ with_row rows row values))
      by rest Less = (p, h)
      by rest Equal = (p, h.1)
      by rest Greater = (h.0, rest)

  all-set : (test : ℕ → Bool) (rows : Rows) (values : List Value) → AllOf rows → P values → AllOf (set_value test rows values)
  all-set test [] values h p = tt
  all-set test (one ∷ rows) values h p = by (test one.0) (all-set test rows values h.1 p)
    where
      by : (here : Bool) → AllOf (set_value test rows values)
          → AllOf (cond here ((one.0, values) ∷ rows) (one ∷ set_value test rows values))
      by true rest = (p, h.1)
      by false rest = (h.0, rest)

  all-without : (row : ℕ) (rows : Rows) → AllOf rows → AllOf (without_row rows row)
  all-without row [] h = tt
  all-without row (one ∷ rows) h = by (not (one.0 == row)) (all-without row rows h.1)
    where
      by : (stays : Bool) → AllOf (without_row rows row) → AllOf (cond stays (one ∷ without_row rows row) (without_row rows row))
      by true rest = (h.0, rest)
      by false rest = rest

  all-found : (test : ℕ → Bool) (rows : Rows) (values : List Value) → AllOf rows → lookup test rows ≡ Some values → P values
  all-found test [] values h e = absurd (none-some values e)
  all-found test (one ∷ rows) values h e = by (test one.0) (all-found test rows values h.1) e
    where
      by : (here : Bool) → (lookup test rows ≡ Some values → P values) → cond here (Some one.1) (lookup test rows) ≡ Some values → P values
      by true rest e = subst P (same_Some one.1 values e) h.0
      by false rest e = rest e

all-column : (columns : List Kind) (kind : Kind) (default : Value) (rows : Rows)
    → ((values : List Value) → Each columns values → Each (columns ++ kind ∷ []) (values ++ default ∷ []))
    → AllOf (Each columns) rows → AllOf (Each (columns ++ kind ∷ [])) (with_column default rows)
all-column columns kind default [] more h = tt
all-column columns kind default (one ∷ rows) more h = (more one.1 h.0, all-column columns kind default rows more h.1)

-- ---- a table, by its columns and rows

-- its columns are those of the opening and more, for which there is room; each row's values can be read back
pub record IsWhole (opened columns : List Kind) (rows : Rows) : Type 0 where
  pub more : List Kind
  pub behind : columns ≡ opened ++ more
  pub room : HaveRoom opened more
  pub ids : AllByRecursion (λ row. row.0 < 2 ^ 64) rows
  pub each : AllByRecursion (λ row. Each columns row.1) rows

none-whole : (opened columns : List Kind) (rows : Rows) → columns ≡ opened → rows ≡ [] → IsWhole opened columns rows
none-whole opened columns rows same none =
    subst (λ (kinds : List Kind). IsWhole opened kinds rows) (sym same) (subst (IsWhole opened opened) (sym none) (record {
      more = [];
      behind = sym (append-nil opened);
      room = tt;
      ids = tt;
      each = tt;
    }))

patch-each : (columns : List Kind) (rows : Rows) (row offset : ℕ) (bytes : List ℕ) → AreBytes bytes → AllOf (Each columns) rows
    → AllOf (Each columns) (with_patch columns rows row offset bytes)
patch-each columns rows row offset bytes are each = by (row_at rows row) refl
  where
    by : (found : Option (List Value)) → row_at rows row ≡ found → AllOf (Each columns) (with_patch columns rows row offset bytes)
    by None e = rw e each
    by (Some values) e =
        let now = patched-each columns offset bytes values are (all-found (Each columns) (is_at (nat_cmp row)) rows values each e) in
        rw e (all-set (Each columns) (is_at (nat_cmp row)) rows (patched_row columns offset bytes values) each now)

patch-ids : (P : ℕ → Type 0) (columns : List Kind) (rows : Rows) (row offset : ℕ) (bytes : List ℕ) → Ids P rows
    → Ids P (with_patch columns rows row offset bytes)
patch-ids P columns rows row offset bytes ids = by (row_at rows row) refl
  where
    by : (found : Option (List Value)) → row_at rows row ≡ found → Ids P (with_patch columns rows row offset bytes)
    by None e = rw e ids
    by (Some values) e = rw e (ids-set P (is_at (nat_cmp row)) rows (patched_row columns offset bytes values) ids)

-- one column more
room-more : (kinds more : List Kind) (kind : Kind) → HaveRoom kinds more → has_room (kinds ++ more) kind ≡ true
    → HaveRoom kinds (more ++ kind ∷ [])
room-more kinds [] kind have room = (subst (λ (all : List Kind). has_room all kind ≡ true) (append-nil kinds) room, tt)
room-more kinds (first ∷ more) kind have room = (
  have.0,
  room-more (kinds ++ first ∷ []) more kind have.1
      (subst (λ (all : List Kind). has_room all kind ≡ true) (sym (append_assoc kinds (first ∷ []) more)) room),
)

addable-room : (found : Option (List Kind)) (default : Value) → is_ok (addable found default) ≡ true
    → has_room (unwrap_or found []) (kind_of default) ≡ true
addable-room None default h = absurd cc
addable-room (Some kinds) default h = by (has_room kinds (kind_of default)) h
  where
    by : (room : Bool) → is_ok {T = Unit {0}} {E = EntryFault} (cond room (Ok tt) (Err WrongSize)) ≡ true → room ≡ true
    by true h = refl
    by false h = absurd cc

-- ---- all tables

module _ (shape : Shape) where
  abbrev pub WholeAt : ℕ → List Kind → Rows → Type 0
  WholeAt table columns rows = IsWhole (kinds_in shape table) columns rows

  whole-made : (tables after : Tables) (entry : Entry) → HasSpelling entry → apply_entry tables entry ≡ Ok after
      → EachTable WholeAt tables → EachTable WholeAt after
  whole-made tables after entry spelled h are =
      let parts = apply_entry-parts tables after entry h in
      subst (EachTable WholeAt) parts.2 (by entry spelled parts.0)
    where
      by : (entry : Entry) → HasSpelling entry → is_fit tables entry ≡ true → EachTable WholeAt (made tables entry)
      by (Insert table row bytes) spelled fits =
          let columns = kinds_of tables table in
          let rows = rows_of tables table in
          let was = are table in
          let wide = sized-wide (shape_in tables) table 0 (slice_get (shape_in tables) table) (length bytes) refl fits in
          placed WholeAt tables table (renewed tables table (with_row rows row.0 (values_of columns bytes)))
          (fit-within tables (Insert table row bytes) fits) are (record {
            more = was.more;
            behind = was.behind;
            room = was.room;
            ids = ids-with (λ (id : ℕ). id < 2 ^ 64) rows row.0 (values_of columns bytes) spelled.row_below was.ids;
            each = all-with (Each columns) rows row.0 (values_of columns bytes) was.each
                (found-each columns bytes spelled.are_bytes (omega (arith, wide)));
          })
      by (Patch table row offset bytes) spelled fits =
          let columns = kinds_of tables table in
          let rows = rows_of tables table in
          let was = are table in
          placed WholeAt tables table (renewed tables table (with_patch columns rows row.0 offset bytes))
          (fit-within tables (Patch table row offset bytes) fits) are (record {
            more = was.more;
            behind = was.behind;
            room = was.room;
            ids = patch-ids (λ (id : ℕ). id < 2 ^ 64) columns rows row.0 offset bytes was.ids;
            each = patch-each columns rows row.0 offset bytes spelled.are_bytes was.each;
          })
      by (Delete table row) spelled fits =
          let columns = kinds_of tables table in
          let rows = rows_of tables table in
          let was = are table in
          placed WholeAt tables table (renewed tables table (without_row rows row.0)) (fit-within tables (Delete table row) fits) are
          (record {
            more = was.more;
            behind = was.behind;
            room = was.room;
            ids = ids-without (λ (id : ℕ). id < 2 ^ 64) row.0 rows was.ids;
            each = all-without (Each columns) row.0 rows was.each;
          })
      by (AddColumn table default) spelled fits =
          let columns = kinds_of tables table in
          let rows = rows_of tables table in
          let kind = kind_of default in
          let was = are table in
          let room : has_room columns kind ≡ true = addable-room (slice_get (shape_in tables) table) default fits in
          placed WholeAt tables table (wider tables table default) (fit-within tables (AddColumn table default) fits) are (record {
            more = was.more ++ kind ∷ [];
            behind = ap (λ (kinds : List Kind). kinds ++ kind ∷ []) was.behind ∙ append_assoc (kinds_in shape table) was.more (kind ∷ []);
            room = room-more (kinds_in shape table) was.more kind was.room
                (subst (λ (kinds : List Kind). has_room kinds kind ≡ true) was.behind room);
            ids = ids-column (λ (id : ℕ). id < 2 ^ 64) default rows was.ids;
            each = all-column columns kind default rows
                (λ values each. each-more columns values kind default each (column-back default spelled.value)) was.each;
          })

  pub versions-whole : (commits : List Commit) (version : ℕ) → AreSpelled commits → EachTable WholeAt (tables_after shape commits version)
  versions-whole commits version spelled =
      version-keeps HasSpelling (EachTable WholeAt) whole-made shape commits version spelled
      (λ table. none-whole (kinds_in shape table) (kinds_of (opening shape) table) (rows_of (opening shape) table)
      (ap (λ (kinds : Shape). kinds_in kinds table) (shape_in-opening shape)) (no-rows shape table))

-- how many tables there are
count-made : (count : ℕ) (tables after : Tables) (entry : Entry) → Unit {0} → apply_entry tables entry ≡ Ok after → length tables ≡ count
    → length after ≡ count
count-made count tables after entry any h was =
    let kinds = (Turns-change tables after entry h).kinds in
    omega (
      arith,
      length-map after (λ (table : Table). table.kinds),
      ap length kinds,
      length-shape_after_one (shape_in tables) entry,
      length-map tables (λ (table : Table). table.kinds),
      was,
    )

pub versions-count : (shape : Shape) (commits : List Commit) (version : ℕ) → length (tables_after shape commits version) ≡ length shape
versions-count shape commits version =
    version-keeps (λ (entry : Entry). Unit {0}) (λ (tables : Tables). length tables ≡ length shape) (count-made (length shape)) shape
    commits version (hold-any commits) (none shape)
  where
    none : (shape : Shape) → length (opening shape) ≡ length shape
    none [] = refl
    none (columns ∷ shape) = ap suc (none shape)

-- ---- as the law says it

rows-back : (columns : List Kind) (rows : Rows) → AllByRecursion (λ row. Each columns row.1) rows
    → AllByRecursion (λ row. AreReadBack columns row.1) rows
rows-back columns [] each = tt
rows-back columns (row ∷ rows) each = (each-back columns row.1 each.0, rows-back columns rows each.1)

has-image : (opened columns : List Kind) (rows : Rows) → IsWhole opened columns rows → Rise rows → HasImage opened columns rows
has-image opened columns rows is rise =
    let others : drop (length opened) columns ≡ is.more =
    ap (drop (length opened)) is.behind ∙ drop_at opened is.more (length opened) refl in
    record {
      begun = ap (take (length opened)) is.behind ∙ take_at opened is.more (length opened) refl;
      room = subst (HaveRoom opened) (sym others) is.room;
      rise = rise;
      back = rows-back columns rows is.each;
    }

pub versions-imaged : VersionsHaveImages
versions-imaged shape commits version spelled =
    let tables = tables_after shape commits version in
    record {
      count = versions-count shape commits version;
      each = λ table. has-image (kinds_in shape table) (kinds_of tables table) (rows_of tables table)
          (versions-whole shape commits version spelled table) (versions-rise shape commits version table);
    }
