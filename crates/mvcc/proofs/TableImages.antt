-- The image of one table at a version, and of all tables from those of each.
use Rattle.std.proofs.Common.{◌≡◌, ℕ, zero, suc, ◌+◌, ◌<◌, ◌≤◌, List, [], ◌∷◌, ◌++◌, length, map, take, drop, slice_get, Option, None, Some}
use Rattle.std.proofs.Common.{true, false, Bool, cond, ◌&&◌, ◌==◌, nat_le, nat_lt, inl, inr, Result, Ok, Err, refl, sym, ap, ◌∙◌}
use Rattle.std.proofs.Common.{arith, append_assoc}
use Rattle.std.specs.Prelude.{if◌then◌else◌, IfSome, ◌-◌, ◌*◌, ◌^◌}
use Rattle.std.specs.List.{flat_map, filter, AllByRecursion}
use Rattle.std.specs.Option.{option_map, option_map_or, unwrap_or}
use Rattle.std.specs.Result.{IfOk, is_ok}
use Rattle.std.proofs.lemmas.Bool.{cases_lt, cond-true, cond-false}
use Rattle.std.proofs.lemmas.Bool.Decides.{nat_tests}
use Rattle.std.proofs.lemmas.List.{length-append, length-map, take_at, map-append, drop_all}
use Rattle.std.proofs.lemmas.Option.{same_Some, slice_get-map, slice_get_past}
use Rattle.rows.specs.declared.commit.Commit.{Commit}
use Rattle.rows.specs.declared.entry.Entry.{Entry}
use Rattle.rows.specs.declared.kind.Kind.{Kind}
use Rattle.rows.specs.Commits.{apply_commits, tables_after}
use Rattle.rows.specs.Image.{columns_image, rows_image, table_image, image_from, image_of}
use Rattle.rows.specs.ImageLaws.{Rise}
use Rattle.rows.specs.Laws.{VersionsTellKinds, LimitsStay}
use Rattle.rows.specs.ListLaws.{EachFits}
use Rattle.rows.specs.Shape.{Shape, AreTables, kinds_in, row_width}
use Rattle.rows.specs.Tables.{Rows, Table, Tables, opening, shape_in, kinds_of, rows_of}
use Rattle.rows.specs.Values.{kind_of, value_bytes}
use Rattle.mvcc.specs.Inner.Chains.{Chains, AreVersions}
use Rattle.mvcc.specs.Inner.Columns.{TableColumns, columns_of, kinds_upto, defaults_of, blank_at}
use Rattle.rows.specs.Limits.{tables_max}
use Rattle.mvcc.specs.declared.image_place.ImagePlace.{ImagePlace}
use Rattle.mvcc.specs.ImageParts.{image_rest, table_rest, IsLaterPlace}
use Rattle.mvcc.specs.Inner.Images.{is_within, table_between, table_part}
use Rattle.mvcc.specs.Inner.RowBytes.{RowsHaveBytes, blank_in, blank_after_commits}
use Rattle.mvcc.proofs.Blanks.{kept-newest, beginning}
use Rattle.mvcc.proofs.Keeping.{row-kept}
use Rattle.mvcc.proofs.KindsUpto.{kinds-at, kinds-first, limits-commits}

-- what follows of two facts of what a call answers where it succeeds
pub both-ok : {T E : Type 0} {P Q R : T → Type 0} (result : Result T E) → ((answer : T) → P answer → Q answer → R answer)
    → IfOk result P → IfOk result Q → IfOk result R
both-ok (Ok x) f p q = f x p q
both-ok (Err e) f p q = tt

-- ---- the columns of a table at a version

-- they are those of the opening, and others behind them
pub kinds-opened : EachFits → VersionsTellKinds → (shape : Shape) (commits : List Commit) (version table : ℕ) (opened kinds : List Kind)
    → is_ok (apply_commits (opening shape) commits) ≡ true → Some opened ≡ slice_get shape table
    → Some kinds ≡ slice_get (shape_in (tables_after shape commits version)) table → (more : List Kind) × (kinds ≡ opened ++ more)
kinds-opened fits tell shape commits version table opened kinds legal begun there =
    let upto : List Kind → List Kind = λ own. kinds_upto version (columns_of table commits own) in
    let same : Some kinds ≡ Some (upto opened) =
    there ∙ kinds-at fits tell shape commits version table legal ∙ ap (option_map upto) (sym begun) in (
      map kind_of (defaults_of table (take version commits)),
      same_Some kinds (upto opened) same ∙ sym (kinds-first table version commits opened),
    )

-- a table that was not opened is not there
pub not-opened : EachFits → VersionsTellKinds → (shape : Shape) (commits : List Commit) (version table : ℕ)
    → is_ok (apply_commits (opening shape) commits) ≡ true → None ≡ slice_get shape table
    → None ≡ slice_get (shape_in (tables_after shape commits version)) table
not-opened fits tell shape commits version table legal none =
    ap (option_map (λ own. kinds_upto version (columns_of table commits own))) none
    ∙ sym (kinds-at fits tell shape commits version table legal)

drop-nil : {X : Type 0} (n : ℕ) → drop {A = X} n [] ≡ []
drop-nil zero = refl
drop-nil (suc n) = refl

pub none-added : (shape now : Shape) (table : ℕ) → None ≡ slice_get now table
    → [] ≡ drop (length (kinds_in shape table)) (kinds_in now table)
none-added shape now table none =
    sym (drop-nil (length (kinds_in shape table)))
    ∙ ap (λ (found : Option (List Kind)). drop (length (kinds_in shape table)) (unwrap_or found [])) none

-- ---- its blank row

-- the first bytes of the newest, as many as a row has
pub blank-front : (law : RowsHaveBytes) (shape : Shape) (commits : List Commit) (chains : Chains) (tables : List TableColumns)
    (last : List ℕ) (version table : ℕ) (kinds : List Kind) → AreVersions shape commits chains tables last → table < length shape
    → Some kinds ≡ slice_get (shape_in (tables_after shape commits version)) table
    → (row_width kinds ≤ length (blank_at tables table))
    × (take (row_width kinds) (blank_at tables table) ≡ blank_after_commits table (blank_in shape table) (take version commits))
blank-front law shape commits chains tables last version table kinds sound within there =
    let blank = blank_after_commits table (blank_in shape table) (take version commits) in
    let more = flat_map value_bytes (defaults_of table (drop version commits)) in
    let newest : blank_at tables table ≡ blank ++ more =
    kept-newest shape commits tables table sound.columns within ∙ beginning table version (blank_in shape table) commits in
    let own : row_width (kinds_of (tables_after shape commits version) table) ≡ row_width kinds =
    ap (λ (found : Option (List Kind)). row_width (unwrap_or found [])) (sym there) in
    let wide : length blank ≡ row_width kinds =
    (row-kept law shape commits chains version table 0 sound.legal sound.valued sound.kept).blank_wide ∙ own in (
      omega (arith, ap length newest, length-append blank more, wide),
      ap (take (row_width kinds)) newest ∙ take_at blank more (row_width kinds) wide,
    )

-- ---- a part of the image of a table

-- the rows of a table from one on, before the next one
abbrev within : ℕ → Option ℕ → Rows → Rows
within from next rows = filter (λ row. is_within from next row.0) rows

-- the columns that a part begins with: the added ones, if it begins at row 0
abbrev pub begun : (table from opened : ℕ) → List Kind → List Entry
begun table from opened kinds = if from == 0 then columns_image table (drop opened kinds) else []

pub no-part : (shape : Shape) (tables : Tables) (table from : ℕ) (next : Option ℕ) → None ≡ slice_get (shape_in tables) table
    → table_part shape tables table from next ≡ []
no-part shape tables table from next none =
    by (slice_get tables table) (none ∙ slice_get-map (λ (own : Table). own.kinds) tables table)
  where
    by : (found : Option Table) → None ≡ option_map (λ (own : Table). own.kinds) found
        → option_map_or (table_between table from next (kinds_in shape table)) found [] ≡ []
    by None e = refl
    by (Some own) e = absurd cc

pub one-part : (shape : Shape) (tables : Tables) (table from : ℕ) (next : Option ℕ) (kinds : List Kind)
    → Some kinds ≡ slice_get (shape_in tables) table
    → begun table from (length (kinds_in shape table)) kinds
    ++ rows_image table (filter (λ row. is_within from next row.0) (rows_of tables table))
    ≡ table_part shape tables table from next
one-part shape tables table from next kinds there =
    by (slice_get tables table) (there ∙ slice_get-map (λ (own : Table). own.kinds) tables table)
  where
    by : (found : Option Table) → Some kinds ≡ option_map (λ (own : Table). own.kinds) found
        → begun table from (length (kinds_in shape table)) kinds
        ++ rows_image table (within from next (option_map_or (λ own. own.rows) found []))
        ≡ option_map_or (table_between table from next (kinds_in shape table)) found []
    by None e = absurd cc
    by (Some own) e =
        ap (λ (columns : List Kind). begun table from (length (kinds_in shape table)) columns
        ++ rows_image table (within from next own.rows))
        (same_Some kinds own.kinds e)

-- ---- what is left behind a part

higher : (next low : ℕ) (rows : Rows) → next ≤ low → AllByRecursion (λ row. low < row.0) rows → AllByRecursion (λ row. next ≤ row.0) rows
higher next low [] le h = tt
higher next low (row ∷ rows) le h = (omega (arith, le, h.0), higher next low rows le h.1)

none-before : (from next : ℕ) (rows : Rows) → AllByRecursion (λ row. next ≤ row.0) rows → within from (Some next) rows ≡ []
none-before from next [] h = refl
none-before from next (row ∷ rows) h =
    let apart : (nat_le from row.0 && nat_lt row.0 next) ≡ false = grind (arith, nat_tests, h.0) in
    cond-false (nat_le from row.0 && nat_lt row.0 next) (row ∷ within from (Some next) rows) (within from (Some next) rows) apart
    ∙ none-before from next rows h.1

all-from : (low : ℕ) (rows : Rows) → AllByRecursion (λ row. low ≤ row.0) rows → within low None rows ≡ rows
all-from low [] h = refl
all-from low (row ∷ rows) h =
    let here : nat_le low row.0 ≡ true = grind (arith, nat_tests, h.0) in
    cond-true (nat_le low row.0) (row ∷ within low None rows) (within low None rows) here
    ∙ ap (λ (rest : Rows). row ∷ rest) (all-from low rows h.1)

lower : (low next : ℕ) (rows : Rows) → low ≤ next → AllByRecursion (λ row. next ≤ row.0) rows → AllByRecursion (λ row. low ≤ row.0) rows
lower low next [] le h = tt
lower low next (row ∷ rows) le h = (omega (arith, le, h.0), lower low next rows le h.1)

-- the rows of a table from one on are those before the next one, and those from that on
rows-split : (from next : ℕ) (rows : Rows) → Rise rows → from < next
    → within from (Some next) rows ++ within next None rows ≡ within from None rows
rows-split from next [] rise less = refl
rows-split from next (row ∷ rows) rise less = elim (cases_lt row.0 next) [
  | inl below ↦
      let upto : nat_lt row.0 next ≡ true = grind (arith, nat_tests, below) in
      let apart : nat_le next row.0 ≡ false = grind (arith, nat_tests, below) in
      by (nat_le from row.0) (nat_lt row.0 next) (nat_le next row.0) upto apart (rows-split from next rows rise.1 less)
  | inr above ↦
      let all : AllByRecursion (λ own. next ≤ own.0) (row ∷ rows) = (above, higher next row.0 rows above rise.0) in
      ap (λ (front : Rows). front ++ within next None (row ∷ rows)) (none-before from next (row ∷ rows) all)
      ∙ all-from next (row ∷ rows) all ∙ sym (all-from from (row ∷ rows) (lower from next (row ∷ rows) (omega (arith, less)) all))
]
  where
    by : (low upto high : Bool) → upto ≡ true → high ≡ false
        → within from (Some next) rows ++ within next None rows ≡ within from None rows
        → cond (low && upto) (row ∷ within from (Some next) rows) (within from (Some next) rows)
        ++ cond high (row ∷ within next None rows) (within next None rows)
        ≡ cond low (row ∷ within from None rows) (within from None rows)
    by true true false u h rest = ap (λ (all : Rows). row ∷ all) rest
    by false true false u h rest = rest
    by low true true u h rest = absurd cc
    by low false high u h rest = absurd cc

-- a part, and what is left from the next row on, is what is left from its first row on
pub part-rest : (shape : Shape) (tables : Tables) (table from next : ℕ) → Rise (rows_of tables table) → from < next
    → table_part shape tables table from (Some next) ++ image_rest shape tables (Some (record { table = table; row = next }))
    ≡ image_rest shape tables (Some (record { table = table; row = from }))
part-rest shape tables table from next rise less = by (slice_get tables table) rise
  where
    others : List Entry
    others = image_from shape (table + 1) (drop (table + 1) tables)

    later : (next == 0) ≡ false
    later = grind (arith, nat_tests, less)

    opened : List Kind
    opened = kinds_in shape table

    by : (found : Option Table) → Rise (option_map_or (λ own. own.rows) found [])
        → option_map_or (table_between table from (Some next) opened) found []
        ++ (option_map_or (table_rest table next opened) found [] ++ others)
        ≡ option_map_or (table_rest table from opened) found [] ++ others
    by None rises = refl
    by (Some own) rises =
        let columns = begun table from (length opened) own.kinds in
        let front = rows_image table (within from (Some next) own.rows) in
        let back = rows_image table (within next None own.rows) in
        ap (λ (rest : List Entry). (columns ++ front) ++ (rest ++ others))
        (ap (λ (more : List Entry). more ++ back)
        (cond-false (next == 0) (columns_image table (drop (length opened) own.kinds)) [] later))
        ∙ sym (append_assoc (columns ++ front) back others)
        ∙ ap (λ (all : List Entry). all ++ others)
        (append_assoc columns front back
        ∙ ap (λ (rows : List Entry). columns ++ rows)
        (sym (map-append _ (within from (Some next) own.rows) (within next None own.rows))
        ∙ ap (rows_image table) (rows-split from next own.rows rises less)))

-- the images of the tables from one on are what is left from its row 0 on
from-table : (shape : Shape) (number : ℕ) (tables : Tables) (n : ℕ)
    → image_from shape number (drop n tables)
    ≡ option_map_or (table_image number (kinds_in shape number)) (slice_get tables n) []
    ++ image_from shape (number + 1) (drop (suc n) tables)
from-table shape number [] zero = refl
from-table shape number [] (suc n) = refl
from-table shape number (table ∷ tables) zero = refl
from-table shape number (table ∷ tables) (suc n) = from-table shape number tables n

from-zero : (rows : Rows) → AllByRecursion (λ row. 0 ≤ row.0) rows
from-zero [] = tt
from-zero (row ∷ rows) = (omega arith, from-zero rows)

pub rest-of-table : (shape : Shape) (tables : Tables) (table : ℕ)
    → image_rest shape tables (Some (record { table = table; row = 0 })) ≡ image_from shape table (drop table tables)
rest-of-table shape tables table =
    let next : table + 1 ≡ suc table = omega arith in
    by (slice_get tables table)
    ∙ ap (λ (n : ℕ). option_map_or (table_image table (kinds_in shape table)) (slice_get tables table) []
    ++ image_from shape (table + 1) (drop n tables)) next
    ∙ sym (from-table shape table tables table)
  where
    by : (found : Option Table)
        → option_map_or (table_rest table 0 (kinds_in shape table)) found [] ++ image_from shape (table + 1) (drop (table + 1) tables)
        ≡ option_map_or (table_image table (kinds_in shape table)) found [] ++ image_from shape (table + 1) (drop (table + 1) tables)
    by None = refl
    by (Some own) =
        ap (λ (rows : Rows). (columns_image table (drop (length (kinds_in shape table)) own.kinds) ++ rows_image table rows)
        ++ image_from shape (table + 1) (drop (table + 1) tables)) (all-from 0 own.rows (from-zero own.rows))

-- at the beginning all of the image is left
pub begins : (shape : Shape) (tables : Tables) → image_rest shape tables (Some (record { table = 0; row = 0 })) ≡ image_of shape tables
begins shape tables = rest-of-table shape tables 0

-- nothing is left behind the last table
pub no-rest : (shape : Shape) (tables : Tables) (table row : ℕ) → length tables ≤ table
    → [] ≡ image_rest shape tables (Some (record { table = table; row = row }))
no-rest shape tables table row few =
    rw (slice_get_past tables table few) (rw (drop_all (table + 1) tables (omega (arith, few))) refl)

pub no-more : (shape : Shape) (tables : Tables) (table : ℕ) → length tables ≤ table → image_from shape table (drop table tables) ≡ []
no-more shape tables table few = ap (image_from shape table) (drop_all table tables few)

-- there are at most 16 tables
pub few-tables : VersionsTellKinds → LimitsStay → (shape : Shape) (commits : List Commit) (version : ℕ)
    → is_ok (apply_commits (opening shape) commits) ≡ true → AreTables shape → length (tables_after shape commits version) ≤ 16
few-tables tell stay shape commits version legal limits =
    let tables = tables_after shape commits version in
    omega (
      arith,
      length-map tables (λ (table : Table). table.kinds),
      ap length (tell shape commits version legal),
      (limits-commits stay shape (take version commits) limits).few,
    )

-- ---- places

-- how much of the identifiers that there may be is behind a place
abbrev pub places_left : Option ImagePlace → ℕ
places_left place = option_map_or (λ at. (tables_max + 1) * 2 ^ 64 - (at.table * 2 ^ 64 + at.row)) place 0

pub fewer-places : (before : ImagePlace) (next : Option ImagePlace) → before.table < tables_max → before.row < 2 ^ 64
    → IfSome next (IsLaterPlace before) → places_left next < places_left (Some before)
fewer-places before None table row later = omega (arith, table, row)
fewer-places before (Some next) table row later = elim later.later [
  | inl less ↦ omega (arith, table, row, less)
  | inr same ↦ omega (arith, table, row, same.0, same.1)
]
