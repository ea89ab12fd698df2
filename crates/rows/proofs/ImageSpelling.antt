-- Each entry of the image of a version has a spelling.
use Rattle.std.proofs.Common.{◌≡◌, ℕ, zero, suc, ◌+◌, ◌^◌, ◌<◌, ◌≤◌, true, not, ◌==◌, nat_lt, List, [], ◌∷◌, ◌++◌, length, drop}
use Rattle.std.proofs.Common.{replicate, refl, sym, ap, subst, ◌∙◌, arith, append-nil, append_assoc, rules}
use Rattle.std.specs.List.{AllByRecursion}
use Rattle.std.proofs.lemmas.Bool.{and_parts}
use Rattle.std.proofs.lemmas.Bool.Decides.{nat_tests}
use Rattle.std.proofs.lemmas.List.{length-replicate, drop_at}
use Rattle.rows.specs.declared.entry.Entry.{Entry}
use Rattle.rows.specs.declared.kind.Kind.{Kind}
use Rattle.rows.specs.declared.kind.Kind.TheVariants as kinds
use Rattle.rows.specs.Commits.{tables_after}
use Rattle.rows.specs.Image.{zero_of, columns_image, rows_image, table_image, image_from}
use Rattle.rows.specs.ImageLaws.{HaveRoom, ImagesAreSpelled}
use Rattle.rows.specs.Limits.{octets_max}
use Rattle.rows.specs.Shape.{Shape, is_good, kinds_in, AreColumns}
use Rattle.rows.specs.Spelling.{AreBytes, HasSpelling, IsColumnValue}
use Rattle.rows.specs.Tables.{Rows, Table, Tables, kinds_of, rows_of}
use Rattle.rows.proofs.Imaging.{IsWhole, versions-whole, versions-count}
use Rattle.rows.proofs.ReadBack.{Each, each-back, each-bytes}
use Rattle.rows.proofs.Schemas.{length-le-row_width}
use Rattle.rows.proofs.Widening.{room-parts, room-keeps}

-- ---- added columns

abbrev zeros : ℕ → List ℕ
zeros width = replicate width 0

zeros-are : (n : ℕ) → AreBytes (zeros n)
zeros-are zero i = omega arith
zeros-are (suc n) zero = omega arith
zeros-are (suc n) (suc i) = zeros-are n i

zero-value : (kind : Kind) → is_good kind ≡ true → IsColumnValue (zero_of kind)
zero-value kinds.Int good = search rules
zero-value (kinds.Octets width) good =
    let parts = and_parts (not (width == 0)) (not (nat_lt octets_max width)) good in
    let count : length (zeros width) ≡ width = length-replicate width 0 in
    (some width parts.0 count, few width parts.1 count, zeros-are width)
  where
    some : (width : ℕ) → not (width == 0) ≡ true → length (zeros width) ≡ width → 0 < length (zeros width)
    some width h count = grind (arith, nat_tests)

    few : (width : ℕ) → not (nat_lt octets_max width) ≡ true → length (zeros width) ≡ width → length (zeros width) ≤ octets_max
    few width h count = grind (arith, nat_tests)

columns-spelled : (table : ℕ) (columns added : List Kind) → table < 16 → HaveRoom columns added
    → AllByRecursion HasSpelling (columns_image table added)
columns-spelled table columns [] below have = tt
columns-spelled table columns (kind ∷ added) below have = (
  record { table_below = below; value = zero-value kind (room-parts columns kind have.0).0 },
  columns-spelled table (columns ++ kind ∷ []) added below have.1,
)

-- columns for which there is room are within the limits
limits-whole : (columns added : List Kind) → AreColumns columns → HaveRoom columns added → AreColumns (columns ++ added)
limits-whole columns [] are have = subst AreColumns (sym (append-nil columns)) are
limits-whole columns (kind ∷ added) are have =
    subst AreColumns (append_assoc columns (kind ∷ []) added)
    (limits-whole (columns ++ kind ∷ []) added (room-keeps columns kind are have.0) have.1)

-- ---- rows

rows-spelled : (table : ℕ) (columns : List Kind) (rows : Rows) → table < 16 → AreColumns columns
    → AllByRecursion (λ row. row.0 < 2 ^ 64) rows → AllByRecursion (λ row. Each columns row.1) rows
    → AllByRecursion HasSpelling (rows_image table rows)
rows-spelled table columns [] below are ids each = tt
rows-spelled table columns (row ∷ rows) below are ids each =
    let wide = (each-back columns row.1 each.0).wide in (
      record {
        table_below = below;
        row_below = ids.0;
        some = omega (arith, wide, are.some, length-le-row_width columns are.good);
        few = omega (arith, wide, are.narrow);
        are_bytes = each-bytes columns row.1 each.0;
      },
      rows-spelled table columns rows below are ids.1 each.1,
    )

-- ---- tables

all-append : (front rest : List Entry) → AllByRecursion HasSpelling front → AllByRecursion HasSpelling rest
    → AllByRecursion HasSpelling (front ++ rest)
all-append [] rest all others = others
all-append (entry ∷ front) rest all others = (all.0, all-append front rest all.1 others)

table-spelled : (number : ℕ) (opened : List Kind) (table : Table) → number < 16 → AreColumns opened → IsWhole opened table.kinds table.rows
    → AllByRecursion HasSpelling (table_image number opened table)
table-spelled number opened table below are is =
    let others : drop (length opened) table.kinds ≡ is.more =
    ap (drop (length opened)) is.behind ∙ drop_at opened is.more (length opened) refl in
    let columns : AreColumns table.kinds = subst AreColumns (sym is.behind) (limits-whole opened is.more are is.room) in
    all-append (columns_image number (drop (length opened) table.kinds)) (rows_image number table.rows)
    (columns-spelled number opened (drop (length opened) table.kinds) below (subst (HaveRoom opened) (sym others) is.room))
    (rows-spelled number table.kinds table.rows below columns is.ids is.each)

-- the columns with which a table was opened
opened-limits : (shape : Shape) (table : ℕ) → AllByRecursion AreColumns shape → table < length shape → AreColumns (kinds_in shape table)
opened-limits [] table each within = absurd (omega (arith, within))
opened-limits (kinds ∷ shape) zero each within = each.0
opened-limits (kinds ∷ shape) (suc table) each within = opened-limits shape table each.1 (omega (arith, within))

tables-spelled : (shape : Shape) (number : ℕ) (tables : Tables) → number + length tables ≤ 16
    → ((table : ℕ) → table < length tables → AreColumns (kinds_in shape (number + table)))
    → ((table : ℕ) → IsWhole (kinds_in shape (number + table)) (kinds_of tables table) (rows_of tables table))
    → AllByRecursion HasSpelling (image_from shape number tables)
tables-spelled shape number [] few limits whole = tt
tables-spelled shape number (table ∷ tables) few limits whole =
    let here : number + 0 ≡ number = omega arith in
    all-append (table_image number (kinds_in shape number) table) (image_from shape (number + 1) tables)
    (table-spelled number (kinds_in shape number) table (omega (arith, few))
    (subst (λ (n : ℕ). AreColumns (kinds_in shape n)) here (limits 0 (omega arith)))
    (subst (λ (n : ℕ). IsWhole (kinds_in shape n) table.kinds table.rows) here (whole 0)))
    (tables-spelled shape (number + 1) tables (omega (arith, few))
    (λ other within. subst (λ (n : ℕ). AreColumns (kinds_in shape n)) (next other) (limits (suc other) (omega (arith, within))))
    (λ other. subst (λ (n : ℕ). IsWhole (kinds_in shape n) (kinds_of tables other) (rows_of tables other)) (next other)
    (whole (suc other))))
  where
    next : (other : ℕ) → number + suc other ≡ number + 1 + other
    next other = omega arith

pub images-spelled : ImagesAreSpelled
images-spelled shape commits version are spelled =
    let tables = tables_after shape commits version in
    let count = versions-count shape commits version in
    let whole = versions-whole shape commits version spelled in
    tables-spelled shape 0 tables (omega (arith, count, are.few))
    (λ table within. subst (λ (n : ℕ). AreColumns (kinds_in shape n)) (begun table)
    (opened-limits shape table are.each (omega (arith, within, count))))
    (λ table. subst (λ (n : ℕ). IsWhole (kinds_in shape n) (kinds_of tables table) (rows_of tables table)) (begun table) (whole table))
  where
    begun : (table : ℕ) → table ≡ 0 + table
    begun table = omega arith
