-- What is left behind a part of a table is the rest of this table and the tables behind it; no schema has more than 16.
use Rattle.std.proofs.Common.{◌≡◌, ◌≤◌, ◌<◌, ◌+◌, ◌++◌, List, [], ℕ, Option, None, Some, IfSome, length, drop}
use Rattle.std.proofs.Common.{sym, subst, ap, ◌∙◌, arith, append_assoc}
use Rattle.rows.specs.declared.entry.Entry.{Entry}
use Rattle.rows.specs.Image.{image_from}
use Rattle.rows.specs.Shape.{shape_of}
use Rattle.mvcc.specs.ImageParts.{image_rest}
use Rattle.mvcc.specs.Inner.Images.{table_part}
use Rattle.mvcc.specs.VersionList.{VersionList, tables_at}
use Rattle.mvcc.proofs.TableImages.{few-tables, part-rest, rest-of-table, no-rest, no-more}
use Rattle.mvcc.proofs.versions.Versions.push_image_part.Goals as goal
use Rattle.mvcc.proofs.versions.Versions.push_image_part.Goals.{After-keeps_limits, In_ok-row}

few : (c : After-keeps_limits) → length (tables_at c.args.self.now c.args.version) ≤ 16
few c =
    subst (λ (v : VersionList). length (tables_at v c.args.version) ≤ 16) c.self.view_is
    (few-tables c.changes_tell_kinds.ensures.versions c.changes_tell_kinds.ensures.limits (shape_of c.self.inside.schema)
    c.self.inside.commits.items c.args.version c.self.invariant.legal c.keeps_limits.ensures)

pub returns-then-table-ge-TABLES_MAX-clause-part : goal.returns-then-table-ge-TABLES_MAX-clause-part
returns-then-table-ge-TABLES_MAX-clause-part c =
    let all = few (goal.at.returns-then-table-ge-TABLES_MAX-clause-part c).After-keeps_limits in
    ap (λ (rest : List Entry). c.args.image.now.items ++ rest)
    (no-rest (shape_of c.args.self.now.schema) (tables_at c.args.self.now c.args.version) c.args.place.table c.args.place.row
    (omega (arith, all, c.if-table-ge-TABLES_MAX.true)))

-- a part, and what is left behind it
joined : (items new part rest whole : List Entry) → new ≡ items ++ part → part ++ rest ≡ whole → new ++ rest ≡ items ++ whole
joined items new part rest whole is all =
    ap (λ (front : List Entry). front ++ rest) is ∙ append_assoc items part rest ∙ ap (λ (more : List Entry). items ++ more) all

-- the part that was added, and where it ends
added : (c : In_ok-row) (next : Option ℕ) → c.in_ok-row.field-0 ≡ next
    → c.push_table_part.new.image.items
    ≡ c.args.image.now.items
    ++ table_part (shape_of c.args.self.now.schema) (tables_at c.args.self.now c.args.version) c.args.place.table c.args.place.row next
added c next is =
    c.in_ok-row.ensures.part
    ∙ ap (λ (end : Option ℕ). c.args.image.now.items
    ++ table_part (shape_of c.args.self.now.schema) (tables_at c.args.self.now c.args.version) c.args.place.table c.args.place.row end) is

pub returns-in-Some-clause-part : goal.returns-in-Some-clause-part
returns-in-Some-clause-part c =
    let shape = shape_of c.args.self.now.schema in
    let tables = tables_at c.args.self.now c.args.version in
    let place = c.args.place in
    let row = c.in-Some.row in
    let less : place.row < row =
    subst (λ (next : Option ℕ). IfSome next (λ n. place.row < n)) c.in-Some.is c.in_ok-row.ensures.later in
    joined c.args.image.now.items c.push_table_part.new.image.items (table_part shape tables place.table place.row (Some row))
    (image_rest shape tables (Some (record { table = place.table; row = row }))) (image_rest shape tables (Some place))
    (added (goal.at.returns-in-Some-clause-part c).In_ok-row (Some row) c.in-Some.is)
    (part-rest shape tables place.table place.row row
    (c.images_rebuild_tables.ensures.rise shape c.args.self.now.commits c.args.version place.table) less)

-- the last part of a table, and the tables behind it
behind : (c : In_ok-row) → c.in_ok-row.field-0 ≡ None → (rest : List Entry)
    → rest ≡ image_from (shape_of c.args.self.now.schema) (c.args.place.table + 1)
    (drop (c.args.place.table + 1) (tables_at c.args.self.now c.args.version))
    → c.push_table_part.new.image.items ++ rest
    ≡ c.args.image.now.items ++ image_rest (shape_of c.args.self.now.schema) (tables_at c.args.self.now c.args.version) (Some c.args.place)
behind c none rest is =
    let shape = shape_of c.args.self.now.schema in
    let tables = tables_at c.args.self.now c.args.version in
    let place = c.args.place in
    let part = table_part shape tables place.table place.row None in
    joined c.args.image.now.items c.push_table_part.new.image.items part rest (image_rest shape tables (Some place)) (added c None none)
    (ap (λ (others : List Entry). part ++ others) is)

pub returns-then-table-ge-TABLES_MAX-2-clause-part : goal.returns-then-table-ge-TABLES_MAX-2-clause-part
returns-then-table-ge-TABLES_MAX-2-clause-part c =
    let shape = shape_of c.args.self.now.schema in
    let tables = tables_at c.args.self.now c.args.version in
    let all = few (goal.at.returns-then-table-ge-TABLES_MAX-2-clause-part c).After-keeps_limits in
    behind (goal.at.returns-then-table-ge-TABLES_MAX-2-clause-part c).In_ok-row c.in_default.is []
    (sym (no-more shape tables (c.args.place.table + 1) (omega (arith, all, c.if-table-ge-TABLES_MAX-2.true))))

pub returns-clause-part : goal.returns-clause-part
returns-clause-part c =
    let shape = shape_of c.args.self.now.schema in
    let tables = tables_at c.args.self.now c.args.version in
    behind (goal.at.returns-clause-part c).In_ok-row c.in_default.is
    (image_rest shape tables (Some (record { table = c.args.place.table + 1; row = 0 })))
    (rest-of-table shape tables (c.args.place.table + 1))
