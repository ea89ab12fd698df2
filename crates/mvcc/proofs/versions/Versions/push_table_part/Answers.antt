-- From row 0 on the added columns, and then the rows that the chains have at the version.
use Rattle.std.proofs.Common.{◌≡◌, ◌≤◌, ◌++◌, ◌==◌, List, [], ℕ, Option, None, true, false, length, take, drop}
use Rattle.std.proofs.Common.{sym, subst, ap, ◌∙◌, arith, append-nil, append_assoc}
use Rattle.std.specs.List.{filter}
use Rattle.std.specs.Option.{unwrap_or}
use Rattle.std.proofs.lemmas.Bool.{cond-true, cond-false}
use Rattle.std.proofs.lemmas.Bool.Decides.{nat_tests}
use Rattle.rows.specs.declared.entry.Entry.{Entry}
use Rattle.rows.specs.declared.kind.Kind.{Kind}
use Rattle.rows.specs.Image.{columns_image, rows_image}
use Rattle.rows.specs.Shape.{shape_of, kinds_in, row_width}
use Rattle.rows.specs.Tables.{rows_of}
use Rattle.mvcc.specs.VersionList.{VersionList, tables_at}
use Rattle.mvcc.specs.Inner.Chains.{AreVersions}
use Rattle.mvcc.specs.Inner.Columns.{blank_at}
use Rattle.mvcc.specs.Inner.Images.{found_at, chains_within, is_within, inserts_of}
use Rattle.mvcc.specs.Inner.RowBytes.{blank_in, blank_after_commits}
use Rattle.mvcc.proofs.Images.{rows-found}
use Rattle.mvcc.proofs.Keeping.{sorted-at, table-there}
use Rattle.mvcc.proofs.TableImages.{both-ok, blank-front, no-part, begun, one-part}
use Rattle.mvcc.proofs.versions.Versions.push_table_part.Goals as goal
use Rattle.mvcc.proofs.versions.Versions.push_table_part.Goals.{After-width_of_row, After-push_rows}
use Rattle.mvcc.proofs.versions.Versions.push_table_part.Goals.{then-place-eq0+in_ok-push_columns, else-place-eq0}

pub returns-in_default-clause-part : goal.returns-in_default-clause-part
returns-in_default-clause-part c =
    let versions = c.args.self.now in
    let items = c.args.image.now.items in
    sym (ap (λ (more : List Entry). items ++ more)
    (no-part (shape_of versions.schema) (tables_at versions c.args.version) c.args.place.table c.args.place.row None
    c.in_default.ensures.value) ∙ append-nil items)

sound : (c : After-width_of_row)
    → AreVersions (shape_of c.args.self.now.schema) c.args.self.now.commits c.self.inside.chains c.self.inside.columns c.self.inside.last
sound c =
    subst (λ (v : VersionList). AreVersions (shape_of v.schema) v.commits c.self.inside.chains c.self.inside.columns c.self.inside.last)
    c.self.view_is c.self.invariant

-- the first bytes of the newest blank row are those of the version's
front : (c : After-width_of_row)
    → (row_width c.in-Some.kinds.now ≤ length (blank_at c.self.inside.columns c.args.place.table))
    × (take (row_width c.in-Some.kinds.now) (blank_at c.self.inside.columns c.args.place.table)
    ≡ blank_after_commits c.args.place.table (blank_in (shape_of c.args.self.now.schema) c.args.place.table)
    (take c.args.version c.args.self.now.commits))
front c =
    let table = c.args.place.table in
    let inside = c.self.inside in
    let versions = c.args.self.now in
    let shape = shape_of versions.schema in
    let kinds = c.in-Some.kinds.now in
    let within =
    table-there c.commits_are_defined_one_by_one.ensures.fits c.changes_tell_kinds.ensures.versions shape versions.commits inside.chains
    inside.columns inside.last c.args.version table kinds (sound c) c.in-Some.ensures.value in
    blank-front c.rows_have_their_bytes.ensures shape versions.commits inside.chains inside.columns inside.last c.args.version table
    kinds (sound c) within c.in-Some.ensures.value

pub split_at-requires : goal.split_at-requires
split_at-requires c =
    let wide = (front (goal.at.split_at-requires c).After-width_of_row).0 in
    omega (arith, c.width_of_row.ensures, ap length c.blank.ensures, wide)

pub push_rows-requires-clause-sorted : goal.push_rows-requires-clause-sorted
push_rows-requires-clause-sorted c =
    let inside = c.self.inside in
    λ table row. sorted-at (shape_of inside.schema) inside.commits.items inside.chains table row c.self.invariant.kept

-- what stands before the rows
columns-there : (c : After-push_rows) (kinds : List Kind) → kinds ≡ c.in-Some.kinds.now
    → c.if-place-eq0.image.items
    ≡ c.args.image.now.items
    ++ begun c.args.place.table c.args.place.row (length (kinds_in (shape_of c.args.self.now.schema) c.args.place.table)) kinds
columns-there c kinds is =
    let opened = length (kinds_in (shape_of c.args.self.now.schema) c.args.place.table) in
    let items = c.args.image.now.items in
    elim c.if-place-eq0.branch [
      | then-place-eq0+in_ok-push_columns w ↦
          let added : w.added_at.result.now ≡ drop opened kinds =
          w.added_at.ensures.value
          ∙ ap (λ (found : Option (List Kind)). drop opened (unwrap_or found [])) (sym c.in-Some.ensures.value)
          ∙ ap (drop opened) (sym is) in
          let first : (c.args.place.row == 0) ≡ true = grind (arith, nat_tests, w.if-place-eq0.true) in
          rw w.image-is
          (w.in_ok-push_columns.ensures ∙ ap (λ (own : List Kind). items ++ columns_image c.args.place.table own) added
          ∙ ap (λ (own : List Entry). items ++ own)
          (sym (cond-true (c.args.place.row == 0) (columns_image c.args.place.table (drop opened kinds)) [] first)))
      | else-place-eq0 w ↦
          let later : (c.args.place.row == 0) ≡ false = grind (arith, nat_tests, w.if-place-eq0.false) in
          rw w.image-is
          (sym (ap (λ (own : List Entry). items ++ own)
          (cond-false (c.args.place.row == 0) (columns_image c.args.place.table (drop opened kinds)) [] later) ∙ append-nil items))
    ]

pub returns-clause-part : goal.returns-clause-part
returns-clause-part c =
    let inside = c.self.inside in
    let versions = c.args.self.now in
    let shape = shape_of versions.schema in
    let tables = tables_at versions c.args.version in
    let table = c.args.place.table in
    let from = c.args.place.row in
    let kinds = c.in-Some.kinds.now in
    let items = c.args.image.now.items in
    let here = (goal.at.returns-clause-part c).After-width_of_row in
    let are = sound here in
    let blank = c.split_at.result.0.now in
    let blank_is : blank ≡ blank_after_commits table (blank_in shape table) (take c.args.version versions.commits) =
    c.split_at.ensures.front ∙ ap (take c.width_of_row.result) c.blank.ensures
    ∙ ap (λ (n : ℕ). take n (blank_at inside.columns table)) c.width_of_row.ensures ∙ (front here).1 in
    let first = begun table from (length (kinds_in shape table)) kinds in
    let columns : c.if-place-eq0.image.items ≡ items ++ first =
    columns-there (goal.at.returns-clause-part c).After-push_rows kinds (λ i. kinds) in
    both-ok c.push_rows.result
    (λ next inserts bytes.
    let own = filter (λ row. is_within from next row.0) (rows_of tables table) in
    let rows : inserts_of table (found_at c.args.version blank (chains_within table from next inside.chains)) ≡ rows_image table own =
    rows-found c.rows_have_their_bytes.ensures c.images_rebuild_tables.ensures.rise c.images_rebuild_tables.ensures.back shape
    versions.commits inside.chains c.args.version table from next blank are.legal are.valued are.kept c.push_rows.ensures.ordered blank_is
    bytes in
    inserts
    ∙ ap (λ (more : List Entry). c.if-place-eq0.image.items ++ more) rows
    ∙ ap (λ (before : List Entry). before ++ rows_image table own) columns
    ∙ append_assoc items first (rows_image table own)
    ∙ ap (λ (more : List Entry). items ++ more) (one-part shape tables table from next kinds c.in-Some.ensures.value))
    c.push_rows.ensures.inserts c.push_rows.ensures.bytes
