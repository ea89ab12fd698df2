-- The entry is judged by the kinds that the entries before it make of its table's.
use Rattle.std.proofs.Common.{◌≡◌, ◌&&◌, Some, sym, ap, ◌∙◌}
use Rattle.std.specs.Result.{is_ok}
use Rattle.rows.specs.Entries.{fitting_in, fitting, shape_after}
use Rattle.rows.specs.Presence.{stands_for}
use Rattle.rows.specs.Tables.{shape_in}
use Rattle.mvcc.specs.VersionList.{tables_at}
use Rattle.mvcc.proofs.Definedness.{fits-behind, fits-none}
use Rattle.mvcc.proofs.defining.is_defined_behind.Goals as goal

pub returns-in-None-clause-answer : goal.returns-in-None-clause-answer
returns-in-None-clause-answer c =
    let entry = c.args.entry.now in
    sym (ap (λ fits. fits && stands_for entry c.args.there)
    (fits-none (shape_in (tables_at c.args.versions.now c.args.version)) c.table-table.result c.args.before.now entry
    c.table-table.ensures c.in-None.ensures.value))

pub returns-then-is_ok-clause-answer : goal.returns-then-is_ok-clause-answer
returns-then-is_ok-clause-answer c =
    let entry = c.args.entry.now in
    let shape = shape_in (tables_at c.args.versions.now c.args.version) in
    let fits : is_ok (fitting (shape_after shape c.args.before.now) entry) ≡ c.is_ok.result =
    ap is_ok (fits-behind shape c.table-table.result c.in-Some.kinds.now c.kinds_behind-behind.result c.args.before.now entry
    c.table-table.ensures c.in-Some.ensures.value c.kinds_behind-behind.ensures.kinds
    ∙ ap (λ kinds. fitting_in (Some kinds) entry) (sym c.as_slice.ensures) ∙ sym c.fits_table.ensures.exact)
    ∙ sym c.is_ok.ensures.value in
    c.is_possible.ensures ∙ sym (ap (λ fits. fits && stands_for entry c.args.there) (fits ∙ c.if-is_ok.true))

pub returns-else-is_ok-clause-answer : goal.returns-else-is_ok-clause-answer
returns-else-is_ok-clause-answer c =
    let entry = c.args.entry.now in
    let shape = shape_in (tables_at c.args.versions.now c.args.version) in
    let fits : is_ok (fitting (shape_after shape c.args.before.now) entry) ≡ c.is_ok.result =
    ap is_ok (fits-behind shape c.table-table.result c.in-Some.kinds.now c.kinds_behind-behind.result c.args.before.now entry
    c.table-table.ensures c.in-Some.ensures.value c.kinds_behind-behind.ensures.kinds
    ∙ ap (λ kinds. fitting_in (Some kinds) entry) (sym c.as_slice.ensures) ∙ sym c.fits_table.ensures.exact)
    ∙ sym c.is_ok.ensures.value in
    c.if-is_ok.false ∙ sym (ap (λ fits. fits && stands_for entry c.args.there) (fits ∙ c.if-is_ok.false))
