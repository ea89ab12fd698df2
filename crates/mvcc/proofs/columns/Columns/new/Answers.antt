-- One table of the schema on, until there is no other.
use Rattle.std.proofs.Common.{◌≡◌, length, slice_get, sym, ap, ◌∙◌, arith, vec_len}
use Rattle.rows.specs.Shape.{shape_of}
use Rattle.mvcc.proofs.Places.{slice_get-past}
use Rattle.mvcc.proofs.TableCommits.{opened-more, opened-all}
use Rattle.mvcc.proofs.columns.Columns.new.Goals as goal

pub loop-kinds-preserved : goal.loop-kinds-preserved
loop-kinds-preserved c =
    let shape = shape_of c.args.schema.now in
    let tables = c.loop-kinds.tables in
    let count : vec_len tables ≡ length tables.items = omega (arith, tables.ok) in
    opened-more shape tables.items c.push.new.self.items c.in_ok-new.field-0 c.in-Some.kinds.now c.loop-kinds.invariant
    (c.in-Some.ensures.value ∙ ap (slice_get shape) (c.len.ensures ∙ count)) c.in_ok-new.ensures c.in_ok-push.ensures.items

pub returns : goal.returns
returns c =
    let shape = shape_of c.args.schema.now in
    let tables = c.loop-kinds.tables in
    let count : vec_len tables ≡ length tables.items = omega (arith, tables.ok) in
    opened-all shape tables.items c.loop-kinds.invariant
    (slice_get-past shape (length tables.items) (sym (c.in_default.ensures.value ∙ ap (slice_get shape) (c.len.ensures ∙ count))))
