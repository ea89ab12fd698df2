-- The part of one table more.
use Rattle.std.proofs.Common.{◌++◌, sym, ap, ◌∙◌, arith}
use Rattle.rows.specs.Shape.{shape_of}
use Rattle.journal.specs.Text.{table_header}
use Rattle.journal.proofs.Texts.{header_more, no_gap}
use Rattle.journal.proofs.header.header_of.Goals as goal
use Rattle.journal.proofs.header.header_of.Goals.{in-Some, in_default}

pub loop-table-preserved : goal.loop-table-preserved
loop-table-preserved c =
    let shape = shape_of c.args.schema.now in
    elim c.match-kinds.branch [
      | in-Some w ↦
          let kinds = w.in-Some.kinds.now in
          record {
            written =
                rw w.bytes-is (w.push_table.ensures.items ∙ ap (λ text. text ++ table_header kinds) c.loop-table.invariant.written
                ∙ header_more c.args.form c.args.workers shape c.loop-table.table kinds (sym w.in-Some.ensures.value));
            few = rw w.bytes-is (omega (arith, w.push_table.ensures.len, c.loop-table.invariant.few));
          }
      | in_default w ↦ absurd (no_gap c.args.schema.now c.loop-table.table (omega arith) w.in_default.ensures.value)
    ]
