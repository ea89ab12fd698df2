-- Bytes that are recovered are not refused.
use Rattle.rows.specs.Shape.{shape_of}
use Rattle.journal.specs.declared.faults.JournalFault.TheVariants.{Damaged}
use Rattle.world.proofs.stopping.commits_kept.Goals as goal

pub unreachable-requires-in-Err-Damaged : goal.unreachable-requires-in-Err-Damaged
unreachable-requires-in-Err-Damaged c =
    let kept = c.requires in
    c.stops_are_recovered.ensures.not_refused kept.0 c.args.workers (shape_of c.args.schema.now) c.args.content.now kept.1 kept.2
    (Damaged c.in-Err-Damaged.field-0-0) kept.3 (λ same. absurd cc) (rw c.in-Err-Damaged.field-0-is at c.in-Err-Damaged.ensures)
