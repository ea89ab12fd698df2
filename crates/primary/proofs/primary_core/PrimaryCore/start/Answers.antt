-- Bytes that are refused are not recovered, and have one fault.
use Rattle.rows.specs.Shape.{shape_of}
use Rattle.primary.proofs.Opening.{tells-fault}
use Rattle.primary.proofs.primary_core.PrimaryCore.start.Goals as goal

pub returns-in-Ok-clause-told : goal.returns-in-Ok-clause-told
returns-in-Ok-clause-told g c honest fault refused other =
    let kept = c.in-Ok.ensures.kept honest in
    c.stops_are_recovered.ensures.not_refused kept.0 c.args.workers (shape_of c.args.schema.now) (g.J.JournalStore.standing c.args.journal)
    c.in-Ok.opened.lists.durable kept.1 fault kept.2 other refused

pub returns-in-Err-clause-told : goal.returns-in-Err-clause-told
returns-in-Err-clause-told g c honest fault refused other =
    tells-fault c.args.workers (shape_of c.args.schema.now) (g.J.JournalStore.is_honest c.args.journal)
    (g.J.JournalStore.standing c.args.journal) fault c.in-Err.fault c.stops_are_recovered.ensures.refused_once honest
    c.in-Err.ensures.refused refused other
