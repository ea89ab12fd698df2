-- What is recovered of bytes is numbered within 64 bits.
use Rattle.std.proofs.Common.{arith}
use Rattle.rows.specs.Shape.{shape_of}
use Rattle.primary.proofs.Opening.{numbered-recovered}
use Rattle.primary.proofs.starting.kept.Goals as goal

pub returns-in-Ok-clause-numbered : goal.returns-in-Ok-clause-numbered
returns-in-Ok-clause-numbered g c =
    numbered-recovered c.one_cut.ensures.short c.args.workers (shape_of c.args.schema.now) c.args.bytes.now c.in-Ok.recovered.form
    c.in-Ok.recovered.commits.items
    c.in-Ok.recovered.bytes_kept c.in-Ok.ensures (omega arith)
