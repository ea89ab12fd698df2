-- The frames up to the base, and those behind it.
use Rattle.std.proofs.Common.{arith}
use Rattle.primary.proofs.Behind.{count-at}
use Rattle.primary.proofs.Streams.{numbered-front}
use Rattle.primary.proofs.tail.Tail.count.Goals as goal

pub returns : goal.returns
returns c commits kept numbered =
    omega (
      arith,
      c.saturating_add.ensures,
      c.low.ensures commits kept,
      c.count-behind.ensures _ kept.framed,
      count-at c.streams_go_on.ensures commits c.args.worker c.args.self.now.base c.args.version c.requires,
      (numbered-front commits c.args.version numbered).frames_below c.args.worker,
    )
