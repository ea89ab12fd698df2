-- The frames up to the base, and those behind it.
use Rattle.std.proofs.Common.{arith}
use Rattle.primary.proofs.Behind.{total-at}
use Rattle.primary.proofs.tail.Tail.next_seq.Goals as goal

pub returns : goal.returns
returns c commits kept numbered =
    omega (
      arith,
      c.saturating_add.ensures,
      c.low.ensures commits kept,
      c.next_seq-behind.ensures,
      kept.framed.counted c.args.worker,
      total-at c.streams_go_on.ensures commits c.args.worker c.args.self.now.base,
      numbered.frames_below c.args.worker,
    )
