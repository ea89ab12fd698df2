-- The streams of the commits so far.
use Rattle.std.proofs.Common.{take}
use Rattle.update_log.specs.Streams.{AreStreamsOf}
use Rattle.primary.proofs.keeping.streams_of.Given as goal

abbrev pub invariant-loop-index : goal.invariant-loop-index
invariant-loop-index l = AreStreamsOf l.streams.streams (take l.index l.commits)
