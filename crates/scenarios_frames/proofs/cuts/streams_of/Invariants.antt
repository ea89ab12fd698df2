-- The streams so far are those of the commits so far.
use Rattle.update_log.specs.Streams.{AreStreamsOf}
use Rattle.scenarios_frames.proofs.cuts.streams_of.Given as goal

abbrev pub invariant-loop-index : goal.invariant-loop-index
invariant-loop-index l = AreStreamsOf l.streams.streams l.commits.items
