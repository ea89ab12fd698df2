-- The frames so far.
use Rattle.std.proofs.Common.{◌≡◌, ◌-◌, map, take, drop}
use Rattle.update_log.specs.Streams.{stream_of}
use Rattle.primary.specs.Sending.{frame_to}
use Rattle.primary.proofs.sending.wanted_outs.Given as goal

abbrev pub invariant-loop-seq : goal.invariant-loop-seq
invariant-loop-seq l =
    l.outs.items ≡ map (frame_to l.replica) (take (l.seq - l.start) (drop l.start (stream_of (take l.durable l.commits) l.worker)))
