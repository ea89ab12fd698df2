-- The frames so far are of the commit, and more of its frames are to come.
use Rattle.intake.specs.Kept.{frames_between}
use Rattle.ordering.specs.Inner.Progress.{IsCommitBegun}
use Rattle.ordering.proofs.gathering.gather.Given as goal

abbrev pub invariant-loop-seq : goal.invariant-loop-seq
invariant-loop-seq l = IsCommitBegun l.number l.entries (frames_between l.intake l.worker l.first l.seq)
