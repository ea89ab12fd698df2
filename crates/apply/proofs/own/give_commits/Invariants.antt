-- The partition was given its own of those so far.
use Rattle.std.proofs.Common.{◌+◌, take}
use Rattle.apply.specs.Inner.Ends.{GoesOn}
use Rattle.apply.specs.Inner.Gathered.{entries_in, entries_of}
use Rattle.apply.proofs.own.give_commits.Given as goal

abbrev pub invariant-loop-commit : goal.invariant-loop-commit
invariant-loop-commit l =
    GoesOn (entries_in l.count (l.first + l.index) (entries_of (take l.commit-index l.commits))) l.fn.partition l.partition
