-- The partition was given its own of those so far.
use Rattle.std.proofs.Common.{◌+◌, take}
use Rattle.apply.specs.Inner.Ends.{GoesOn}
use Rattle.apply.specs.Inner.Gathered.{entries_in}
use Rattle.apply.proofs.own.give_all.Given as goal

abbrev pub invariant-loop-entry : goal.invariant-loop-entry
invariant-loop-entry l = GoesOn (entries_in l.count (l.first + l.index) (take l.entry-index l.entries)) l.fn.partition l.partition
