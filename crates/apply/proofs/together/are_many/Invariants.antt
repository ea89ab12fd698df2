-- What the commits so far leave of the bound.
use Rattle.std.proofs.Common.{◌≡◌, ◌+◌, ◌<◌, length, take}
use Rattle.apply.specs.Limits.{together_min}
use Rattle.apply.specs.Inner.Gathered.{entries_of}
use Rattle.apply.proofs.together.are_many.Given as goal

abbrev pub invariant-loop-commit : goal.invariant-loop-commit
invariant-loop-commit l = (l.left + length (entries_of (take l.commit-index l.commits)) ≡ together_min) × (0 < l.left)
