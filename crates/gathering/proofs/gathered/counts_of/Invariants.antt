-- The numbers so far are those of the first requests.
use Rattle.std.proofs.Common.{◌≡◌, take, map}
use Rattle.gathering.specs.Requests.{count_of}
use Rattle.gathering.proofs.gathered.counts_of.Given as goal

abbrev pub invariant-loop-part : goal.invariant-loop-part
invariant-loop-part l = l.counts.items ≡ map count_of (take l.part-index l.under_way)
