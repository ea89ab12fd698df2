-- The partition has not failed before its first entry.
use Rattle.std.proofs.Common.{◌+◌, refl}
use Rattle.apply.proofs.Going.{goes-ends}
use Rattle.apply.proofs.own.apply_partition.Goals as goal

pub returns : goal.returns
returns c =
    goes-ends c.args.count (c.args.first + c.args.index) c.args.commits.now c.args.partition.now _ c.give_commits.new.partition refl refl
    c.give_commits.ensures
