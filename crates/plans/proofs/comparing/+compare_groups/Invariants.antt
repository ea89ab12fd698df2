-- The first group gets shorter.
use Rattle.std.proofs.Common.{length}
use Rattle.plans.proofs.comparing.+compare_groups.Given as goal

abbrev pub decreases-compare_groups : goal.decreases-compare_groups
decreases-compare_groups l = length l.group.now
