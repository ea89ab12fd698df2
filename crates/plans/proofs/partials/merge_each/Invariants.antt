-- The groups of the others that are left are to be merged.
use Rattle.std.proofs.Common.{vec_len}
use Rattle.plans.proofs.Ranged.{EachMerges}
use Rattle.plans.proofs.partials.merge_each.Given as goal

abbrev pub invariant-loop-other : goal.invariant-loop-other
invariant-loop-other l =
    EachMerges l.aggregates l.initial.groups l.initial.others.items l.groups l.others.items l.rows l.other_rows

abbrev pub decreases-loop-other : goal.decreases-loop-other
decreases-loop-other l = vec_len l.others
