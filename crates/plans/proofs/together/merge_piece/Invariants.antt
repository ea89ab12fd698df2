-- The groups of the others that are left are to be merged.
use Rattle.std.proofs.Common.{◌+◌, vec_len}
use Rattle.plans.proofs.MergedPieces.{PlansMerge}
use Rattle.plans.proofs.together.merge_piece.Given as goal

abbrev pub invariant-loop-other : goal.invariant-loop-other
invariant-loop-other l =
    PlansMerge l.plans l.table (l.rows + l.other_rows) l.initial.groups l.initial.others.items l.groups l.others.items

abbrev pub decreases-loop-other : goal.decreases-loop-other
decreases-loop-other l = vec_len l.others
