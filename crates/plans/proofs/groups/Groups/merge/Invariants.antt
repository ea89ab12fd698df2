-- The groups so far, and those of the others that are left.
use Rattle.plans.proofs.Parts.{IsMerging}
use Rattle.plans.proofs.groups.Groups.merge.Given as goal

abbrev pub invariant-loop-key : goal.invariant-loop-key
invariant-loop-key l = IsMerging l.aggregates l.initial.self l.fn.others l.self l.key-iterator l.rows l.other_rows
