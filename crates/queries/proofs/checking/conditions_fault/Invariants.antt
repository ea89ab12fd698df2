-- What is left decides for all.
use Rattle.std.proofs.Common.{◌≡◌, map, drop}
use Rattle.queries.specs.Checking.{first, condition_fault}
use Rattle.queries.proofs.checking.conditions_fault.Given as goal

abbrev pub invariant-loop-condition : goal.invariant-loop-condition
invariant-loop-condition l =
    first (map (condition_fault l.own l.joined) (drop l.condition-index l.conditions))
    ≡ first (map (condition_fault l.own l.joined) l.conditions)
