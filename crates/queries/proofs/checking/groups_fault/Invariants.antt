-- What is left decides for all.
use Rattle.std.proofs.Common.{◌≡◌, map, drop}
use Rattle.queries.specs.Checking.{first, group_fault}
use Rattle.queries.proofs.checking.groups_fault.Given as goal

abbrev pub invariant-loop-column : goal.invariant-loop-column
invariant-loop-column l =
    first (map (group_fault l.own l.joined) (drop l.column-index l.columns)) ≡ first (map (group_fault l.own l.joined) l.columns)
