-- The lines so far and those of the groups that are left are those of all.
use Rattle.std.proofs.Common.{◌≡◌, ◌++◌, map}
use Rattle.queries.specs.declared.field.Field.TheVariants.{Stored}
use Rattle.plans.proofs.groups.Groups.answer.Given as goal

abbrev pub invariant-loop-group : goal.invariant-loop-group
invariant-loop-group l =
    l.lines.items ++ map (λ entry. map Stored entry.0 ++ entry.1) l.group-iterator
    ≡ map (λ entry. map Stored entry.0 ++ entry.1) l.self
