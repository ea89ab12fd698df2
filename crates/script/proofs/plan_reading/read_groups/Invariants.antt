-- What was read so far, and what the words that are left give, is what all words give.
use Rattle.std.proofs.Common.{◌≡◌, ◌-◌}
use Rattle.script.specs.Inner.PlanParts.{lent_lists}
use Rattle.script.specs.Inner.PlanReading.{many, column_first, groups_of}
use Rattle.script.proofs.PlanSeries.{onto}
use Rattle.script.proofs.plan_reading.read_groups.Given as goal

abbrev pub invariant-loop : goal.invariant-loop
invariant-loop l =
    groups_of (lent_lists l.words) ≡ onto l.groups.items (many column_first (l.end - l.counter) (lent_lists l.left))
