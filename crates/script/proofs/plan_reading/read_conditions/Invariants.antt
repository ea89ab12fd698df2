-- What was read so far, and what the words that are left give, is what all words give.
use Rattle.std.proofs.Common.{◌≡◌, ◌-◌, codes}
use Rattle.script.specs.Inner.PlanParts.{lent_lists}
use Rattle.script.specs.Inner.PlanReading.{many, condition_behind, conditions_of}
use Rattle.script.proofs.PlanSeries.{onto}
use Rattle.script.proofs.plan_reading.read_conditions.Given as goal

abbrev pub invariant-loop : goal.invariant-loop
invariant-loop l =
    conditions_of (lent_lists l.words) ≡ onto l.conditions.items
    (many (condition_behind (codes "and")) (l.end - l.counter) (lent_lists l.left))
