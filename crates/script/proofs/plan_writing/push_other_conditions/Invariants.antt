-- The conditions so far are written.
use Rattle.std.proofs.Common.{◌≡◌, ◌++◌, take}
use Rattle.std.specs.List.{flat_map}
use Rattle.script.specs.Inner.Lines.{tail_text}
use Rattle.script.specs.PlanText.{and_words}
use Rattle.script.proofs.plan_writing.push_other_conditions.Given as goal

abbrev pub invariant-loop-condition : goal.invariant-loop-condition
invariant-loop-condition l =
    l.text.items ≡ l.fn.text.items ++ tail_text (flat_map and_words (take l.condition-index l.conditions))
