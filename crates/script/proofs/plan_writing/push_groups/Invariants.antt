-- `by` and the columns so far are written.
use Rattle.std.proofs.Common.{◌≡◌, ◌++◌, ◌∷◌, take, codes}
use Rattle.std.specs.List.{flat_map}
use Rattle.script.specs.Inner.Lines.{tail_text}
use Rattle.script.proofs.PlanParts.{column_words}
use Rattle.script.proofs.plan_writing.push_groups.Given as goal

abbrev pub invariant-loop-column : goal.invariant-loop-column
invariant-loop-column l =
    l.text.items ≡ l.fn.text.items ++ tail_text (codes "by" ∷ flat_map column_words (take l.column-index l.groups))
