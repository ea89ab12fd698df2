-- `get` and the aggregates so far are written.
use Rattle.std.proofs.Common.{◌≡◌, ◌++◌, ◌∷◌, take, codes}
use Rattle.std.specs.List.{flat_map}
use Rattle.script.specs.Inner.Lines.{tail_text}
use Rattle.script.specs.PlanText.{aggregate_words}
use Rattle.script.proofs.plan_writing.push_aggregates.Given as goal

abbrev pub invariant-loop-aggregate : goal.invariant-loop-aggregate
invariant-loop-aggregate l =
    l.text.items ≡ l.fn.text.items ++ tail_text (codes "get" ∷ flat_map aggregate_words (take l.aggregate-index l.aggregates))
