-- The least seq is not below, so none is.
use Rattle.std.proofs.lemmas.Bool.{ltb-false}
use Rattle.intake.proofs.Keeping.{none_below-first}
use Rattle.intake.proofs.collector.first_is_below.Goals as goal

pub returns-in-Some-clause-none : goal.returns-in-Some-clause-none
returns-in-Some-clause-none c = λ not.
    none_below-first c.args.count c.args.kept.now.entries c.in-Some.first.now (ltb-false c.in-Some.first.now c.args.count not)
    c.in-Some.ensures.all_from
