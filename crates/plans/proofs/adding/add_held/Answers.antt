-- What is lent of what is held is what the aggregates take of the rows.
use Rattle.std.proofs.Common.{length, sym, subst}
use Rattle.plans.specs.Inner.Numbered.{AreInputs, AreInputsOf}
use Rattle.plans.proofs.Selections.{inputs-of, inputs-sized}
use Rattle.plans.proofs.adding.add_held.Goals as goal

pub add-requires-clause-inputs : goal.add-requires-clause-inputs
add-requires-clause-inputs c =
    let aggregates = c.args.aggregates.now in
    let held = c.requires.held in
    subst (AreInputsOf (length c.args.numbers.now) aggregates) (sym c.as_slice.ensures.value)
    (inputs-sized (length c.args.numbers.now) aggregates c.in_ok-inputs.inputs.items held.values
    (c.in_ok-inputs.ensures held.values aggregates held.are.sizes held.are) held.sized)

pub returns-clause-tallied : goal.returns-clause-tallied
returns-clause-tallied c = λ values columns keys earlier more held are numbered tallied.
    c.add.ensures.tallied columns keys earlier more tallied numbered
    (subst (AreInputs more c.args.aggregates.now) (sym c.as_slice.ensures.value)
    (inputs-of more c.args.aggregates.now c.in_ok-inputs.inputs.items values
    (c.in_ok-inputs.ensures values c.args.aggregates.now held.sizes held) are))
