-- Values that compare equal are the same.
use Rattle.std.proofs.Common.{◌≡◌, refl, sym, ◌∙◌}
use Rattle.plans.proofs.Orders.{value_cmp-exact, is_Equal}
use Rattle.plans.proofs.distinct.is_same_condition.Goals as goal

pub returns : goal.returns
returns c = λ same.
    let first = c.args.condition.now.value in
    let second = c.args.other.now.value in
    let values : first ≡ second =
    value_cmp-exact first second (sym c.compare.ensures ∙ is_Equal c.compare.result (sym c.is_eq.ensures ∙ same)) in
    let columns = c.if-not-is_same_column.ensures refl in
    let comparisons = c.if-not-is_same_comparison.ensures refl in
    λ i. record { column = columns i; comparison = comparisons i; value = values i }
