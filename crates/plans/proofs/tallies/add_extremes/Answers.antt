-- The value of the row's group goes with its own; and at the end no row is left.
use Rattle.std.proofs.Common.{◌≡◌, drop, [], slice_index_or, sym, ap, ◌∙◌, arith}
use Rattle.std.proofs.lemmas.List.{drop_all}
use Rattle.plans.specs.Inner.Picked.{picked, folded}
use Rattle.plans.specs.Inner.Numbered.{with_extreme}
use Rattle.plans.proofs.tallies.add_extremes.Goals as goal

pub returns-clause-fields : goal.returns-clause-fields
returns-clause-fields c = λ n d lt.
    let none : drop c.loop-i.i c.args.numbers.now ≡ [] = drop_all c.loop-i.i c.args.numbers.now (omega (arith, c.loop-i-test.false)) in
    ap (λ left. folded (with_extreme c.args.aggregate) (slice_index_or c.loop-i.fields n d)
    (picked n left (drop c.loop-i.i c.args.values.now))) (sym none)
    ∙ c.loop-i.invariant.fields n d lt
