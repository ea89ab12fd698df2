-- No row is left.
use Rattle.std.proofs.Common.{◌≡◌, ◌+◌, drop, [], slice_index_or, sym, ap, ◌∙◌, arith}
use Rattle.std.proofs.lemmas.List.{drop_all}
use Rattle.plans.specs.Inner.Picked.{picked, folded}
use Rattle.plans.proofs.Picking.{folded-count}
use Rattle.plans.proofs.tallying.add_counts.Goals as goal

pub returns-clause-counts : goal.returns-clause-counts
returns-clause-counts c = λ n d lt.
    let numbers = c.args.numbers.now in
    let none : drop c.loop-i.i numbers ≡ [] = drop_all c.loop-i.i numbers (omega (arith, c.loop-i-test.false)) in
    ap (λ left. folded (λ count number. count + 1) (slice_index_or c.loop-i.counts n d) (picked n left left)) (sym none)
    ∙ c.loop-i.invariant.counts n d lt
    ∙ folded-count (slice_index_or c.args.counts.now n d) (picked n numbers numbers)
