-- The sum of the row's group has its value added; and at the end no row is left.
use Rattle.std.proofs.Common.{◌≡◌, pos, ◌+◌, ◌+ℤ◌, ◌^◌, ◌<◌, length, drop, [], slice_index_or, FitsSigned, w64, sym, ap, ◌∙◌, arith, rules}
use Rattle.std.proofs.lemmas.List.{drop_all, length-set}
use Rattle.plans.specs.Inner.Picked.{picked, folded}
use Rattle.plans.proofs.Picking.{folded-total, step, within-set, IsWithin-add, IsWithin-fits, landed}
use Rattle.plans.proofs.tallying.add_sums.Goals as goal

pub loop-i-preserved : goal.loop-i-preserved
loop-i-preserved c =
    let numbers = c.args.numbers.now in
    let i = c.loop-i.i in
    let place = slice_index_or numbers i 0 in
    let sums = c.loop-i.sums in
    let there : place < length sums = search rules in
    let count = c.args.rows + i in
    let number = slice_index_or c.args.values.now i (pos 0) in
    let sum = slice_index_or sums place (pos 0) in
    let within = c.loop-i.invariant.within place (pos 0) there in
    let fits : FitsSigned w64 number = search rules in
    let next = IsWithin-add count sum number within fits in
    let few : count + 1 < 2 ^ 64 = omega (arith, c.requires.few, c.loop-i-test.true) in
    let is = landed sum number (IsWithin-fits count sum within (omega (arith, few))) fits
    (IsWithin-fits (count + 1) (sum +ℤ number) next few) in
    rw (c.sum_with.ensures.sum, is) (record {
      len = length-set sums place (sum +ℤ number) ∙ c.loop-i.invariant.len;
      within = within-set count (c.args.rows + (i + 1)) sums place (sum +ℤ number) (omega arith) there c.loop-i.invariant.within next;
      sums = λ n d lt.
          step (λ sum value. sum +ℤ value) sums numbers c.args.values.now i 0 (pos 0) (pos 0) d (omega (arith, c.loop-i-test.true))
          (omega (arith, c.loop-i-test.true, c.requires.same)) there n (omega (arith, lt, c.loop-i.invariant.len))
          ∙ c.loop-i.invariant.sums n d lt;
    })

pub returns-clause-sums : goal.returns-clause-sums
returns-clause-sums c = λ n d lt.
    let numbers = c.args.numbers.now in
    let values = c.args.values.now in
    let none : drop c.loop-i.i numbers ≡ [] = drop_all c.loop-i.i numbers (omega (arith, c.loop-i-test.false)) in
    ap (λ left. folded (λ sum value. sum +ℤ value) (slice_index_or c.loop-i.sums n d) (picked n left (drop c.loop-i.i values))) (sym none)
    ∙ c.loop-i.invariant.sums n d lt
    ∙ folded-total (slice_index_or c.args.sums.now n d) (picked n numbers values)
