-- The value of the row's group goes with its number; and at the end no row is left.
use mir.Syntax.{w64}
use Rattle.std.proofs.Common.{◌≡◌, pos, ◌<◌, length, map, drop, [], slice_index_or, FitsSigned, sym, ap, ◌∙◌, arith, rules}
use Rattle.std.proofs.lemmas.List.{drop_all, length-map, length-set, get_or-map}
use Rattle.rows.specs.declared.value.Value.TheVariants.{Int}
use Rattle.plans.specs.Inner.Picked.{picked, folded}
use Rattle.plans.specs.Inner.Numbered.{with_extreme}
use Rattle.plans.proofs.Picking.{step, held}
use Rattle.plans.proofs.number_extremes.add_number_extremes.Goals as goal

pub loop-i-preserved : goal.loop-i-preserved
loop-i-preserved c =
    let numbers = c.args.numbers.now in
    let values = map Int c.args.values.now in
    let i = c.loop-i.i in
    let place = slice_index_or numbers i 0 in
    let kept = c.loop-i.fields in
    let there : place < length kept = search rules in
    let number = slice_index_or c.args.values.now i (pos 0) in
    let fits : FitsSigned w64 number = search rules in
    let within : i < length c.args.values.now = omega (arith, c.loop-i-test.true, c.requires.same) in
    let held_at = slice_index_or kept place c.index-fields-numbers.result in
    let is =
    c.put_extreme.ensures
    ∙ ap (with_extreme c.args.aggregate held_at)
    (ap Int (held number fits) ∙ sym (get_or-map Int c.args.values.now i (pos 0) (Int (pos 0)) within)) in
    rw is (record {
      len = length-set kept place _ ∙ c.loop-i.invariant.len;
      fields = λ n d lt.
          step (with_extreme c.args.aggregate) kept numbers values i 0 (Int (pos 0)) c.index-fields-numbers.result d
          (omega (arith, c.loop-i-test.true))
          (omega (arith, within, length-map c.args.values.now Int)) there n (omega (arith, lt, c.loop-i.invariant.len))
          ∙ c.loop-i.invariant.fields n d lt;
    })

pub returns-clause-fields : goal.returns-clause-fields
returns-clause-fields c = λ n d lt.
    let none : drop c.loop-i.i c.args.numbers.now ≡ [] = drop_all c.loop-i.i c.args.numbers.now (omega (arith, c.loop-i-test.false)) in
    ap (λ left. folded (with_extreme c.args.aggregate) (slice_index_or c.loop-i.fields n d)
    (picked n left (drop c.loop-i.i (map Int c.args.values.now)))) (sym none)
    ∙ c.loop-i.invariant.fields n d lt
