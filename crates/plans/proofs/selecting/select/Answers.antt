-- A position more is selected, or is not; and at the end none is left.
use mir.Syntax.{w64}
use Rattle.std.proofs.Common.{ℕ, ℤ, ◌+◌, ◌<◌, to_z, of_z, FitsSigned, length, take, slice_set, slice_index_or, sym, ap, ◌∙◌, arith, rules}
use Rattle.std.specs.List.{filter}
use Rattle.std.proofs.lemmas.List.{take_all, take_more, length-set}
use Rattle.std.proofs.lemmas.List.Elements.{All-more}
use Rattle.plans.specs.Inner.Selected.{is_selected, number_at}
use Rattle.plans.proofs.Picking.{held, kept-next, at-most-one}
use Rattle.plans.proofs.selecting.select.Goals as goal

pub loop-i-preserved : goal.loop-i-preserved
loop-i-preserved c =
    let bits = λ (number : ℤ). to_z w64 (of_z w64 number) in
    let test =
    λ (position : ℕ). is_selected (bits c.args.low) (bits c.args.high) c.args.inside (number_at c.args.numbers.now position) in
    let positions = c.args.positions.now in
    let i = c.loop-i.i in
    let count = c.loop-i.count in
    let items = c.loop-i.selected.items in
    let before = c.loop-i.invariant in
    let position = slice_index_or positions i 0 in
    let number = number_at c.args.numbers.now position in
    let fits : FitsSigned w64 number = search rules in
    let is = sym (ap (is_selected (bits c.args.low) (bits c.args.high) c.args.inside) (held number fits)) ∙ sym c.is_selected.ensures in
    let added = c.from-count.ensures in
    let most = at-most-one c.is_selected.result in
    let room : count < length items = omega (arith, c.loop-i-test.true, before.few, before.sizes) in
    record {
      sizes = length-set items count position ∙ before.sizes;
      few = omega (arith, before.few, added, most);
      selected =
          ap (λ n. take (count + n) (slice_set items count position)) added
          ∙ kept-next test (take i positions) items position count c.is_selected.result room is before.selected
          ∙ ap (filter test) (sym (take_more positions i 0 c.loop-i-test.true));
      fit = All-more (λ (position : ℕ). FitsSigned w64 (number_at c.args.numbers.now position)) positions i 0 c.loop-i-test.true before.fit
          fits;
    }

pub returns-clause-selected : goal.returns-clause-selected
returns-clause-selected c =
    let numbers = c.args.numbers.now in
    let all = take_all c.loop-i.i c.args.positions.now (omega (arith, c.loop-i-test.false)) in
    rw (sym (held c.args.low c.ranges.low), sym (held c.args.high c.ranges.high))
    (c.truncate.ensures.items ∙ c.loop-i.invariant.selected
    ∙ ap (filter (λ (position : ℕ).
    is_selected (to_z w64 (of_z w64 c.args.low)) (to_z w64 (of_z w64 c.args.high)) c.args.inside (number_at numbers position)))
    all)
