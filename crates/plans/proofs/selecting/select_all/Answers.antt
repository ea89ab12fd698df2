-- A position more is selected, or is not.
use mir.Syntax.{w64}
use Rattle.std.proofs.Common.{ℕ, ℤ, ◌+◌, ◌<◌, to_z, of_z, FitsSigned, length, take, slice_set, sym, ap, subst, ◌∙◌, arith, rules}
use Rattle.std.specs.List.{All, filter, range_with_len}
use Rattle.std.proofs.lemmas.List.{length-set}
use Rattle.std.proofs.lemmas.List.Elements.{All-push}
use Rattle.plans.specs.Inner.Selected.{is_selected, number_at}
use Rattle.plans.proofs.Picking.{held, kept-next, at-most-one, positions-next}
use Rattle.plans.proofs.selecting.select_all.Goals as goal

pub loop-position-preserved : goal.loop-position-preserved
loop-position-preserved c =
    let bits = λ (number : ℤ). to_z w64 (of_z w64 number) in
    let numbers = c.args.numbers.now in
    let test = λ (position : ℕ). is_selected (bits c.args.low) (bits c.args.high) c.args.inside (number_at numbers position) in
    let position = c.loop-position.position in
    let count = c.loop-position.count in
    let items = c.loop-position.selected.items in
    let before = c.loop-position.invariant in
    let number = number_at numbers position in
    let fits : FitsSigned w64 number = search rules in
    let is = sym (ap (is_selected (bits c.args.low) (bits c.args.high) c.args.inside) (held number fits)) ∙ sym c.is_selected.ensures in
    let added = c.from-count.ensures in
    let most = at-most-one c.is_selected.result in
    let next = sym (positions-next position) in
    let fit = λ (position : ℕ). FitsSigned w64 (number_at numbers position) in
    let room : count < length items = omega (arith, c.loop-position-test.true, c.in-Ok.ensures.1, before.few, before.sizes) in
    record {
      sizes = length-set items count position ∙ before.sizes;
      few = omega (arith, before.few, added, most);
      selected =
          ap (λ n. take (count + n) (slice_set items count position)) added
          ∙ kept-next test (range_with_len 0 position) items position count c.is_selected.result room is before.selected
          ∙ ap (filter test) next;
      fit = subst (All fit) next (All-push fit (range_with_len 0 position) position before.fit fits);
    }
