-- The numbers that pass are those of a range.
use mir.Syntax.{w64}
use Rattle.std.proofs.Common.{ℕ, ℤ, map, to_z, of_z, FitsSigned, sym, ap, ◌∙◌, rules}
use Rattle.rows.specs.declared.value.Value.{Value}
use Rattle.rows.specs.declared.value.Value.TheVariants.{Int}
use Rattle.queries.specs.Answers.{passes}
use Rattle.queries.specs.Order.{value_cmp}
use Rattle.plans.specs.Inner.Cells.{value_at}
use Rattle.plans.specs.Inner.Selected.{is_selected, number_at}
use Rattle.std.proofs.lemmas.List.Elements.{filter_agree}
use Rattle.plans.proofs.Picking.{held}
use Rattle.plans.proofs.ColumnValues.{value-int, range-agrees}
use Rattle.plans.proofs.passing.select_compared.Goals as goal

pub returns : goal.returns
returns c =
    let range = c.range_of-range.result in
    let bits = λ (number : ℤ). to_z w64 (of_z w64 number) in
    let low : FitsSigned w64 range.low = search rules in
    let high : FitsSigned w64 range.high = search rules in
    let numbers = c.args.numbers.now in
    let positions = c.args.positions.now in
    let p = λ (number : ℤ). is_selected (bits range.low) (bits range.high) range.inside number in
    let q = λ (number : ℤ). passes c.args.comparison (value_cmp (Int number) (Int c.args.value)) in
    c.in_ok-selected.ensures.selected
    ∙ range-agrees p q numbers positions
    (λ number fits.
    ap (λ (l : ℤ). is_selected l (bits range.high) range.inside number) (held range.low low)
    ∙ ap (λ (h : ℤ). is_selected range.low h range.inside number) (held range.high high)
    ∙ c.range_of-range.ensures number fits
    ∙ ap (λ (value : ℤ). passes c.args.comparison (value_cmp (Int number) (Int value))) (held c.args.value c.ranges.value))
    c.in_ok-selected.ensures.fit
    ∙ filter_agree (λ (position : ℕ). q (number_at numbers position))
    (λ (position : ℕ). passes c.args.comparison (value_cmp (value_at (map Int numbers) position) (Int c.args.value)))
    (λ position. ap (λ (value : Value). passes c.args.comparison (value_cmp value (Int c.args.value))) (sym (value-int numbers position)))
    positions
