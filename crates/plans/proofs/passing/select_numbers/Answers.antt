-- A number passes as it stands to the condition's value.
use mir.Syntax.{w64}
use Rattle.std.proofs.Common.{◌≡◌, ℕ, pos, map, FitsSigned, sym, ap, ◌∙◌, rules}
use Rattle.std.specs.List.{filter}
use Rattle.std.proofs.lemmas.List.Elements.{filter_agree}
use Rattle.std.proofs.lemmas.Result.{IfOk-weaker}
use Rattle.rows.specs.declared.value.Value.{Value}
use Rattle.rows.specs.declared.value.Value.TheVariants.{Int}
use Rattle.queries.specs.Answers.{passes}
use Rattle.queries.specs.Order.{value_cmp}
use Rattle.plans.specs.Inner.Cells.{value_at, does_pass}
use Rattle.plans.proofs.Picking.{held}
use Rattle.plans.proofs.ColumnValues.{octets-pass}
use Rattle.plans.proofs.passing.select_numbers.Goals as goal

pub returns-in-Int : goal.returns-in-Int
returns-in-Int c =
    let condition = c.args.condition.now in
    let numbers = c.args.numbers.now in
    let positions = c.args.positions.now in
    let fits : FitsSigned w64 c.in-Int.value = search rules in
    IfOk-weaker c.select_compared.result _ (λ selected. selected.items ≡ filter (does_pass condition (map Int numbers)) positions)
    (λ selected e.
    e
    ∙ ap (λ (value : Value).
    filter (λ (position : ℕ). passes condition.comparison (value_cmp (value_at (map Int numbers) position) value)) positions)
    (ap Int (held c.in-Int.value fits) ∙ sym c.in-Int.is))
    c.select_compared.ensures

pub returns-in-Octets : goal.returns-in-Octets
returns-in-Octets c =
    let condition = c.args.condition.now in
    let numbers = c.args.numbers.now in
    let positions = c.args.positions.now in
    IfOk-weaker c.select_any.result _ (λ selected. selected.items ≡ filter (does_pass condition (map Int numbers)) positions)
    (λ selected e.
    e ∙ filter_agree (λ (position : ℕ). passes condition.comparison (value_cmp (Int (pos 0)) condition.value))
    (does_pass condition (map Int numbers)) (octets-pass condition numbers c.in-Octets.field-0 c.in-Octets.is) positions)
    c.select_any.ensures
