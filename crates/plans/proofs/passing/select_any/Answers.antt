-- Each number stands to octets as 0 does.
use Rattle.std.proofs.Common.{◌≡◌, pos, true, false, sym, ap, ◌∙◌}
use Rattle.std.specs.List.{filter}
use Rattle.std.proofs.lemmas.Result.{IfOk-weaker}
use Rattle.rows.specs.declared.value.Value.TheVariants.{Int}
use Rattle.queries.specs.Answers.{passes}
use Rattle.queries.specs.Order.{value_cmp}
use Rattle.plans.proofs.ColumnValues.{filter-all, filter-none}
use Rattle.plans.proofs.passing.select_any.Goals as goal

pub returns-then-passes : goal.returns-then-passes
returns-then-passes c =
    let condition = c.args.condition.now in
    let positions = c.args.positions.now in
    let stands = passes condition.comparison (value_cmp (Int (pos 0)) condition.value) in
    let all : stands ≡ true = sym (ap (passes condition.comparison) c.compare.ensures) ∙ sym c.passes.ensures ∙ c.if-passes.true in
    IfOk-weaker c.from_slice.result _ (λ selected. selected.items ≡ filter (λ position. stands) positions)
    (λ selected e. e ∙ sym (filter-all stands positions all)) c.from_slice.ensures.items

pub returns-else-passes : goal.returns-else-passes
returns-else-passes c =
    let condition = c.args.condition.now in
    let stands = passes condition.comparison (value_cmp (Int (pos 0)) condition.value) in
    let none : stands ≡ false = sym (ap (passes condition.comparison) c.compare.ensures) ∙ sym c.passes.ensures ∙ c.if-passes.false in
    c.new.ensures.items ∙ sym (filter-none stands c.args.positions.now none)
