-- Numbers are the integers of themselves.
use Rattle.std.proofs.Common.{map, sym, ap, ◌∙◌}
use Rattle.queries.specs.Answers.{integer_of}
use Rattle.plans.specs.Inner.Cells.{values_of}
use Rattle.plans.proofs.ColumnValues.{integers-int}
use Rattle.plans.proofs.held_input.integers_at.Goals as goal

pub returns-in-Lent : goal.returns-in-Lent
returns-in-Lent c =
    sym (ap (map integer_of) (sym c.in_ok-taken.ensures) ∙ ap (λ cells. map integer_of (values_of cells)) c.in-Lent.is
    ∙ integers-int c.in-Lent.numbers.now)

pub returns-in-Numbers : goal.returns-in-Numbers
returns-in-Numbers c =
    sym (ap (map integer_of) (sym c.in_ok-taken.ensures) ∙ ap (λ cells. map integer_of (values_of cells)) c.in-Numbers.is
    ∙ integers-int c.in-Numbers.numbers.items)
