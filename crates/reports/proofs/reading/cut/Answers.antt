-- The first such byte is the one that is behind the front.
use Rattle.std.proofs.Common.{sym, ◌∙◌}
use Rattle.reports.proofs.Cutting.{cut-parts, not-missed}
use Rattle.reports.proofs.reading.cut.Goals as goal

pub returns-in_err-end-clause-parts : goal.returns-in_err-end-clause-parts
returns-in_err-end-clause-parts c front back free is =
    absurd (not-missed c.args.byte front back c.args.text.now free is (sym c.in_err-end.was ∙ c.index_of.ensures))

pub returns-clause-parts : goal.returns-clause-parts
returns-clause-parts c front back free is =
    cut-parts c.args.byte front back c.args.text.now c.in_ok-end.end free is (sym c.in_ok-end.was ∙ c.index_of.ensures)
