-- What begins the text is found there.
use Rattle.std.proofs.Common.{◌∙◌}
use Rattle.reports.proofs.Cutting.{there, begins, behind-it}
use Rattle.reports.proofs.reading.behind.Goals as goal

pub returns : goal.returns
returns c back is =
    there c.strip_prefix.result _ _ _ c.strip_prefix.ensures.cases
    (λ differs. begins c.args.beginning.now back c.args.text.now is differs)
    (λ rest fits. fits.1 ∙ behind-it c.args.beginning.now back c.args.text.now is)
