-- The seq that is held as the first missing one is that.
use Rattle.std.proofs.Common.{sym, ap, ◌∙◌}
use Rattle.intake.specs.Known.{first_missing}
use Rattle.intake.proofs.Holding.{first_missing-held}
use Rattle.intake.proofs.known_seqs.KnownSeqs.first_missing.Goals as goal

pub returns : goal.returns
returns c =
    sym (ap first_missing (sym c.self.view_is)
    ∙ first_missing-held c.self.inside.missing c.self.inside.above.keys c.self.invariant.held.from)
