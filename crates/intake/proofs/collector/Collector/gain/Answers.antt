-- What was known is known then.
use Rattle.std.proofs.Common.{ℕ, List, sym, subst}
use Rattle.intake.specs.Inner.Collecting.{AreKnown}
use Rattle.intake.proofs.Keeping.{are_known-below}
use Rattle.intake.proofs.collector.Collector.gain.Goals as goal

pub invariant_of-self : goal.invariant_of-self
invariant_of-self c =
    subst (λ (seqs : List ℕ). AreKnown seqs c.self.inside.kept.entries) (sym c.gain.ensures)
    (are_known-below c.args.base c.self.inside.known c.self.inside.kept.entries c.self.invariant)
