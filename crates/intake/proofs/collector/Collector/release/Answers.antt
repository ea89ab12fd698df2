-- What is left was known.
use Rattle.std.proofs.Common.{ℕ, List, sym, subst}
use Rattle.std.specs.Ordering.{nat_cmp}
use Rattle.std.specs.BTreeMap.{is_at}
use Rattle.update_log.specs.declared.frame.Frame.{Frame}
use Rattle.intake.specs.Inner.Collecting.{AreKnown}
use Rattle.intake.proofs.Keeping.{are_known-without}
use Rattle.intake.proofs.collector.Collector.release.Goals as goal

pub invariant_of-self : goal.invariant_of-self
invariant_of-self c =
    subst (λ (entries : List (ℕ × Frame)). AreKnown c.self.inside.known entries) (sym c.remove.ensures.entries)
    (are_known-without c.self.inside.known (is_at (nat_cmp c.args.seq)) c.self.inside.kept.entries c.self.invariant)
