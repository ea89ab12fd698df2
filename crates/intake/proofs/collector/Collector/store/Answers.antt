-- What was put is known then; where the seq is not, what was put is taken back.
use Rattle.std.proofs.Common.{ℕ, List, sym, ap, subst, ◌∙◌}
use Rattle.update_log.specs.declared.frame.Frame.{Frame}
use Rattle.intake.specs.Known.{is_known, with_seq}
use Rattle.intake.specs.State.{Arrivals}
use Rattle.intake.specs.Inner.Collecting.{arrivals_in, AreKnown}
use Rattle.intake.proofs.Keeping.{taken-back, are_known-more}
use Rattle.intake.proofs.collector.Collector.store.Goals as goal

pub invariant_of-self-in-Ok : goal.invariant_of-self-in-Ok
invariant_of-self-in-Ok c =
    let known = c.self.inside.known in
    let kept = c.self.inside.kept.entries in
    let seq = c.args.frame.seq in
    subst (λ (seqs : List ℕ). AreKnown seqs c.insert.new.self.entries) (sym c.in-Ok.ensures.ok)
    (subst (λ (entries : List (ℕ × Frame)). AreKnown (with_seq known seq) entries) (sym c.in_ok-insert.ensures.entries)
    (are_known-more known kept seq c.args.frame c.self.invariant))

pub invariant_of-self-in-Err : goal.invariant_of-self-in-Err
invariant_of-self-in-Err c =
    let known = c.self.inside.known in
    let kept = c.self.inside.kept.entries in
    let seq = c.args.frame.seq in
    let unknown = ap (λ (arrivals : Arrivals). is_known arrivals.known seq) c.self.view_is ∙ c.requires.unknown in
    let back =
    taken-back known kept c.insert.new.self.entries c.remove.new.self.entries seq c.args.frame unknown c.self.invariant
    c.in_ok-insert.ensures.entries c.remove.ensures.entries in
    subst (λ (seqs : List ℕ). AreKnown seqs c.remove.new.self.entries) (sym c.in-Err.ensures.err)
    (subst (λ (entries : List (ℕ × Frame)). AreKnown known entries) (sym back) c.self.invariant)

pub returns-in-Err-clause-err : goal.returns-in-Err-clause-err
returns-in-Err-clause-err c =
    let known = c.self.inside.known in
    let kept = c.self.inside.kept.entries in
    let seq = c.args.frame.seq in
    let unknown = ap (λ (arrivals : Arrivals). is_known arrivals.known seq) c.self.view_is ∙ c.requires.unknown in
    let back =
    taken-back known kept c.insert.new.self.entries c.remove.new.self.entries seq c.args.frame unknown c.self.invariant
    c.in_ok-insert.ensures.entries c.remove.ensures.entries in
    ap (λ (seqs : List ℕ). arrivals_in seqs c.remove.new.self.entries) c.in-Err.ensures.err ∙ ap (arrivals_in known) back ∙ c.self.view_is
