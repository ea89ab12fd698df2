-- A base above the first missing seq takes its place, and those below it are no longer held; any other base changes nothing.
use Rattle.std.proofs.Common.{◌≡◌, ℕ, ◌-◌, ◌<◌, ◌^◌, List, true, sym, ap, subst, ◌∙◌, arith}
use Rattle.intake.specs.Known.{is_known, with_below}
use Rattle.intake.specs.Inner.Held.{seqs_in, AreAtLeast, AreBelow}
use Rattle.intake.proofs.Holding.{from-least, from-each, held-below, held-gained, below-more, passed-more}
use Rattle.intake.proofs.known_seqs.KnownSeqs.gain.Goals as goal

pub pass_known-self-inside-requires-clause-from : goal.pass_known-self-inside-requires-clause-from
pass_known-self-inside-requires-clause-from c =
    subst (AreAtLeast c.args.base) (sym c.drop_under.ensures) (from-least c.args.base c.self.inside.above.keys)

pub pass_known-self-inside-requires-clause-below : goal.pass_known-self-inside-requires-clause-below
pass_known-self-inside-requires-clause-below c =
    subst (AreBelow (2 ^ 64 - 1)) (sym c.drop_under.ensures)
    (from-each (λ (seq : ℕ). seq < 2 ^ 64 - 1) c.args.base c.self.inside.above.keys c.self.invariant.held.below)

pub invariant_of-self : goal.invariant_of-self
invariant_of-self c =
    let base = c.args.base in
    let missing = c.self.inside.missing in
    let above = c.self.inside.above.keys in
    let now : seqs_in c.pass_known-self-inside.result c.pass_known-self-inside.new.above.keys ≡ with_below (seqs_in missing above) base =
    c.pass_known-self-inside.ensures.same ∙ ap (seqs_in base) c.drop_under.ensures
    ∙ held-gained base missing above (omega (arith, c.if-base-self.true)) in
    record {
      held = c.pass_known-self-inside.ensures.held;
      cursor =
          passed-more c.self.inside.base c.self.inside.next (seqs_in missing above)
          (seqs_in c.pass_known-self-inside.result c.pass_known-self-inside.new.above.keys)
          (λ seq h. subst (λ (known : List ℕ). is_known known seq ≡ true) (sym now) (below-more base (seqs_in missing above) seq h))
          c.self.invariant.cursor;
    }

pub returns-then-base-self : goal.returns-then-base-self
returns-then-base-self c =
    let base = c.args.base in
    let missing = c.self.inside.missing in
    let above = c.self.inside.above.keys in
    c.pass_known-self-inside.ensures.same ∙ ap (seqs_in base) c.drop_under.ensures
    ∙ held-gained base missing above (omega (arith, c.if-base-self.true))
    ∙ ap (λ (known : List ℕ). with_below known base) c.self.view_is

pub returns-else-base-self : goal.returns-else-base-self
returns-else-base-self c =
    subst (λ (known : List ℕ). known ≡ with_below known c.args.base) c.self.view_is
    (held-below c.args.base c.self.inside.missing c.self.inside.above.keys (omega (arith, c.if-base-self.false)) c.self.invariant.held.from)
