-- It is the first that is missing, or the one at which the walk above that ends.
use Rattle.std.proofs.Common.{ℕ, List, sym, ap, subst, ◌∙◌, arith}
use Rattle.intake.specs.Known.{first_missing_from}
use Rattle.intake.specs.Inner.Held.{seqs_in, IsPassed}
use Rattle.intake.proofs.Passing.{least-above, least-below}
use Rattle.intake.proofs.known_seqs.KnownSeqs.first_missing_from.Goals.{then-base-self-2, else-base-self-2}
use Rattle.intake.proofs.known_seqs.KnownSeqs.first_missing_from.Goals as goal

pub returns-then-base-self : goal.returns-then-base-self
returns-then-base-self c =
    least-below c.self.inside.missing c.self.inside.above.keys c.args.base c.if-base-self.true c.self.invariant.held.from
    ∙ ap (λ (known : List ℕ). first_missing_from known c.args.base) c.self.view_is

pub returns : goal.returns
returns c =
    let missing = c.self.inside.missing in
    let above = c.self.inside.above.keys in
    let known = seqs_in missing above in
    let front : IsPassed c.args.base c.if-base-self-2.from known =
    elim c.if-base-self-2.branch [
      | then-base-self-2 w ↦
          subst (λ (n : ℕ). IsPassed n c.if-base-self-2.from known) (sym w.if-base-self-2.true)
          (subst (λ (n : ℕ). IsPassed c.self.inside.base n known) (sym w.from-is) c.self.invariant.cursor)
      | else-base-self-2 w ↦
          record {
            up = omega (arith, w.from-is);
            passed = λ seq low high. absurd (omega (arith, w.from-is, low, high));
          }
    ] in
    least-above missing above c.args.base c.if-base-self-2.from c.pass_above.result (omega (arith, c.if-base-self.false)) front
    c.pass_above.ensures.up c.pass_above.ensures.unknown c.pass_above.ensures.passed
    ∙ ap (λ (seqs : List ℕ). first_missing_from seqs c.args.base) c.self.view_is
