-- A seq is known where it is below the first missing one or held above it.
use Rattle.std.proofs.Common.{List, ℕ, Bool, ◌||◌, sym, ap, ◌∙◌}
use Rattle.std.specs.Prelude.{nat_lt}
use Rattle.std.proofs.lemmas.Bool.{lt-ltb, le-ltb, or_left}
use Rattle.intake.specs.Known.{is_known}
use Rattle.intake.proofs.Holding.{is_known-held, is_known-found}
use Rattle.intake.proofs.known_seqs.KnownSeqs.contains.Goals as goal

pub returns-then-seq-self : goal.returns-then-seq-self
returns-then-seq-self c =
    let missing = c.self.inside.missing in
    let above = c.self.inside.above.keys in
    let seq = c.args.seq in
    let below = lt-ltb seq missing c.if-seq-self.true in
    below ∙ sym (or_left (nat_lt seq missing) (is_known above seq) below) ∙ sym (is_known-held missing above seq)
    ∙ ap (λ (known : List ℕ). is_known known seq) c.self.view_is

pub returns-else-seq-self : goal.returns-else-seq-self
returns-else-seq-self c =
    let missing = c.self.inside.missing in
    let above = c.self.inside.above.keys in
    let seq = c.args.seq in
    c.contains.ensures ∙ is_known-found seq above
    ∙ sym (ap (λ (b : Bool). b || is_known above seq) (le-ltb seq missing c.if-seq-self.false)) ∙ sym (is_known-held missing above seq)
    ∙ ap (λ (known : List ℕ). is_known known seq) c.self.view_is
