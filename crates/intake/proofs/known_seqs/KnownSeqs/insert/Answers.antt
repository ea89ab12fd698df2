-- The seq that comes is the first missing one, and those behind it are passed; or it is put among those above.
use Rattle.std.proofs.Common.{◌≡◌, ℕ, true, List, ◌+◌, ◌-◌, ◌^◌, ◌<◌, ◌≤◌, sym, ap, subst, ◌∙◌, arith}
use Rattle.intake.specs.Known.{is_known, with_seq}
use Rattle.intake.specs.Inner.Held.{seqs_in, AreAtLeast, AreBelow}
use Rattle.intake.proofs.Holding.{held-insert, held-insert_missing, all-insert, unknown-past, passed-more}
use Rattle.intake.proofs.Keeping.{known-with}
use Rattle.intake.proofs.known_seqs.KnownSeqs.insert.Goals as goal

pub returns-then-seq-self-clause-ok : goal.returns-then-seq-self-clause-ok
returns-then-seq-self-clause-ok c =
    let missing = c.self.inside.missing in
    let above = c.self.inside.above.keys in
    c.pass_known-self-inside.ensures.same ∙ ap (λ (n : ℕ). seqs_in (n + 1) above) c.if-seq-self.true
    ∙ sym (held-insert_missing missing above c.self.invariant.held.from)
    ∙ ap (λ (n : ℕ). with_seq (seqs_in missing above) n) (sym c.if-seq-self.true)
    ∙ ap (λ (known : List ℕ). with_seq known c.args.seq) c.self.view_is

pub invariant_of-self : goal.invariant_of-self
invariant_of-self c =
    let missing = c.self.inside.missing in
    let above = c.self.inside.above.keys in
    let now : with_seq (seqs_in missing above) missing ≡ seqs_in c.pass_known-self-inside.result c.pass_known-self-inside.new.above.keys =
    held-insert_missing missing above c.self.invariant.held.from
    ∙ sym (ap (λ (n : ℕ). seqs_in (n + 1) above) c.if-seq-self.true) ∙ sym c.pass_known-self-inside.ensures.same in
    record {
      held = c.pass_known-self-inside.ensures.held;
      cursor =
          passed-more c.self.inside.base c.self.inside.next (seqs_in missing above)
          (seqs_in c.pass_known-self-inside.result c.pass_known-self-inside.new.above.keys)
          (λ other h. subst (λ (known : List ℕ). is_known known other ≡ true) now (known-with (seqs_in missing above) missing other h))
          c.self.invariant.cursor;
    }

pub invariant_of-self-2 : goal.invariant_of-self-2
invariant_of-self-2 c =
    let missing = c.self.inside.missing in
    let above = c.self.inside.above.keys in
    let seq = c.args.seq in
    let past = unknown-past missing above seq (ap (λ (known : List ℕ). is_known known seq) c.self.view_is ∙ c.requires.unknown) in
    let now : with_seq (seqs_in missing above) seq ≡ seqs_in missing c.insert.new.self.keys =
    held-insert missing above seq past ∙ sym (ap (seqs_in missing) c.in_ok-insert.ensures.keys) in
    record {
      held = record {
        from =
            subst (AreAtLeast (missing + 1)) (sym c.in_ok-insert.ensures.keys)
            (all-insert (λ key. missing + 1 ≤ key) above seq c.self.invariant.held.from (omega (arith, past, c.if-seq-self.false)));
        below =
            subst (AreBelow (2 ^ 64 - 1)) (sym c.in_ok-insert.ensures.keys)
            (all-insert (λ key. key < 2 ^ 64 - 1) above seq c.self.invariant.held.below c.requires.seq);
      };
      cursor =
          passed-more c.self.inside.base c.self.inside.next (seqs_in missing above) (seqs_in missing c.insert.new.self.keys)
          (λ other h. subst (λ (known : List ℕ). is_known known other ≡ true) now (known-with (seqs_in missing above) seq other h))
          c.self.invariant.cursor;
    }

pub returns-clause-ok : goal.returns-clause-ok
returns-clause-ok c =
    let missing = c.self.inside.missing in
    let above = c.self.inside.above.keys in
    let seq = c.args.seq in
    let past = unknown-past missing above seq (ap (λ (known : List ℕ). is_known known seq) c.self.view_is ∙ c.requires.unknown) in
    c.advance.ensures ∙ ap (seqs_in missing) c.in_ok-insert.ensures.keys ∙ sym (held-insert missing above seq past)
    ∙ ap (λ (known : List ℕ). with_seq known seq) c.self.view_is
