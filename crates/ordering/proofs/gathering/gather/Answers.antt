-- Each frame goes behind those so far; the last one closes the commit.
use Rattle.std.proofs.Common.{◌≡◌, ◌+◌, ◌<◌, ◌≤◌, ◌++◌, ℕ, length, not, is_ok, true, sym, ap, subst, ◌∙◌, inl, inr, arith}
use Rattle.std.proofs.lemmas.Bool.{cases_lt, eqb-true, eqb-false}
use Rattle.rows.specs.Limits.{commit_entries_max}
use Rattle.intake.specs.Kept.{frames_between}
use Rattle.ordering.specs.Merging.{HoldCommit}
use Rattle.ordering.specs.Inner.Progress.{HoldNone, IsCommitBegun}
use Rattle.ordering.proofs.Beginning.{begun-end, begun-more, none-empty, none-end, none-many, none-nothing, none-other, when-ok}
use Rattle.ordering.proofs.Between.{between-here, between-more, between-none}
use Rattle.ordering.proofs.gathering.gather.Goals as goal

pub returns-then-frame-number-clause-none : goal.returns-then-frame-number-clause-none
returns-then-frame-number-clause-none c = λ inconsistent.
    let all = c.args.intake.now in
    let seq = c.loop-seq.seq in
    let frame = c.kept_frame-frame.result.now in
    let from : c.args.first ≤ seq = omega arith in
    subst (HoldNone c.args.number)
    (sym (between-here all c.args.worker c.args.first seq c.args.end frame from c.loop-seq-test.true c.kept_frame-frame.ensures))
    (none-other c.args.number c.loop-seq.entries (frames_between all c.args.worker c.args.first seq) frame
    (frames_between all c.args.worker (seq + 1) c.args.end) c.loop-seq.invariant c.if-frame-number.true)

pub returns-then-len-clause-none : goal.returns-then-len-clause-none
returns-then-len-clause-none c = λ inconsistent.
    let all = c.args.intake.now in
    let seq = c.loop-seq.seq in
    let frame = c.kept_frame-frame.result.now in
    let from : c.args.first ≤ seq = omega arith in
    let many : commit_entries_max < length c.loop-seq.entries + length frame.entries =
    omega (arith, c.len.ensures, c.len-in-loop-seq.ensures, c.if-len.true) in
    subst (HoldNone c.args.number)
    (sym (between-here all c.args.worker c.args.first seq c.args.end frame from c.loop-seq-test.true c.kept_frame-frame.ensures))
    (none-many c.args.number c.loop-seq.entries (frames_between all c.args.worker c.args.first seq) frame
    (frames_between all c.args.worker (seq + 1) c.args.end) c.loop-seq.invariant many)

pub returns-then-is_empty-clause-none : goal.returns-then-is_empty-clause-none
returns-then-is_empty-clause-none c = λ inconsistent.
    let all = c.args.intake.now in
    let seq = c.loop-seq.seq in
    let frame = c.kept_frame-frame.result.now in
    let now = c.append.new.entries in
    let from : c.args.first ≤ seq = omega arith in
    let ok : is_ok c.append.result ≡ true = c.is_err.ensures.negation ∙ ap not c.if-is_err.false in
    let added : now ≡ c.loop-seq.entries ++ c.as_slice.result.now = when-ok c.append.result ok c.append.ensures in
    let now_is : now ≡ c.loop-seq.entries ++ frame.entries = added ∙ ap (λ more. c.loop-seq.entries ++ more) c.as_slice.ensures in
    let none : length now ≡ 0 = eqb-true (length now) 0 (sym c.is_empty.ensures ∙ c.if-is_empty.true) in
    subst (HoldNone c.args.number)
    (sym (between-here all c.args.worker c.args.first seq c.args.end frame from c.loop-seq-test.true c.kept_frame-frame.ensures))
    (none-empty c.args.number c.loop-seq.entries now (frames_between all c.args.worker c.args.first seq) frame
    (frames_between all c.args.worker (seq + 1) c.args.end) c.loop-seq.invariant c.if-frame.true now_is none)

pub returns-then-frame-clause-held : goal.returns-then-frame-clause-held
returns-then-frame-clause-held c =
    let all = c.args.intake.now in
    let seq = c.loop-seq.seq in
    let frame = c.kept_frame-frame.result.now in
    let now = c.append.new.entries in
    let from : c.args.first ≤ seq = omega arith in
    let ok : is_ok c.append.result ≡ true = c.is_err.ensures.negation ∙ ap not c.if-is_err.false in
    let added : now ≡ c.loop-seq.entries ++ c.as_slice.result.now = when-ok c.append.result ok c.append.ensures in
    let now_is : now ≡ c.loop-seq.entries ++ frame.entries = added ∙ ap (λ more. c.loop-seq.entries ++ more) c.as_slice.ensures in
    let few : length c.loop-seq.entries + length frame.entries ≤ commit_entries_max =
    omega (arith, c.len.ensures, c.len-in-loop-seq.ensures, c.if-len.false, c.loop-seq.invariant.few) in
    let some : 0 < length now = omega (arith, eqb-false (length now) 0 (sym c.is_empty.ensures ∙ c.if-is_empty.false)) in
    subst (HoldCommit c.args.number now) (sym (between-more all c.args.worker c.args.first seq frame from c.kept_frame-frame.ensures))
    (begun-end c.args.number c.loop-seq.entries now (frames_between all c.args.worker c.args.first seq) frame c.loop-seq.invariant
    c.if-frame-number.false c.if-frame.true now_is few some)

pub loop-seq-preserved : goal.loop-seq-preserved
loop-seq-preserved c =
    let all = c.args.intake.now in
    let seq = c.loop-seq.seq in
    let frame = c.kept_frame-frame.result.now in
    let now = c.append.new.entries in
    let from : c.args.first ≤ seq = omega arith in
    let ok : is_ok c.append.result ≡ true = c.is_err.ensures.negation ∙ ap not c.if-is_err.false in
    let added : now ≡ c.loop-seq.entries ++ c.as_slice.result.now = when-ok c.append.result ok c.append.ensures in
    let now_is : now ≡ c.loop-seq.entries ++ frame.entries = added ∙ ap (λ more. c.loop-seq.entries ++ more) c.as_slice.ensures in
    let few : length c.loop-seq.entries + length frame.entries ≤ commit_entries_max =
    omega (arith, c.len.ensures, c.len-in-loop-seq.ensures, c.if-len.false, c.loop-seq.invariant.few) in
    subst (IsCommitBegun c.args.number now) (sym (between-more all c.args.worker c.args.first seq frame from c.kept_frame-frame.ensures))
    (begun-more c.args.number c.loop-seq.entries now (frames_between all c.args.worker c.args.first seq) frame c.loop-seq.invariant
    c.if-frame-number.false c.if-frame.false now_is few)

pub returns-clause-none : goal.returns-clause-none
returns-clause-none c = λ inconsistent.
    let all = c.args.intake.now in
    let worker = c.args.worker in
    let first = c.args.first in
    let seq = c.loop-seq.seq in
    elim (cases_lt c.args.end first) [
      | inl past ↦
          let none : c.args.end ≤ first = omega arith in
          subst (HoldNone c.args.number) (sym (between-none all worker first c.args.end none)) (none-nothing c.args.number)
      | inr from ↦
          let end : seq ≡ c.args.end = omega arith in
          subst (λ (n : ℕ). HoldNone c.args.number (frames_between all worker first n)) end
          (none-end c.args.number c.loop-seq.entries (frames_between all worker first seq) c.loop-seq.invariant)
    ]
