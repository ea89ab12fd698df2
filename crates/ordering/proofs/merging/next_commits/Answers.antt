-- One commit more at each turn; where all are taken, no frame may be left.
use Rattle.std.proofs.Common.{◌≡◌, ◌+◌, ◌++◌, ◌∷◌, [], ℕ, List, length, length-append, sym, ap, subst, ◌∙◌, arith}
use Rattle.std.specs.Prelude.{slice_index}
use Rattle.rows.specs.declared.commit.Commit.{Commit}
use Rattle.ordering.specs.Merging.{HoldFirst, frames_in}
use Rattle.ordering.proofs.Between.{between-some}
use Rattle.ordering.proofs.Coming.{first-left, first-stuck, parts-join}
use Rattle.ordering.proofs.merging.next_commits.Goals as goal

pub returns-in-Err-clause-inconsistent : goal.returns-in-Err-clause-inconsistent
returns-in-Err-clause-inconsistent c = λ inconsistent.
    let all = c.args.intake.now in
    let high = c.args.high.now in
    first-stuck (frames_in all c.args.at.now high) (frames_in all c.loop-before.at high) c.args.from c.loop-before.before c.args.to
    c.loop-before.part.items c.loop-before.invariant.counted
    (omega (arith, c.loop-before-test.true, c.part_end-end.ensures.within))
    c.loop-before.invariant.held (c.in-Err.ensures.stuck inconsistent)

pub loop-before-preserved : goal.loop-before-preserved
loop-before-preserved c =
    let all = c.args.intake.now in
    let high = c.args.high.now in
    let taken = c.loop-before.part.items in
    let commit = c.in-Ok.commit in
    let pushed : c.push_reserved.new.self.items ≡ taken ++ commit ∷ [] = c.push_reserved.ensures.items in
    record {
      counted =
          omega (arith, c.loop-before.invariant.counted, ap length pushed, length-append taken (commit ∷ []));
      kept = c.in-Ok.ensures.kept;
      held =
          subst
          (λ (cs : List Commit). HoldFirst c.args.from cs (frames_in all c.args.at.now high) (frames_in all c.next_commit.new.at high))
          (sym pushed)
          (parts-join (frames_in all c.args.at.now high) (frames_in all c.loop-before.at high) (frames_in all c.next_commit.new.at high)
          c.args.from c.loop-before.before taken (commit ∷ []) c.loop-before.invariant.counted c.loop-before.invariant.held
          c.in-Ok.ensures.step);
      capacity = c.push_reserved.ensures.capacity ∙ c.loop-before.invariant.capacity;
    }

pub returns-else-is_used_up-clause-inconsistent : goal.returns-else-is_used_up-clause-inconsistent
returns-else-is_used_up-clause-inconsistent c = λ inconsistent.
    let all = c.args.intake.now in
    let at = c.loop-before.at in
    let high = c.args.high.now in
    let end : c.args.from + length c.loop-before.part.items ≡ c.args.to =
    omega (
      arith,
      c.loop-before.invariant.counted,
      c.loop-before-test.false,
      c.if-end-to.false,
      c.part_end-end.ensures.above,
      c.part_end-end.ensures.within,
    ) in
    let left = c.is_used_up.ensures.some c.if-is_used_up.false in
    let worker : ℕ = left.0 in
    first-left (frames_in all c.args.at.now high) (frames_in all at high) c.args.from c.args.to c.loop-before.part.items end
    c.loop-before.invariant.held worker
    (between-some all worker (slice_index at worker) (slice_index high worker) left.1
    (c.loop-before.invariant.kept worker (slice_index at worker) (omega arith) left.1))
