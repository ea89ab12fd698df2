-- The record of one commit more.
use Rattle.std.proofs.Common.{◌≡◌, ◌+◌, ◌-◌, ◌++◌, take, sym, ap, ◌∙◌, arith}
use Rattle.journal.specs.Text.{record_of, records_from}
use Rattle.journal.proofs.Texts.{records_from_more}
use Rattle.journal.proofs.text.records.Goals as goal

pub loop-commit-preserved : goal.loop-commit-preserved
loop-commit-preserved c =
    let loop = c.loop-commit in
    let commit = c.commit-item.result in
    let before = c.args.first - 1 in
    let same : loop.number + 1 ≡ before + loop.commit-index + 1 = omega arith in
    record {
      numbered = omega arith;
      written =
          c.in_ok-push_record.ensures
          ∙ ap (λ text. text ++ record_of (loop.number + 1) commit) loop.invariant.written
          ∙ ap (λ n. records_from before (take loop.commit-index c.args.commits.now) ++ record_of n commit) same
          ∙ sym (records_from_more before c.args.commits.now loop.commit-index commit c.loop-commit-test.true c.commit-item.is);
    }
