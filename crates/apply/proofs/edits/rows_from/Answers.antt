use Rattle.std.proofs.Common.{rules, ℕ}
use Rattle.apply.specs.Columns.{IsTail}
use Rattle.apply.proofs.EachColumn.{each-push}
use Rattle.std.proofs.lemmas.List.{get_or_default}
use Rattle.apply.proofs.edits.rows_from.Goals as goal

pub loop-k-preserved : goal.loop-k-preserved
loop-k-preserved c =
    let olds = c.args.columns.now in
    let made = c.loop-k.made.items in
    let k = c.loop-k.k in
    let R = λ (k : ℕ). IsTail c.args.rows c.args.at in
    record {
      len = search rules;
      tail = rw c.push_reserved.ensures.items (each-push R olds made k c.in_ok-tail.field-0 c.loop-k.invariant.len c.loop-k.invariant.tail
          (λ d. rw (get_or_default olds k d c.index-columns-k.result c.loop-k-test.true, ← c.index-columns-k.is) c.in_ok-tail.ensures));
      count = search rules;
      room = search rules;
    }
