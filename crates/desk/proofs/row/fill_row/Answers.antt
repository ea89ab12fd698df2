-- Each packet is the next one of the row, which ends where none is pushed.
use Rattle.std.proofs.Common.{ap, sym, ◌∙◌, arith, ◌++◌, ◌∷◌, []}
use Rattle.primary.specs.Sending.{pushed}
use Rattle.desk.proofs.Rows.{row_more, row_ends, pushed_below}
use Rattle.desk.proofs.row.fill_row.Goals as goal

pub loop-preserved : goal.loop-preserved
loop-preserved g c =
    let inv = c.loop.invariant in
    let e = c.push_reserved.ensures in
    let p = c.args.core.now.primary in
    let is = ap (pushed p c.args.worker) (sym inv.seq) ∙ (sym c.push.ensures ∙ c.in-Some.is) in
    record {
      row = e.items ∙ (ap (λ items. items ++ c.in-Some.packet ∷ []) inv.row
          ∙ sym (row_more p c.args.worker c.args.from c.loop.counter c.in-Some.packet is));
      len = omega (arith, inv.len, e.len);
      room = omega (arith, inv.room, e.capacity);
      seq = omega (arith, inv.seq);
    }

pub returns-in_default-clause-row : goal.returns-in_default-clause-row
returns-in_default-clause-row g c =
    let inv = c.loop.invariant in
    let p = c.args.core.now.primary in
    let none = ap (pushed p c.args.worker) (sym inv.seq) ∙ (sym c.push.ensures ∙ c.in_default.is) in
    inv.row ∙ row_ends p c.args.worker c.args.from c.loop.counter c.args.most c.requires.kept none (omega (arith, c.loop-test.true))

pub overflow_add-seq : goal.overflow_add-seq
overflow_add-seq g c =
    let is = sym c.push.ensures ∙ c.in-Some.is in
    omega (arith, pushed_below c.args.core.now.primary c.args.worker c.loop.seq c.in-Some.packet is c.keeps_legal.ensures.numbered)
