-- Each step goes on from what those before it made.
use Rattle.std.proofs.Common.{◌≤◌, ap, ◌∙◌, arith, [], length}
use Rattle.std.proofs.Math.ListN.{drop_of_length-le}
use Rattle.rows.specs.Shape.{shape_of}
use Rattle.desk.specs.State.{SeatState}
use Rattle.sockets.specs.Changes.{steps_answer}
use Rattle.sockets.proofs.Beginnings.{prefix_self, prefix_trans, prefix_length}
use Rattle.sockets.proofs.Drafts.{step-kept, one-more, refused-there}
use Rattle.sockets.proofs.drafting.drafted.Goals as goal

pub returns-in-Err-take_step-clause-drafted : goal.returns-in-Err-take_step-clause-drafted
returns-in-Err-take_step-clause-drafted g c =
    let shape = shape_of g.L.Line.schema in
    let inv = c.loop-number.invariant in
    let old = c.loop-number.seat.list in
    let new = c.take_step.new.seat.list in
    let draft = c.loop-number.transaction in
    let longer = prefix_length old new c.take_step.ensures.later in
    refused-there shape (length c.args.seat.now.list) new c.args.steps.now draft.snapshot draft c.loop-number.number
    c.index-steps-number.result c.in-Err-take_step.stop inv.begun (omega (arith, inv.within, longer)) c.loop-number-test.true
    c.index-steps-number.is (inv.made new c.take_step.ensures.later) c.in-Err-take_step.ensures.answer

pub loop-number-preserved : goal.loop-number-preserved
loop-number-preserved g c =
    let shape = shape_of g.L.Line.schema in
    let inv = c.loop-number.invariant in
    let old = c.loop-number.seat.list in
    let new = c.take_step.new.seat.list in
    let number = c.loop-number.number in
    let step = c.index-steps-number.result in
    let made = c.in-Ok-take_step.ensures.answer in
    let kept = step-kept shape new number c.loop-number.transaction c.take_step.new.transaction step made in
    let longer = prefix_length old new c.take_step.ensures.later in
    let within : c.loop-number.transaction.snapshot ≤ length new = omega (arith, inv.within, longer) in
    record {
      legal = c.take_step.ensures.legal;
      later = prefix_trans c.args.seat.now.list old new inv.later c.take_step.ensures.later;
      same = c.take_step.ensures.same ∙ ap (λ (s : SeatState). record s { list = new }) inv.same;
      begun = omega (arith, kept, inv.begun);
      within = omega (arith, kept, within);
      made = (λ all begins.
          ap (λ n. steps_answer shape all 0 (record { snapshot = n; entries = [] }) c.args.steps.now) kept
          ∙ (inv.made all (prefix_trans old new all c.take_step.ensures.later begins)
          ∙ one-more shape new all c.loop-number.transaction c.take_step.new.transaction c.args.steps.now number step begins within
          c.loop-number-test.true c.index-steps-number.is made));
    }

pub returns-clause-drafted : goal.returns-clause-drafted
returns-clause-drafted g c =
    let inv = c.loop-number.invariant in
    let list = c.loop-number.seat.list in
    record {
      begun = inv.begun;
      within = inv.within;
      made =
          inv.made list (prefix_self list)
          ∙ ap (steps_answer (shape_of g.L.Line.schema) list c.loop-number.number c.loop-number.transaction)
          (drop_of_length-le c.args.steps.now (omega (arith, c.loop-number-test.false)));
    }
