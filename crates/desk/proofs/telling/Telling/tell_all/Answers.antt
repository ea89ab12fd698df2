-- What is told is always the first so many of the commits.
use Rattle.std.proofs.Common.{◌+◌, ◌∷◌, [], ◌++◌, length, ap, sym, ◌∙◌, arith}
use Rattle.rows.specs.Shape.{shape_of}
use Rattle.desk.proofs.Beginnings.{begins_first, first_begins}
use Rattle.desk.proofs.Waiting.{next_first, next_journaled}
use Rattle.desk.proofs.telling.Telling.tell_all.Goals as goal

pub returns-in_default-clause-later : goal.returns-in_default-clause-later
returns-in_default-clause-later g c =
    let inv = c.loop-index.invariant in
    let same = ap length c.push_waiting.ensures.same.0 in
    begins_first c.args.self.now.all c.loop-index.self.all c.loop-index.index c.args.durable.now c.requires.begins (omega arith) inv.0

pub returns-in_default-clause-begins : goal.returns-in_default-clause-begins
returns-in_default-clause-begins g c =
    let inv = c.loop-index.invariant in
    rw inv.0 (first_begins c.loop-index.index c.args.durable.now)

pub tell-requires-clause-legal : goal.tell-requires-clause-legal
tell-requires-clause-legal g c =
    let inv = c.loop-index.invariant in
    rw inv.0 (
    next_journaled c.beginnings_are_journaled.ensures.beginning g.L.Line.workers (shape_of g.L.Line.schema) c.args.durable.now
    c.loop-index.index c.index-durable-index.result c.in-Some.commit c.loop-index-test.true c.index-durable-index.is c.in-Some.ensures
    c.requires.legal
    )

pub returns-then-not-tell-clause-later : goal.returns-then-not-tell-clause-later
returns-then-not-tell-clause-later g c =
    let inv = c.loop-index.invariant in
    let same = ap length c.push_waiting.ensures.same.0 in
    let next =
    c.tell.ensures.all ∙ ap (λ cs. cs ++ c.in-Some.commit ∷ []) inv.0
    ∙ sym (next_first c.args.durable.now c.loop-index.index c.index-durable-index.result c.in-Some.commit c.loop-index-test.true
    c.index-durable-index.is c.in-Some.ensures) in
    begins_first c.args.self.now.all c.tell.new.self.all (c.loop-index.index + 1) c.args.durable.now c.requires.begins (omega arith) next

pub returns-then-not-tell-clause-begins : goal.returns-then-not-tell-clause-begins
returns-then-not-tell-clause-begins g c =
    let inv = c.loop-index.invariant in
    let next =
    c.tell.ensures.all ∙ ap (λ cs. cs ++ c.in-Some.commit ∷ []) inv.0
    ∙ sym (next_first c.args.durable.now c.loop-index.index c.index-durable-index.result c.in-Some.commit c.loop-index-test.true
    c.index-durable-index.is c.in-Some.ensures) in
    rw next (first_begins (c.loop-index.index + 1) c.args.durable.now)
