-- The row is of the durable list, which the seat has seen and which can be read back, from the first frame on that is kept.
use Rattle.std.proofs.Common.{ap, sym, ◌∙◌, arith, max, ◌+◌}
use Rattle.std.specs.List.{slice_get}
use Rattle.desk.specs.Answers.{packet_at, row_of, kept_from}
use Rattle.desk.proofs.Readable.{readable_of, base_of}
use Rattle.desk.proofs.Rows.{row_each}
use Rattle.desk.proofs.desk.Desk.push_row.Goals as goal

pub fill_row-requires-clause-kept : goal.fill_row-requires-clause-kept
fill_row-requires-clause-kept g c = omega (arith, c.low.ensures, c.max-start.ensures)

pub returns-clause-start : goal.returns-clause-start
returns-clause-start g c =
    let durable = ap (λ d. d.core.primary.durable) c.self.view_is ∙ sym c.if-not-catch_up.ensures.all.0 in
    let base = ap (λ d. d.core.primary.base) c.self.view_is in
    c.max-start.ensures ∙ ap (max c.args.from) c.low.ensures ∙ (λ i. kept_from (durable i) (base i) c.args.worker c.args.from)

pub returns-clause-ok : goal.returns-clause-ok
returns-clause-ok g c =
    let all = c.if-not-catch_up.ensures.all.0 in
    let durable = ap (λ d. d.core.primary.durable) c.self.view_is ∙ sym all in
    (all, c.fill_row.ensures.row ∙ ap (λ list. row_of list c.args.worker c.max-start.result c.args.most) durable)

pub returns-clause-each : goal.returns-clause-each
returns-clause-each g c =
    let durable = ap (λ d. d.core.primary.durable) c.self.view_is ∙ sym c.if-not-catch_up.ensures.all.0 in
    λ index below.
    ap (λ row. slice_get row index) c.fill_row.ensures.row
    ∙ row_each c.self.inside.core.primary c.args.worker c.max-start.result c.args.most index below
    ∙ ap (λ list. packet_at list c.args.worker (c.max-start.result + index)) durable

pub returns-clause-readable : goal.returns-clause-readable
returns-clause-readable g c =
    let inv = c.self.invariant in
    let law = c.keeps_legal.ensures in
    readable_of c.self.inside.core.primary g.L.Line.schema g.L.Line.workers c.catch_up.new.seat.list (inv.0.of_schema ∙ inv.1)
    (inv.0.of_workers ∙ inv.2) (c.if-not-catch_up.ensures.all.0 ∙ sym (ap (λ d. d.core.primary.durable) c.self.view_is)) law.durable
    law.numbered law.sendable law.some_workers law.few_workers

pub returns-clause-base : goal.returns-clause-base
returns-clause-base g c =
    let inv = c.self.invariant in
    let law = c.keeps_legal.ensures in
    base_of c.self.inside.core.primary g.L.Line.schema c.catch_up.new.seat.list c.catch_up.new.self.core.primary.base
    (inv.0.of_schema ∙ inv.1) (c.if-not-catch_up.ensures.all.0 ∙ sym (ap (λ d. d.core.primary.durable) c.self.view_is))
    (sym (ap (λ d. d.core.primary.base) c.self.view_is)) law.based law.pieces law.pieces_spelled
