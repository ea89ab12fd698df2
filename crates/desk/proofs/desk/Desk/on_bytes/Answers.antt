-- What is sent is of the durable list, which the seat has seen.
use Rattle.std.proofs.Common.{ap, sym, ◌∙◌}
use Rattle.desk.proofs.Readable.{readable_of, base_of}
use Rattle.desk.proofs.Sent.{answers_of, if_ok}
use Rattle.desk.proofs.desk.Desk.on_bytes.Goals as goal

pub returns-clause-ok : goal.returns-clause-ok
returns-clause-ok g c =
    let inv = c.self.invariant in
    let all = c.if-not-catch_up.ensures.all.0 in
    let durable = ap (λ d. d.core.primary.durable) c.self.view_is ∙ sym all in
    let sent =
    answers_of c.self.inside.core.primary g.L.Line.schema g.L.Line.workers c.catch_up.new.seat.list
    c.catch_up.new.self.core.primary.base c.args.bytes.now (inv.0.of_schema ∙ inv.1) (inv.0.of_workers ∙ inv.2) durable
    (ap (λ d. d.core.primary.base) c.self.view_is) in
    if_ok _ _ c.on_bytes.result (λ outs is. (all, is ∙ sent)) c.on_bytes.ensures.ok

pub returns-clause-readable : goal.returns-clause-readable
returns-clause-readable g c =
    let inv = c.self.invariant in
    let law = c.keeps_legal.ensures in
    let readable =
    readable_of c.self.inside.core.primary g.L.Line.schema g.L.Line.workers c.catch_up.new.seat.list (inv.0.of_schema ∙ inv.1)
    (inv.0.of_workers ∙ inv.2) (c.if-not-catch_up.ensures.all.0 ∙ sym (ap (λ d. d.core.primary.durable) c.self.view_is)) law.durable
    law.numbered law.sendable law.some_workers law.few_workers in
    if_ok _ _ c.on_bytes.result (λ outs is. readable) c.on_bytes.ensures.ok

pub returns-clause-base : goal.returns-clause-base
returns-clause-base g c =
    let inv = c.self.invariant in
    let law = c.keeps_legal.ensures in
    let base =
    base_of c.self.inside.core.primary g.L.Line.schema c.catch_up.new.seat.list c.catch_up.new.self.core.primary.base
    (inv.0.of_schema ∙ inv.1) (c.if-not-catch_up.ensures.all.0 ∙ sym (ap (λ d. d.core.primary.durable) c.self.view_is))
    (sym (ap (λ d. d.core.primary.base) c.self.view_is)) law.based law.pieces law.pieces_spelled in
    if_ok _ _ c.on_bytes.result (λ outs is. base) c.on_bytes.ensures.ok
