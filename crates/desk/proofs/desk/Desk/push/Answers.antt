-- What is pushed is of the durable list, which the seat has seen and which can be read back.
use Rattle.std.proofs.Common.{ap, sym, ◌∙◌}
use Rattle.desk.proofs.Readable.{readable_of, base_of}
use Rattle.desk.proofs.Sent.{pushed_of}
use Rattle.desk.proofs.desk.Desk.push.Goals as goal

pub returns-clause-ok : goal.returns-clause-ok
returns-clause-ok g c =
    let all = c.if-not-catch_up.ensures.all.0 in (
      all,
      c.push.ensures
          ∙ pushed_of c.self.inside.core.primary g.L.Line.schema g.L.Line.workers c.catch_up.new.seat.list
          c.catch_up.new.self.core.primary.base c.args.worker c.args.seq (ap (λ d. d.core.primary.durable) c.self.view_is ∙ sym all)
          (ap (λ d. d.core.primary.base) c.self.view_is),
    )

pub returns-clause-readable : goal.returns-clause-readable
returns-clause-readable g c =
    let inv = c.self.invariant in
    let law = c.keeps_legal.ensures in
    readable_of c.self.inside.core.primary g.L.Line.schema g.L.Line.workers c.catch_up.new.seat.list (inv.0.of_schema ∙ inv.1)
    (inv.0.of_workers ∙ inv.2) (c.if-not-catch_up.ensures.all.0 ∙ sym (ap (λ d. d.core.primary.durable) c.self.view_is)) law.durable
    law.numbered law.sendable law.some_workers law.few_workers

pub returns-clause-base : goal.returns-clause-base
returns-clause-base g c =
    let inv = c.self.invariant in
    let law = c.keeps_legal.ensures in
    base_of c.self.inside.core.primary g.L.Line.schema c.catch_up.new.seat.list c.catch_up.new.self.core.primary.base
    (inv.0.of_schema ∙ inv.1) (c.if-not-catch_up.ensures.all.0 ∙ sym (ap (λ d. d.core.primary.durable) c.self.view_is))
    (sym (ap (λ d. d.core.primary.base) c.self.view_is)) law.based law.pieces law.pieces_spelled
