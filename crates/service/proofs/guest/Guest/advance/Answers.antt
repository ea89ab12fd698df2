use Rattle.std.proofs.Common.{subst, sym}
use Rattle.http_server.specs.Connection.{history}
use Rattle.http_server.specs.History.{History}
use Rattle.http_server.specs.Exchange.{Calls}
use Rattle.service.specs.Denials.{WithDenials}
use Rattle.service.proofs.ChainLemmas.{Calls-inner}
use Rattle.service.proofs.guest.Guest.advance.Goals as goal

pub returns-clause-calls : goal.returns-clause-calls
returns-clause-calls g c =
    let answers = WithDenials g.S.Settle.answers in
    let old = c.args.service.now.inner in
    let new = c.advance.new.service.inner in
    subst (λ (h : History). Calls answers old new h.calls (history c.note_answered.new.self.connection).calls)
    c.note_read.ensures.connection
    (subst (λ (h : History). Calls answers old new (history c.note_read.new.self.connection).calls h.calls)
    (sym c.note_answered.ensures.connection) (Calls-inner answers _ _ _ _ c.advance.ensures.calls))
