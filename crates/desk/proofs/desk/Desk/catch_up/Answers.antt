-- What the seat had seen begins what is told, and that the durable list.
use Rattle.std.proofs.Common.{ap, sym}
use mathlib.Core.List.{IsPrefix}
use Rattle.desk.proofs.Beginnings.{prefix_trans}
use Rattle.desk.proofs.desk.Desk.catch_up.Goals as goal

pub returns-then-not-publish-clause-durable : goal.returns-then-not-publish-clause-durable
returns-then-not-publish-clause-durable g c =
    let seen : IsPrefix c.args.seat.now.list c.confirm.new.self.all = rw (sym (ap (λ s. s.list) c.seat.view_is)) c.confirm.ensures.begins in
    let e = c.publish.ensures in
    prefix_trans c.args.seat.now.list c.publish.new.self.told c.publish.new.self.core.primary.durable
    (prefix_trans c.args.seat.now.list c.confirm.new.self.all c.publish.new.self.told seen e.later) e.durable

pub returns-clause-later : goal.returns-clause-later
returns-clause-later g c =
    let seen : IsPrefix c.args.seat.now.list c.confirm.new.self.all = rw (sym (ap (λ s. s.list) c.seat.view_is)) c.confirm.ensures.begins in
    rw (c.teach.ensures, ap (λ d. d.told) c.self-2.view_is) (
    prefix_trans c.args.seat.now.list c.confirm.new.self.all c.publish.new.self.told seen c.publish.ensures.later
    )
