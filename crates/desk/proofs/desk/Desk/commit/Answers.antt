-- Why a commit is refused, by what the seat has seen.
use Rattle.std.proofs.Common.{ap, sym, ◌∙◌}
use mathlib.Core.List.{IsPrefix}
use Rattle.desk.proofs.Beginnings.{prefix_trans}
use Rattle.desk.proofs.Refusals.{refused_seen}
use Rattle.desk.proofs.desk.Desk.commit.Goals as goal

pub returns-in-Err-clause-seen : goal.returns-in-Err-clause-seen
returns-in-Err-clause-seen g c =
    let inv = c.self.invariant in
    let p = c.self.inside.core.primary in
    let seen : IsPrefix c.args.seat.now.list c.self.inside.telling.all =
    rw (sym (ap (λ s. s.list) c.seat.view_is), sym (ap (λ t. t.all) c.confirm.ensures.same)) c.confirm.ensures.begins in
    refused_seen p c.args.worker g.L.Line.schema c.args.seat.now.list c.args.transaction c.in-Err.refusal.1
    (inv.0.of_schema ∙ inv.1) (prefix_trans c.args.seat.now.list c.self.inside.telling.all p.durable seen inv.0.told)
    c.in-Err.ensures.refused.2
