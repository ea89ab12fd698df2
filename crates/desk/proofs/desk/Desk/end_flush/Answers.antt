-- A desk stays one as a flush ends.
use Rattle.std.proofs.Common.{length}
use Rattle.desk.proofs.Flushes.{was_lent, kept_ended}
use Rattle.desk.proofs.desk.Desk.end_flush.Goals as goal

pub invariant_of-self : goal.invariant_of-self
invariant_of-self g c =
    let inv = c.self.invariant in
    let e = c.end_flush.ensures in
    let lent = was_lent c.self.inside.core.journal c.end_flush.result c.in-Ok.durable e.not_lent c.in-Ok.is in (
      kept_ended g.L.Origin.first g.L.Origin.seats
          (record {
            core = c.self.inside.core;
            told = c.self.inside.telling.all;
            shown = c.self.inside.telling.shown;
            seats = c.self.inside.roster.seats;
            lasts = c.self.inside.roster.lasts;
            total = c.self.inside.roster.total;
            free = length c.self.inside.free.items;
          })
          c.args.done c.end_flush.new.self inv.0 (e.ended lent),
      inv.1,
      inv.2,
      inv.3,
      inv.4,
      inv.5,
      inv.6,
      inv.7,
    )
