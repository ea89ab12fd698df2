-- The seat that is given out is the last one, and has the number that those before it leave.
use Rattle.std.proofs.Common.{length, length-append, ap, ◌∷◌, [], arith}
use Rattle.desk.specs.State.{IsNew}
use Rattle.desk.proofs.Seats.{numbers_last, all_last}
use Rattle.desk.proofs.desk.Desk.seat.Goals as goal

pub invariant_of-self-2 : goal.invariant_of-self-2
invariant_of-self-2 g c =
    let inv = c.self.invariant in
    let kept = inv.0 in
    let left = c.pop.new.self.items in
    let items = c.in_ok-seat.ensures.items in
    let all = all_last (IsNew g.L.Origin.first) left c.in_ok-seat.seat (rw (← items) inv.6) in
    let numbers = numbers_last 0 left c.in_ok-seat.seat (rw (← items) inv.7) in (
      record {
        of_schema = kept.of_schema;
        of_workers = kept.of_workers;
        shown = kept.shown;
        told = kept.told;
        carried = kept.carried;
        counted = kept.counted;
        manned = kept.manned;
        lasts = kept.lasts;
        free = omega (arith, kept.free, ap length items, length-append left (c.in_ok-seat.seat ∷ []));
      },
      inv.1,
      inv.2,
      inv.3,
      inv.4,
      inv.5,
      all.0,
      numbers.0,
    )

pub returns-clause-given : goal.returns-clause-given
returns-clause-given g c =
    let left = c.pop.new.self.items in
    let items = c.in_ok-seat.ensures.items in
    let all = all_last (IsNew g.L.Origin.first) left c.in_ok-seat.seat (rw (← items) c.self.invariant.6) in (
      all.1,
      omega (arith, ap (λ d. d.free) c.self.view_is, ap length items, length-append left (c.in_ok-seat.seat ∷ [])),
      ap (λ d. record {
        core = d.core;
        told = d.told;
        shown = d.shown;
        seats = d.seats;
        lasts = d.lasts;
        total = d.total;
        free = length c.pop.new.self.items;
      }) c.self.view_is,
    )

pub returns-clause-number : goal.returns-clause-number
returns-clause-number g c =
    let items = c.in_ok-seat.ensures.items in
    let numbers = numbers_last 0 c.pop.new.self.items c.in_ok-seat.seat (rw (← items) c.self.invariant.7) in
    omega (arith, numbers.1)
