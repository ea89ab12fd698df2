-- One more commit is noted.
use Rattle.std.proofs.Common.{ap, sym, ◌∙◌, ◌+◌, ◌-◌, length}
use Rattle.std.specs.Vec.{vec_capacity, vec_len}
use Rattle.desk.specs.Keeping.{commit_count}
use Rattle.desk.specs.Inner.Noted.{Noted}
use Rattle.desk.proofs.Numbers.{noted_snoc}
use Rattle.desk.proofs.roster.Roster.note.Goals as goal

pub invariant_of-self : goal.invariant_of-self
invariant_of-self g c =
    let number = c.requires.next ∙ ap (λ (v : Noted). commit_count g.L.Origin.first + length v.seats + 1) (sym c.self.view_is) in
    rw c.push_reserved.ensures.items (
    noted_snoc g.L.Origin.first g.L.Origin.seats
    (record {
      seats = c.self.inside.seats.items;
      lasts = c.self.inside.lasts.items;
      total = c.self.inside.book.total;
      room = vec_capacity c.self.inside.seats - vec_len c.self.inside.seats;
    })
    c.seat.inside.number c.args.number c.add.new.self.total
    (vec_capacity c.push_reserved.new.self - vec_len c.push_reserved.new.self) c.self.invariant c.seat.invariant.0 number
    c.add.ensures.total
    )

pub returns-clause-noted : goal.returns-clause-noted
returns-clause-noted g c = invariant_of-self g c
