-- A search in its bucket finds an identifier that is anywhere.
use Rattle.std.proofs.Common.{◌<◌, ◌∙◌, arith}
use Rattle.journal.proofs.Slots.{id-found, zero-found}
use Rattle.journal.proofs.id_slots.IdSlots.contains.Goals as goal

pub returns-then-id-eq0 : goal.returns-then-id-eq0
returns-then-id-eq0 c = zero-found c.args.self.now c.args.id c.if-id-eq0.true

pub returns : goal.returns
returns c =
    let some : 0 < c.args.id = omega (arith, c.if-id-eq0.false) in
    let found = rw c.as_slice.ensures.value at c.slot_with.ensures in
    c.is_some.ensures
    ∙ rw (← c.self.view_is) (id-found c.self.inside.slots.items c.args.id c.slot_with.result some c.self.invariant found)
