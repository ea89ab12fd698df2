-- The identifier is put into an empty slot of its bucket.
use Rattle.std.proofs.Common.{◌<◌, arith}
use Rattle.journal.proofs.Slots.{id-put}
use Rattle.journal.proofs.id_slots.IdSlots.put.Goals as goal

pub returns-in-Some : goal.returns-in-Some
returns-in-Some c =
    let some : 0 < c.args.id = omega (arith, c.if-id-eq0.false) in
    let here = rw c.as_slice.ensures.value at c.in-Some.ensures in
    λ r. rw (← c.self.view_is) (id-put c.self.inside.slots.items c.in-Some.at c.args.id here.0 here.1 some r)
