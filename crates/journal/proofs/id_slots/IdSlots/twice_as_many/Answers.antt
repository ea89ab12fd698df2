-- All slots are empty.
use Rattle.std.proofs.Common.{◌≡◌, replicate}
use Rattle.journal.proofs.Slots.{none-found}
use Rattle.journal.proofs.id_slots.IdSlots.twice_as_many.Goals as goal

pub returns : goal.returns
returns c =
    let zeros : c.in_ok-vec.field-0.items ≡ replicate c.if-is_empty.count 0 = c.in_ok-vec.ensures.items_if_clones_equal (λ y h. h) in
    λ id. rw zeros (none-found c.if-is_empty.count id)
