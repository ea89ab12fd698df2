-- The identifiers of the slots before the index are put.
use Rattle.std.proofs.Common.{◌≡◌, ◌||◌, ℕ, take}
use Rattle.journal.specs.Inner.Presence.{has_id}
use Rattle.journal.specs.Inner.Slots.{ids_of, ids_in}
use Rattle.journal.proofs.row_ids.put_all.Given as goal

abbrev pub invariant-loop-at : goal.invariant-loop-at
invariant-loop-at l =
    (r : ℕ) → has_id (ids_in l.slots l.overflow.keys) r ≡ (has_id (ids_of (take l.at l.from)) r || has_id
    (ids_in l.fn.slots l.fn.overflow.keys) r)
