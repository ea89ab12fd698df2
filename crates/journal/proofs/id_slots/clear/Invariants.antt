-- The slots up to the index do not have the identifier.
use Rattle.journal.specs.Inner.Slots.{IsCleared}
use Rattle.journal.proofs.id_slots.clear.Given as goal

abbrev pub invariant-loop-at : goal.invariant-loop-at
invariant-loop-at l = IsCleared l.fn.slots.items l.slots.items l.id l.first l.at
