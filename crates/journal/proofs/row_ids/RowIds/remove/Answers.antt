-- The identifier is taken out of the slots and of the others.
use Rattle.journal.proofs.Presence.{has_id-set}
use Rattle.journal.proofs.Slots.{removed-both}
use Rattle.journal.proofs.row_ids.RowIds.remove.Goals as goal

pub returns : goal.returns
returns c = λ r. rw (← c.self.view_is) (removed-both c.self.inside.slots c.remove.new.self c.self.inside.overflow.keys
    c.remove-2.new.self.keys
    c.args.id c.remove.ensures (has_id-set c.self.inside.overflow.keys c.remove-2.new.self.keys c.args.id _ c.remove-2.ensures.updates.0) r)
