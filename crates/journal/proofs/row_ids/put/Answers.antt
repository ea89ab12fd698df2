-- The identifier is in a slot, or if its bucket is full among the others.
use Rattle.journal.proofs.Presence.{has_id-set}
use Rattle.journal.proofs.Slots.{put-others, put-slots}
use Rattle.journal.proofs.row_ids.put.Goals as goal

pub returns-in_ok-insert : goal.returns-in_ok-insert
returns-in_ok-insert c =
    put-others c.args.slots.now c.put.new.self c.args.overflow.now.keys c.insert.new.self.keys c.args.id c.put.result c.if-not-put.true
    c.put.ensures (has_id-set c.args.overflow.now.keys c.insert.new.self.keys c.args.id _ c.in_ok-insert.ensures.updates.0)

pub returns-else-not-put : goal.returns-else-not-put
returns-else-not-put c =
    put-slots c.args.slots.now c.put.new.self c.args.overflow.now.keys c.args.id c.put.result c.if-not-put.false c.put.ensures
