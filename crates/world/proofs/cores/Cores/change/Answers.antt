-- The transaction is taken out of its slot, changed or not, and put back.
use Rattle.std.proofs.Common.{◌≤◌, length, refl, sym, ◌∙◌, arith, length-append}
use Rattle.rows.specs.Shape.{shape_of}
use Rattle.mvcc.specs.Transaction.{Transaction}
use Rattle.world.specs.declared.primary_node.PrimaryNode.TheVariants.{Running}
use Rattle.world.specs.Inner.CoreSteps.{change_answer}
use Rattle.world.specs.Standing.{world_of}
use Rattle.world.proofs.Slots.{slot_at}
use Rattle.world.proofs.Told.{change-told}
use Rattle.world.proofs.Moving.{change-is, change-asks, change_nothing, answered}
use Rattle.world.proofs.Nodes.{parts_with, node_seen}
use Rattle.world.proofs.cores.Cores.change.Goals as goal

pub returns-in_default-take_open : goal.returns-in_default-take_open
returns-in_default-take_open c =
    let inside = c.self.inside in
    let p =
    parts_with inside.setup (Running c.in-Running.primary) inside.transactions.items inside.sent.items inside.replicas.items
    inside.boots.items inside.asked_at.items in
    let seen =
    node_seen inside.setup inside.primary (Running c.in-Running.primary) inside.transactions.items inside.sent.items inside.replicas.items
    inside.boots.items inside.asked_at.items c.args.self.now c.in-Running.is c.self.view_is in
    let primary = c.in-Running.primary.primary in
    let event = c.args.event.now in
    rw c.in-Running.is (change_nothing p _ seen refl c.args.number event (change_answer (shape_of primary.schema) primary.durable event)
    (change-is p c.args.number event c.requires.changes refl)
    c.take_open.new.transactions.items (sym c.take_open.ensures.taken ∙ c.in_default-take_open.is) c.take_open.ensures.left)

pub make_change-changed-requires : goal.make_change-changed-requires
make_change-changed-requires c =
    let inside = c.self.inside in
    let seen =
    node_seen inside.setup inside.primary (Running c.in-Running.primary) inside.transactions.items inside.sent.items inside.replicas.items
    inside.boots.items inside.asked_at.items c.args.self.now c.in-Running.is c.self.view_is in
    let primary = c.in-Running.primary.primary in
    let snapshots = rw (← seen) at c.requires.ready.snapshots in
    let within =
    slot_at (λ (draft : Transaction). draft.snapshot ≤ length primary.durable) inside.transactions.items c.args.number
    c.in-Some.transaction (sym c.take_open.ensures.taken ∙ c.in-Some.is) snapshots in
    record {
      known = rw c.versions.ensures (omega (arith, length-append primary.durable primary.pending));
      changes = (c.args.number, c.requires.changes);
    }

pub returns : goal.returns
returns c =
    let inside = c.self.inside in
    let p =
    parts_with inside.setup (Running c.in-Running.primary) inside.transactions.items inside.sent.items inside.replicas.items
    inside.boots.items inside.asked_at.items in
    let seen =
    node_seen inside.setup inside.primary (Running c.in-Running.primary) inside.transactions.items inside.sent.items inside.replicas.items
    inside.boots.items inside.asked_at.items c.args.self.now c.in-Running.is c.self.view_is in
    let primary = c.in-Running.primary.primary in
    let event = c.args.event.now in
    let draft = c.in-Some.transaction in
    let there = sym c.take_open.ensures.taken ∙ c.in-Some.is in
    let left = rw (c.take_open.ensures.left) at c.put_back.ensures in
    let snapshots = rw (← seen) at c.requires.ready.snapshots in
    let within : draft.snapshot ≤ length primary.durable =
    slot_at (λ (draft : Transaction). draft.snapshot ≤ length primary.durable) inside.transactions.items c.args.number
    draft there snapshots in
    let told = sym (change-told (shape_of primary.schema) primary.durable primary.pending draft within event) in
    rw (c.in-Running.is, c.change_output.ensures)
    (answered p _ seen refl c.args.number event (change_answer (shape_of primary.schema) primary.durable event)
    (change-is p c.args.number event c.requires.changes refl) draft c.make_change-changed.new.transaction _ _
    c.make_change-changed.result (change-asks (world_of p) c.args.number event c.requires.changes) there left told
    (rw (c.versions.ensures) at c.make_change-changed.ensures.ok)
    (rw (c.versions.ensures) at c.make_change-changed.ensures.refused))
