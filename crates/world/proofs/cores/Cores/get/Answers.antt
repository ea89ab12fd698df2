-- The transaction reads a durable version, and looks at it.
use Rattle.std.proofs.Common.{◌≤◌, length, refl, sym, arith, length-append}
use Rattle.rows.specs.Shape.{shape_of}
use Rattle.mvcc.specs.Transaction.{Transaction}
use Rattle.mvcc.specs.Transactions.{get_answer}
use Rattle.script.specs.declared.event.Event.TheVariants.{Get}
use Rattle.world.specs.declared.primary_node.PrimaryNode.TheVariants.{Running}
use Rattle.world.proofs.Slots.{slot_at}
use Rattle.world.proofs.Told.{get-told}
use Rattle.world.proofs.Moving.{look_nothing, looked}
use Rattle.world.proofs.Nodes.{node_seen}
use Rattle.world.proofs.cores.Cores.get.Goals as goal

pub returns-in-None : goal.returns-in-None
returns-in-None c =
    let inside = c.self.inside in
    let seen =
    node_seen inside.setup inside.primary (Running c.in-Running.primary) inside.transactions.items inside.sent.items inside.replicas.items
    inside.boots.items inside.asked_at.items c.args.self.now c.in-Running.is c.self.view_is in
    let primary = c.in-Running.primary.primary in
    let there = rw (c.as_slice.ensures.value, c.in-None.is) at c.find_open.ensures in
    look_nothing _ _ seen refl c.args.number (Get c.args.number c.args.table c.args.row c.args.column)
    (λ draft. get_answer (shape_of primary.schema) primary.durable draft c.args.table c.args.row.0 c.args.column) refl (sym there)

pub get-requires : goal.get-requires
get-requires c =
    let inside = c.self.inside in
    let seen =
    node_seen inside.setup inside.primary (Running c.in-Running.primary) inside.transactions.items inside.sent.items inside.replicas.items
    inside.boots.items inside.asked_at.items c.args.self.now c.in-Running.is c.self.view_is in
    let primary = c.in-Running.primary.primary in
    let there = rw (c.as_slice.ensures.value, c.in-Some.is) at c.find_open.ensures in
    let snapshots = rw (← seen) at c.requires.snapshots in
    let within =
    slot_at (λ (draft : Transaction). draft.snapshot ≤ length primary.durable) inside.transactions.items c.args.number
    c.in-Some.transaction.now (sym there) snapshots in
    rw c.versions.ensures (omega (arith, length-append primary.durable primary.pending))

pub returns-in-Some : goal.returns-in-Some
returns-in-Some c =
    let inside = c.self.inside in
    let seen =
    node_seen inside.setup inside.primary (Running c.in-Running.primary) inside.transactions.items inside.sent.items inside.replicas.items
    inside.boots.items inside.asked_at.items c.args.self.now c.in-Running.is c.self.view_is in
    let primary = c.in-Running.primary.primary in
    let draft = c.in-Some.transaction.now in
    let there = rw (c.as_slice.ensures.value, c.in-Some.is) at c.find_open.ensures in
    let snapshots = rw (← seen) at c.requires.snapshots in
    let within =
    slot_at (λ (draft : Transaction). draft.snapshot ≤ length primary.durable) inside.transactions.items c.args.number
    draft (sym there) snapshots in
    let told = sym (get-told (shape_of primary.schema) primary.durable primary.pending draft within c.args.table c.args.row.0
    c.args.column) in
    rw (c.look_output.ensures, c.get.ensures, c.versions.ensures)
    (looked _ _ seen refl c.args.number (Get c.args.number c.args.table c.args.row c.args.column)
    (λ draft. get_answer (shape_of primary.schema) primary.durable draft c.args.table c.args.row.0 c.args.column) refl draft _
    (sym there) told)
