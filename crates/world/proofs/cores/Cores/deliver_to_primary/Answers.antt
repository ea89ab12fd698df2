-- What the primary answers is sent, or there is no memory for it.
use Rattle.std.proofs.Common.{refl, sym}
use Rattle.std.proofs.lemmas.Bool.{ltb-true, ltb-false}
use Rattle.std.proofs.lemmas.Option.{slice_get_read, slice_get_past}
use Rattle.world.specs.declared.primary_node.PrimaryNode.TheVariants.{Running}
use Rattle.world.proofs.Delivering.{never_sent, deliver_lacks, delivered_to}
use Rattle.world.proofs.Nodes.{node_seen}
use Rattle.world.proofs.cores.Cores.deliver_to_primary.Goals as goal

pub returns-in_default-get : goal.returns-in_default-get
returns-in_default-get c =
    let inside = c.self.inside in
    let seen =
    node_seen inside.setup inside.primary (Running c.in-Running.primary) inside.transactions.items inside.sent.items inside.replicas.items
    inside.boots.items inside.asked_at.items c.args.self.now c.in-Running.is c.self.view_is in
    let at = rw c.deref.ensures.value at (slice_get_past c.deref.result.now c.args.index
    (ltb-false _ _ (sym c.in_default-get.ensures.lookup.0))) in
    never_sent _ _ seen c.args.index refl at

pub returns-in_default-on_bytes : goal.returns-in_default-on_bytes
returns-in_default-on_bytes c =
    let inside = c.self.inside in
    let seen =
    node_seen inside.setup inside.primary (Running c.in-Running.primary) inside.transactions.items inside.sent.items inside.replicas.items
    inside.boots.items inside.asked_at.items c.args.self.now c.in-Running.is c.self.view_is in
    let at = rw c.deref.ensures.value at (slice_get_read c.deref.result.now _ c.args.index c.in-Some.bytes.now refl
    (ltb-true _ _ (sym c.in-Some.ensures.lookup.0)) c.in-Some.ensures.lookup.1) in
    let some = rw c.as_slice.ensures at c.in_default-on_bytes.ensures.err in
    deliver_lacks _ _ seen c.args.index c.in-Some.bytes.now at refl some

pub returns : goal.returns
returns c =
    let inside = c.self.inside in
    let seen =
    node_seen inside.setup inside.primary (Running c.in-Running.primary) inside.transactions.items inside.sent.items inside.replicas.items
    inside.boots.items inside.asked_at.items c.args.self.now c.in-Running.is c.self.view_is in
    let at = rw c.deref.ensures.value at (slice_get_read c.deref.result.now _ c.args.index c.in-Some.bytes.now refl
    (ltb-true _ _ (sym c.in-Some.ensures.lookup.0)) c.in-Some.ensures.lookup.1) in
    let outs = rw c.as_slice.ensures at c.in-Ok.ensures.ok in
    let sent = rw c.as_slice-2.ensures.value at c.send_answers.ensures in
    delivered_to _ _ seen c.args.index c.in-Some.bytes.now at refl c.in-Ok.outs.items _ _ outs sent
