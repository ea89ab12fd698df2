-- What the primary answers to bytes that are not forged is sent, or there is no memory for it.
use Rattle.std.proofs.Common.{refl, sym, ◌∙◌}
use Rattle.world.specs.declared.primary_node.PrimaryNode.TheVariants.{Running}
use Rattle.world.proofs.Delivering.{raw_lacks, raw_answered}
use Rattle.world.proofs.Nodes.{node_seen}
use Rattle.world.proofs.cores.Cores.raw_to_primary.Goals as goal

pub returns-in_default-on_bytes : goal.returns-in_default-on_bytes
returns-in_default-on_bytes c =
    let inside = c.self.inside in
    let seen =
    node_seen inside.setup inside.primary (Running c.in-Running.primary) inside.transactions.items inside.sent.items inside.replicas.items
    inside.boots.items inside.asked_at.items c.args.self.now c.in-Running.is c.self.view_is in
    let free = rw c.as_slice.ensures.value at (sym c.is_forged.ensures ∙ c.if-is_forged.false) in
    raw_lacks _ _ seen c.args.bytes.now refl free c.in_default-on_bytes.ensures.err

pub returns : goal.returns
returns c =
    let inside = c.self.inside in
    let seen =
    node_seen inside.setup inside.primary (Running c.in-Running.primary) inside.transactions.items inside.sent.items inside.replicas.items
    inside.boots.items inside.asked_at.items c.args.self.now c.in-Running.is c.self.view_is in
    let free = rw c.as_slice.ensures.value at (sym c.is_forged.ensures ∙ c.if-is_forged.false) in
    let sent = rw c.as_slice-2.ensures.value at c.send_answers.ensures in
    raw_answered _ _ seen c.args.bytes.now refl free c.in-Ok.outs.items _ _ c.in-Ok.ensures.ok sent
