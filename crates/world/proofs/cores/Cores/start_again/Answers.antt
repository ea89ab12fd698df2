-- The core starts on what the journal keeps; without memory the journal keeps the same.
use Rattle.std.proofs.Common.{[], refl}
use Rattle.journal.specs.declared.form.Form.TheVariants.{New}
use Rattle.world.specs.declared.primary_node.PrimaryNode.TheVariants.{Stopped}
use Rattle.world.proofs.Nodes.{node_seen, start_done, start_lacks}
use Rattle.world.proofs.cores.Cores.start_again.Goals as goal

pub returns-in-Ok : goal.returns-in-Ok
returns-in-Ok c =
    let inside = c.self.inside in
    let seen =
    node_seen inside.setup inside.primary (Stopped c.in-Stopped.journal c.in-Stopped.kept c.in-Stopped.form) inside.transactions.items
    inside.sent.items
    inside.replicas.items inside.boots.items inside.asked_at.items c.args.self.now c.in-Stopped.is c.self.view_is in
    let kept = (rw (← seen) at c.requires.kept) refl in
    let same = (rw c.replace-old.ensures.value at c.in-Ok.ensures.ok) c.in-Stopped.form c.in-Stopped.kept.items kept.0 kept.1 in
    let core = c.in-Ok.primary in
    rw (c.put.ensures, c.durable-durable.ensures) (start_done inside.setup core.primary core.journal.bytes core.form
    inside.transactions.items inside.sent.items inside.replicas.items inside.boots.items inside.asked_at.items
    c.args.self.now c.in-Stopped.kept.items
    c.in-Stopped.journal.bytes c.in-Stopped.form seen same.0 same.1)

pub returns-in-Err : goal.returns-in-Err
returns-in-Err c =
    let inside = c.self.inside in
    let seen =
    node_seen inside.setup inside.primary (Stopped c.in-Stopped.journal c.in-Stopped.kept c.in-Stopped.form) inside.transactions.items
    inside.sent.items
    inside.replicas.items inside.boots.items inside.asked_at.items c.args.self.now c.in-Stopped.is c.self.view_is in
    let kept = (rw (← seen) at c.requires.kept) refl in
    let back = rw c.replace-old.ensures.value at c.in-Err.ensures.err in
    rw c.put-in-Err.ensures (start_lacks inside.setup c.args.self.now.primary [] New inside.transactions.items inside.sent.items
    inside.replicas.items inside.boots.items inside.asked_at.items c.args.self.now c.in-Stopped.kept.items
    c.in-Stopped.journal.bytes c.in-Err.back.bytes
    c.in-Stopped.form kept.0 seen (rw back kept.1))
