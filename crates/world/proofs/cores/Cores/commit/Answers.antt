-- The transaction is taken out of its slot, and put back when out of memory.
use Rattle.std.proofs.Common.{refl, sym, ◌∙◌}
use Rattle.world.specs.declared.primary_node.PrimaryNode.TheVariants.{Running}
use Rattle.world.proofs.Moving.{commit_nothing, commit_lacks}
use Rattle.world.proofs.Nodes.{node_seen}
use Rattle.world.proofs.cores.Cores.commit.Goals as goal

pub returns-in_default-take_open : goal.returns-in_default-take_open
returns-in_default-take_open c =
    let inside = c.self.inside in
    let seen =
    node_seen inside.setup inside.primary (Running c.in-Running.primary) inside.transactions.items inside.sent.items inside.replicas.items
    inside.boots.items inside.asked_at.items c.args.self.now c.in-Running.is c.self.view_is in
    commit_nothing _ _ seen refl c.args.number c.args.worker
    c.take_open.new.transactions.items (sym c.take_open.ensures.taken ∙ c.in_default-take_open.is) c.take_open.ensures.left

pub returns-in-Err-default-Memory : goal.returns-in-Err-default-Memory
returns-in-Err-default-Memory c =
    let inside = c.self.inside in
    let seen =
    node_seen inside.setup inside.primary (Running c.in-Running.primary) inside.transactions.items inside.sent.items inside.replicas.items
    inside.boots.items inside.asked_at.items c.args.self.now c.in-Running.is c.self.view_is in
    let refused = c.in-Err-default-Memory.ensures.refused in
    let journal = c.in-Err-default-Memory.ensures.journal in
    let form = c.in-Err-default-Memory.ensures.form in
    let left = rw (c.take_open.ensures.left) at c.put_back.ensures in
    let fault = rw c.in-Err-default-Memory.field-0-1-is at refused.2 in
    rw (refused.1, journal, form) (commit_lacks _ _ seen refl c.args.number c.args.worker c.in-Some.transaction
    c.in-Err-default-Memory.transaction _ (sym c.take_open.ensures.taken ∙ c.in-Some.is) left refused.0 fault)
