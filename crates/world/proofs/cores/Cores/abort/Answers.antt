-- The transaction is taken out of its slot for good.
use Rattle.std.proofs.Common.{None, refl, sym, ◌∙◌}
use Rattle.world.specs.declared.primary_node.PrimaryNode.TheVariants.{Running}
use Rattle.world.proofs.Moving.{gave_up}
use Rattle.world.proofs.Nodes.{node_seen}
use Rattle.world.proofs.cores.Cores.abort.Goals as goal
use Rattle.world.proofs.cores.Cores.abort.Goals.{in-None, in-Some}

pub returns : goal.returns
returns c =
    let inside = c.self.inside in
    let seen =
    node_seen inside.setup inside.primary (Running c.in-Running.field-0) inside.transactions.items inside.sent.items inside.replicas.items
    inside.boots.items inside.asked_at.items c.args.self.now c.in-Running.is c.self.view_is in
    let left = c.take_open.ensures.left in
    elim c.match-take_open.branch [
      | in-None w ↦ rw (c.in-Running.is, w.result-is) (gave_up _ _ seen refl c.args.number None c.take_open.new.transactions.items
          (sym c.take_open.ensures.taken ∙ w.in-None.is) left)
      | in-Some w ↦ rw (c.in-Running.is, w.result-is) (gave_up _ _ seen refl c.args.number _ c.take_open.new.transactions.items
          (sym c.take_open.ensures.taken ∙ w.in-Some.is) left)
    ]
