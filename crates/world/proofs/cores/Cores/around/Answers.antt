-- The parts around the primary.
use Rattle.std.proofs.Common.{refl}
use Rattle.world.proofs.Nodes.{parts_made}
use Rattle.world.proofs.cores.Cores.around.Goals as goal

pub returns : goal.returns
returns c =
    let made = c.args.replicas in
    parts_made made.setup made.setup c.args.primary c.new.result.items c.new-2.result.items made.cores.items made.boots.items
    made.asked_at.items refl c.requires.still c.new.ensures.items c.new-2.ensures.items c.requires.new.0 c.requires.new.1 c.requires.new.2
