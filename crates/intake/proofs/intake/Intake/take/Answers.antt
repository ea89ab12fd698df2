-- What one worker's part answers and leaves is what the call does.
use Rattle.std.proofs.Common.{[], refl}
use Rattle.intake.proofs.Workers.{taken-seen}
use Rattle.intake.proofs.intake.Intake.take.Goals as goal

pub returns : goal.returns
returns c =
    taken-seen c.self.inside.workers.items c.args.self.now [] 0 c.args.frame.now c.index_mut.result.now c.take.new.self c.take.result
    refl c.self.view_is c.requires c.index_mut.ensures.value c.take.ensures
