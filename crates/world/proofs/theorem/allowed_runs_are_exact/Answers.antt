-- Each step of a world that is undamaged and fresh leaves one.
use Rattle.world.proofs.Reports.{allowed-exact}
use Rattle.world.proofs.theorem.allowed_runs_are_exact.Goals as goal

pub returns : goal.returns
returns c = allowed-exact c.steps_are_told.ensures
