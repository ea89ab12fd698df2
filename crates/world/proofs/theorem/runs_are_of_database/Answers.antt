-- Each step of a fresh world is one of the database.
use Rattle.world.proofs.Databases.{runs-of-database}
use Rattle.world.proofs.theorem.runs_are_of_database.Goals as goal

pub returns : goal.returns
returns c = runs-of-database c.steps_are_told.ensures
