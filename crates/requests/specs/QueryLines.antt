-- Which lines of batches there are.
use Rattle.std.specs.Prelude.{◌≡◌, ℕ, List, Result, Ok, Err, ◌⊎◌}
use Rattle.rows.specs.Shape.{shape_of}
use Rattle.queries.specs.Checking.{checked}
use Rattle.queries.specs.declared.faults.PlanFault.{PlanFault}
use Rattle.queries.specs.declared.faults.PlanFault.TheVariants.{NoColumn}
use Rattle.queries.specs.declared.plan.Plan.{Plan}
use Rattle.script.specs.declared.setup.Setup.{Setup}
use Rattle.script.specs.EventLines.{IsPlanText}
use Rattle.requests.specs.declared.faults.LineFault.{LineFault}
use Rattle.requests.specs.declared.faults.LineFault.TheVariants.{NoPlan, BadPlan}

-- a plan by what a check of it answers: a column that is not there may have been added
abbrev pub allowed : Result (Unit {0}) PlanFault → Plan → Result Plan LineFault
allowed (Ok fits) plan = Ok plan
allowed (Err NoColumn) plan = Ok plan
allowed (Err fault) plan = Err (BadPlan fault)

-- what a line of batches says on the tables of a setup: the plan that it spells, if it fits but for columns that are not
-- there; or why it is none
abbrev pub IsQueryLine : Setup → List ℕ → Result Plan LineFault → Type 0
IsQueryLine setup line read =
    ((plan : Plan) × IsPlanText setup.schema line plan × (read ≡ allowed (checked (shape_of setup.schema) plan) plan))
    ⊎ (((plan : Plan) → ¬ IsPlanText setup.schema line plan) × (read ≡ Err NoPlan))
