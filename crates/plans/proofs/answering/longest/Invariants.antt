-- No table of the plans before the index has more rows.
use Rattle.std.proofs.Common.{◌≤◌, length, take}
use Rattle.std.specs.List.{All}
use Rattle.rows.specs.Tables.{rows_of}
use Rattle.plans.proofs.answering.longest.Given as goal

abbrev pub invariant-loop-plan : goal.invariant-loop-plan
invariant-loop-plan g l = All (λ plan. length (rows_of (g.S.Store.tables l.store) plan.table) ≤ l.rows) (take l.plan-index l.plans)
