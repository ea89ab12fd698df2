-- All fit exactly if those that were not looked at do.
use Rattle.rows.specs.Tables.{shape_in}
use Rattle.dispatcher.proofs.Widened.{AreFitFrom}
use Rattle.dispatcher.proofs.replica_core.all_fit.Given as goal

abbrev pub invariant-loop-plan : goal.invariant-loop-plan
invariant-loop-plan g l = AreFitFrom (shape_in (g.S.Store.tables l.store)) l.plans l.plan-index
