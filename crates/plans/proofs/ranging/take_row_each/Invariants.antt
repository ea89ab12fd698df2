-- The plans before the index have looked at the row, and the others have not.
use Rattle.plans.proofs.Ranged.{EachTakes}
use Rattle.plans.proofs.ranging.take_row_each.Given as goal

abbrev pub invariant-loop-k : goal.invariant-loop-k
invariant-loop-k g l = EachTakes (g.S.Store.tables l.store) l.plans l.table l.id.0 l.count l.k l.initial.groups l.groups
