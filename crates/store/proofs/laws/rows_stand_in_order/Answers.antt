-- Those before the row have lower identifiers, so that each of them is passed.
use Rattle.store.proofs.Rows.{placed}
use Rattle.store.proofs.laws.rows_stand_in_order.Goals as goal

pub returns : goal.returns
returns c = placed
