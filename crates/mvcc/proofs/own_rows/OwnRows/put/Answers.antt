-- The row has its new indices, and any other row those that it had.
use Rattle.mvcc.proofs.Keys.{lookup-put}
use Rattle.mvcc.proofs.OwnRows.{indices-put}
use Rattle.mvcc.proofs.own_rows.OwnRows.put.Goals as goal

pub returns-clause-ok : goal.returns-clause-ok
returns-clause-ok c =
    let before = c.self.inside.rows.entries in
    let after = c.insert.new.self.entries in
    rw (← c.self.view_is) (indices-put before after c.args.table c.args.row.0 c.args.indices
    (lookup-put before after c.args.table c.args.row.0 c.args.indices c.in_ok-insert.ensures.updates.0))
