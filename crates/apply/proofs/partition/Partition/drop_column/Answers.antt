-- The table, in its place.
use Rattle.std.proofs.Common.{slice_set, ap, ◌∙◌}
use Rattle.rows.specs.Tables.{Table}
use Rattle.apply.specs.Blocks.{narrower}
use Rattle.apply.proofs.Added.{dropped-set}
use Rattle.apply.proofs.partition.Partition.drop_column.Goals as goal

pub returns : goal.returns
returns c =
    let tables = c.args.self.now.tables.items in
    ap (slice_set tables c.args.table) c.drop_column.ensures
    ∙ ap (λ (table : Table). slice_set tables c.args.table (narrower table)) c.index_mut.ensures.value
    ∙ dropped-set tables c.args.table c.index_mut.result.now
