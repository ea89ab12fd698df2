-- The column that was found is one of the table's, as wide as the bytes.
use Rattle.std.proofs.Common.{length, sym, arith}
use Rattle.rows.proofs.Columns.{column-fits}
use Rattle.rows.proofs.row.Row.patch.Goals as goal

pub first_value-requires-clause-good : goal.first_value-requires-clause-good
first_value-requires-clause-good c =
    (column-fits c.args.kinds.now c.args.offset (length c.args.bytes.now) c.in-Some.column c.in-Some.kind
    (sym c.in-Some.ensures) c.requires).0

pub first_value-requires-clause-wide : goal.first_value-requires-clause-wide
first_value-requires-clause-wide c =
    let found =
    column-fits c.args.kinds.now c.args.offset (length c.args.bytes.now) c.in-Some.column c.in-Some.kind
    (sym c.in-Some.ensures) c.requires in
    omega (arith, found.1)
