-- The column of just these bytes is one of the table's, as wide as the bytes.
use Rattle.std.proofs.Common.{length, sym, arith}
use Rattle.mvcc.proofs.cells.patched_cell.Goals as goal

pub first_value-requires-clause-good : goal.first_value-requires-clause-good
first_value-requires-clause-good c =
    (c.columns_are_of_their_width.ensures.column c.args.kinds.now c.args.offset (length c.args.bytes.now) c.in-Some.found
    c.in-Some.kind (sym c.in-Some.ensures) c.requires).0

pub first_value-requires-clause-wide : goal.first_value-requires-clause-wide
first_value-requires-clause-wide c =
    let found =
    c.columns_are_of_their_width.ensures.column c.args.kinds.now c.args.offset (length c.args.bytes.now) c.in-Some.found
    c.in-Some.kind (sym c.in-Some.ensures) c.requires in
    omega (arith, found.1)
