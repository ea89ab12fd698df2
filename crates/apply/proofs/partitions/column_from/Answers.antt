-- The partition's rows are those of the piece.
use Rattle.std.proofs.Common.{◌≡◌, ◌<◌, length, IfSome, subst, ◌∙◌, arith}
use Rattle.rows.specs.Tables.{Rows}
use Rattle.store.specs.Lent.{rows_from, column_in, AreLent}
use Rattle.apply.proofs.Lent.{lent-rows}
use Rattle.apply.proofs.partitions.column_from.Goals as goal

pub returns-in-Some : goal.returns-in-Some
returns-in-Some c =
    let is : c.args.pieces ≡ length c.args.partitions.now = omega (arith, c.if-pieces-partitions.false) in
    let lt : c.args.piece < c.args.pieces = omega (arith, c.if-piece-pieces.false) in
    let same =
    c.in-Some.ensures.rows ∙ lent-rows c.args.partitions.now c.args.pieces c.args.piece c.args.table c.index-partitions-piece.result
    c.requires.partitions is lt c.index-partitions-piece.is in
    subst (λ (rows : Rows). IfSome c.column_from.result (AreLent (column_in (rows_from rows c.args.from c.args.count) c.args.column))) same
    c.column_from.ensures
