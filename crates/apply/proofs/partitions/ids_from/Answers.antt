-- The partition's rows are those of the piece.
use Rattle.std.proofs.Common.{◌≡◌, ◌<◌, ◌≤◌, [], length, subst, ◌∙◌, arith}
use Rattle.std.specs.Map.{keys_of}
use Rattle.rows.specs.Tables.{Rows}
use Rattle.store.specs.Lent.{rows_from}
use Rattle.apply.proofs.Lent.{lent-rows}
use Rattle.apply.proofs.partitions.ids_from.Goals as goal

pub returns-in-Some-clause-value : goal.returns-in-Some-clause-value
returns-in-Some-clause-value c =
    let is : c.args.pieces ≡ length c.args.partitions.now = omega (arith, c.if-pieces-partitions.false) in
    let lt : c.args.piece < c.args.pieces = omega (arith, c.if-piece-pieces.false) in
    let same =
    c.in-Some.ensures.rows ∙ lent-rows c.args.partitions.now c.args.pieces c.args.piece c.args.table c.index-partitions-piece.result
    c.requires.partitions is lt c.index-partitions-piece.is in
    subst (λ (rows : Rows). c.ids_from.result.now ≡ keys_of (rows_from rows c.args.from (length c.ids_from.result.now))) same
    c.ids_from.ensures.value

pub returns-in-Some-clause-all : goal.returns-in-Some-clause-all
returns-in-Some-clause-all c =
    let is : c.args.pieces ≡ length c.args.partitions.now = omega (arith, c.if-pieces-partitions.false) in
    let lt : c.args.piece < c.args.pieces = omega (arith, c.if-piece-pieces.false) in
    let same =
    c.in-Some.ensures.rows ∙ lent-rows c.args.partitions.now c.args.pieces c.args.piece c.args.table c.index-partitions-piece.result
    c.requires.partitions is lt c.index-partitions-piece.is in
    subst (λ (rows : Rows). c.ids_from.result.now ≡ [] → length rows ≤ c.args.from) same c.ids_from.ensures.all
