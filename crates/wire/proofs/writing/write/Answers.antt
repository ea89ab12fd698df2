-- There are no more entries than bytes.
use Rattle.std.proofs.Common.{length, ap, arith}
use Rattle.wire.proofs.Sizes.{entries_few}
use Rattle.wire.proofs.writing.write.Goals as goal

pub frame_front-front-requires-clause-many : goal.frame_front-front-requires-clause-many
frame_front-front-requires-clause-many c =
    omega (arith, entries_few c.in-Frame.entries, c.len-count.ensures, ap length c.as_bytes-bytes.ensures)

pub piece_front-front-requires-clause-many : goal.piece_front-front-requires-clause-many
piece_front-front-requires-clause-many c =
    omega (arith, entries_few c.in-Piece.entries, c.len.ensures, ap length c.as_bytes-bytes-in-Piece.ensures)
