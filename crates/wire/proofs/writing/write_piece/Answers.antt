-- There are no more entries than bytes.
use Rattle.std.proofs.Common.{arith}
use Rattle.wire.proofs.Sizes.{entries_few}
use Rattle.wire.proofs.writing.write_piece.Goals as goal

pub piece_front-front-requires-clause-many : goal.piece_front-front-requires-clause-many
piece_front-front-requires-clause-many c = omega (arith, entries_few c.args.entries.now, c.entries_len-len.ensures)
