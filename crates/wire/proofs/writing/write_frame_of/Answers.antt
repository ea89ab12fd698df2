-- There are no more entries than bytes.
use Rattle.std.proofs.Common.{arith}
use Rattle.wire.proofs.Sizes.{entries_few}
use Rattle.wire.proofs.writing.write_frame_of.Goals as goal

pub frame_front-front-requires-clause-many : goal.frame_front-front-requires-clause-many
frame_front-front-requires-clause-many c = omega (arith, entries_few c.args.entries.now, c.entries_len-len.ensures)
