-- Every spelling fits into the buffer, and what is spelled so is read.
use Rattle.std.proofs.Common.{refl, ap, ◌∙◌, arith}
use Rattle.wire.specs.Reading.{reading}
use Rattle.wire.proofs.Sizes.{spelling_few, front_is}
use Rattle.wire.proofs.SpelledIsRead.{reading-again}
use Rattle.wire.proofs.packet.Packet.of.Goals as goal

pub unreachable-requires : goal.unreachable-requires
unreachable-requires c = omega (arith, c.in-Err.ensures.small.0 refl, spelling_few c.args.datagram.now c.requires)

pub returns-clause-reads_back : goal.returns-clause-reads_back
returns-clause-reads_back c =
    ap reading (front_is _ _ c.write.new.buffer c.in-Ok.len c.in-Ok.ensures.ok.0 c.in-Ok.ensures.ok.1)
    ∙ reading-again c.entries_are_read_as_spelled.ensures.spelled c.args.datagram.now c.requires
