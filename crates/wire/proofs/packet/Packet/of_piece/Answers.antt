-- What is spelled so is read.
use Rattle.std.proofs.Common.{drop, ap, ◌∙◌}
use Rattle.wire.specs.declared.datagram.Datagram.{Datagram}
use Rattle.wire.specs.declared.datagram.Datagram.TheVariants.{Piece}
use Rattle.wire.specs.Reading.{reading}
use Rattle.wire.specs.Spelling.{spelling}
use Rattle.wire.proofs.Sizes.{front_is}
use Rattle.wire.proofs.SpelledIsRead.{reading-again}
use Rattle.wire.proofs.packet.Packet.of_piece.Goals as goal

pub returns-clause-reads_back : goal.returns-clause-reads_back
returns-clause-reads_back c =
    let piece : Datagram = Piece c.args.base c.args.number c.args.last c.args.entries.now in
    ap reading
    (front_is (spelling piece) (drop c.in-Ok.len _) c.write_piece.new.buffer c.in-Ok.len c.in-Ok.ensures.ok.0 c.in-Ok.ensures.ok.1)
    ∙ reading-again c.entries_are_read_as_spelled.ensures.spelled piece c.requires
