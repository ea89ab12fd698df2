-- What is spelled so is read.
use Rattle.std.proofs.Common.{drop, ap, ◌∙◌}
use Rattle.wire.specs.Reading.{reading}
use Rattle.wire.specs.Spelling.{datagram_of_frame, frame_spelling}
use Rattle.wire.proofs.Sizes.{front_is}
use Rattle.wire.proofs.SpelledIsRead.{reading-again}
use Rattle.wire.proofs.packet.Packet.of_frame.Goals as goal

pub returns-clause-reads_back : goal.returns-clause-reads_back
returns-clause-reads_back c =
    ap reading (front_is (frame_spelling c.args.frame.now)
    (drop c.in-Ok.len _) c.write_frame.new.buffer c.in-Ok.len c.in-Ok.ensures.ok.0 c.in-Ok.ensures.ok.1)
    ∙ reading-again c.entries_are_read_as_spelled.ensures.spelled (datagram_of_frame c.args.frame.now) c.requires
