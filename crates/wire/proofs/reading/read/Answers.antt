-- The two laws of reading, of what was read.
use Rattle.std.proofs.Common.{◌∙◌, ap, arith}
use Rattle.wire.specs.Reading.{reading}
use Rattle.wire.proofs.ReadIsSpelled.{is_found}
use Rattle.wire.proofs.SpelledIsRead.{reading-again}
use Rattle.wire.proofs.reading.read.Goals as goal

pub returns-clause-found : goal.returns-clause-found
returns-clause-found c =
    is_found c.numbers_are_read_as_spelled.ensures.spelled c.numbers_are_read_as_spelled.ensures.below
    c.entries_are_read_as_spelled.ensures.found c.args.bytes.now c.read_datagram.result (λ i. omega (arith, c.type_inv.bytes i))
    c.read_datagram.ensures

pub returns-clause-only : goal.returns-clause-only
returns-clause-only c = λ datagram spelled e.
    c.read_datagram.ensures ∙ ap reading e
    ∙ reading-again c.entries_are_read_as_spelled.ensures.spelled datagram spelled
