-- The two laws of reading, of what was found.
use Rattle.std.proofs.Common.{◌∙◌, ap, arith}
use Rattle.rows.specs.Reading.{entry_at}
use Rattle.rows.proofs.EntryReading.{found-spelled, entry_at-again}
use Rattle.rows.proofs.reading.read_entry.Goals as goal

pub returns-clause-spelled : goal.returns-clause-spelled
returns-clause-spelled c =
    found-spelled c.args.bytes.now c.front_entry.result (λ i. omega (arith, c.type_inv.bytes i)) c.front_entry.ensures

pub returns-clause-only : goal.returns-clause-only
returns-clause-only c = λ entry rest spelled e. c.front_entry.ensures ∙ ap entry_at e ∙ entry_at-again entry rest spelled
