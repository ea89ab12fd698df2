-- What is not written yet is the text that is gathered, and that of the events and outputs that are left.
use Rattle.std.proofs.Common.{◌++◌, drop}
use Rattle.script.specs.EventText.{echoed_text}
use Rattle.script.specs.Writing.{IsWrittenBut}
use Rattle.script.proofs.writing.write_echoed.Given as goal

abbrev pub invariant-loop-index : goal.invariant-loop-index
invariant-loop-index g l =
    IsWrittenBut (g.W.Write.contents l.fn.writer) (g.W.Write.contents l.writer) (echoed_text l.schema l.events l.outputs)
    (l.text.items ++ echoed_text l.schema (drop l.index l.events) (drop l.index l.outputs))
