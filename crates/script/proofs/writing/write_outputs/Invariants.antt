-- What is not written yet is the text that is gathered, and what the outputs that are left answer.
use Rattle.std.proofs.Common.{◌++◌, drop}
use Rattle.script.specs.OutputText.{outputs_text}
use Rattle.script.specs.Writing.{IsWrittenBut}
use Rattle.script.proofs.writing.write_outputs.Given as goal

abbrev pub invariant-loop-output : goal.invariant-loop-output
invariant-loop-output g l =
    IsWrittenBut (g.W.Write.contents l.fn.writer) (g.W.Write.contents l.writer) (outputs_text l.outputs)
    (l.text.items ++ outputs_text (drop l.output-index l.outputs))
