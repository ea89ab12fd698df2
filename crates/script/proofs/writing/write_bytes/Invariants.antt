-- What is gone from the bytes was written.
use Rattle.script.specs.Writing.{IsWrittenBut}
use Rattle.script.proofs.writing.write_bytes.Given as goal

abbrev pub invariant-loop : goal.invariant-loop
invariant-loop g l = IsWrittenBut (g.W.Write.contents l.fn.writer) (g.W.Write.contents l.writer) l.bytes l.rest
