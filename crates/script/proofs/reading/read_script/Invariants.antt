-- Each turn takes a line, so fewer bytes are left. The lines so far begin a script, and the others are those of the bytes
-- that are left.
use Rattle.std.proofs.Common.{◌+◌, ◌≡◌, ◌≤◌, length, take, drop}
use Rattle.script.specs.Scripts.{LinesReadAs, lines_of}
use Rattle.script.proofs.reading.read_script.Given as goal

abbrev pub invariant-loop-rest : goal.invariant-loop-rest
invariant-loop-rest l = record {
  bytes : l.line + length l.rest ≤ length l.script;
  lines : l.line ≤ length (lines_of l.script);
  behind : drop l.line (lines_of l.script) ≡ lines_of l.rest;
  before : LinesReadAs (take l.line (lines_of l.script)) l.settings l.events.items;
}

abbrev pub decreases-loop-rest : goal.decreases-loop-rest
decreases-loop-rest l = length l.rest
