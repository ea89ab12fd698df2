-- The text has the lines of the answers so far.
use Rattle.std.proofs.Common.{◌≡◌, take}
use Rattle.requests.specs.AnswerLines.{numbered_lines}
use Rattle.nodes.proofs.answers.tell_all.Given as goal

abbrev pub invariant-loop-index : goal.invariant-loop-index
invariant-loop-index g l = l.text.items ≡ numbered_lines 0 (take l.index l.answers)
