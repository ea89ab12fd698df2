-- The text has the lines of the answers so far.
use Rattle.std.proofs.Common.{◌≡◌, take}
use Rattle.requests.specs.AnswerLines.{numbered_lines}
use Rattle.requests.proofs.answer_lines.answer_lines_of.Given as goal

abbrev pub invariant-loop-number : goal.invariant-loop-number
invariant-loop-number l = l.text.items ≡ numbered_lines 0 (take l.number l.answers)
