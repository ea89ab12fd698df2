-- The text has the lines of the answers so far.
use Rattle.std.proofs.Common.{◌≡◌, take}
use Rattle.std.specs.Prelude.{map}
use Rattle.nodes.specs.Lines.{answer_lines, number_of}
use Rattle.nodes.proofs.answers.tell_answers.Given as goal

abbrev pub invariant-loop-index : goal.invariant-loop-index
invariant-loop-index g l = l.text.items ≡ answer_lines (map number_of (take l.index l.places)) (take l.index l.answers)
