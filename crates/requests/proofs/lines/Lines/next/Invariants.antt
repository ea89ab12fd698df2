-- What is left of a long line is skipped, and nothing else is taken.
use Rattle.requests.specs.Lines.{Skips, EndsOnlyAtEnd, input_left, is_cut, has_ended}
use Rattle.requests.proofs.lines.Lines.next.Given as goal

abbrev pub invariant-loop : goal.invariant-loop
invariant-loop g l =
    Skips (is_cut l.fn.self) (input_left l.fn.self (g.R.Read.remaining l.fn.reader)) (is_cut l.self)
    (input_left l.self (g.R.Read.remaining l.reader))
    × EndsOnlyAtEnd (has_ended l.fn.self) (has_ended l.self) (g.R.Read.remaining l.reader)
