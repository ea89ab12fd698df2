-- The text falls at its first end of a line, or is one line.
use Rattle.script.proofs.Splitting.{first-line-at, last-line-at}
use Rattle.script.proofs.reading.first_line.Goals as goal

pub returns-in-Some-clause-parts : goal.returns-in-Some-clause-parts
returns-in-Some-clause-parts c = first-line-at c.args.bytes.now c.in-Some.end c.in-Some.ensures

pub returns-in-None-clause-parts : goal.returns-in-None-clause-parts
returns-in-None-clause-parts c = last-line-at c.args.bytes.now c.requires c.in-None.ensures
