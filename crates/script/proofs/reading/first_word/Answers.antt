-- The line ends at its first space, or has none.
use Rattle.script.proofs.WordSplitting.{first-word-at, first-word-all}
use Rattle.script.proofs.reading.first_word.Goals as goal

pub returns-in-Some : goal.returns-in-Some
returns-in-Some c = first-word-at c.args.line.now c.in-Some.end c.in-Some.ensures

pub returns-in-None : goal.returns-in-None
returns-in-None c = first-word-all c.args.line.now c.in-None.ensures
