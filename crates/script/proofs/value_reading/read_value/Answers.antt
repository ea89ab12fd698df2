-- What is read is written so, and what is written so is read.
use Rattle.script.proofs.Values.{value-exact}
use Rattle.script.proofs.value_reading.read_value.Goals as goal

pub returns : goal.returns
returns c = value-exact c.args.word.now c.value_of.result c.value_of.ensures
