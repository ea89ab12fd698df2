use Rattle.script.proofs.Values.{value-once}
use Rattle.script.proofs.value_reading.words_determine_values.Goals as goal

pub returns : goal.returns
returns c = value-once
