-- A text is that of one script alone.
use Rattle.script.proofs.WholeTexts.{script-once}
use Rattle.script.proofs.laws.texts_determine_scripts.Goals as goal

pub returns : goal.returns
returns c = script-once
