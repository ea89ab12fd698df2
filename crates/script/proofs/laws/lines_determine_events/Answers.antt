use Rattle.script.proofs.ReadLines.{event-once}
use Rattle.script.proofs.laws.lines_determine_events.Goals as goal

pub returns : goal.returns
returns c = event-once
