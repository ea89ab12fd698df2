-- Each is a law of a crate below.
use Rattle.world.proofs.laws.steps_are_told.Goals as goal

pub returns : goal.returns
returns c = record {
  applied = c.changes_tell_kinds.ensures.applied;
  longer = c.entries_are_defined_one_by_one.ensures.longer;
  presence = c.entries_are_defined_one_by_one.ensures.presence;
  reads = c.one_spelling.ensures.read;
}
