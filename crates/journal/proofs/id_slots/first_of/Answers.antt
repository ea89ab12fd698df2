-- The sums are those of the definition.
use Rattle.std.proofs.Common.{refl}
use Rattle.journal.specs.Inner.Slots.{bucket_in}
use Rattle.journal.proofs.id_slots.first_of.Goals as goal

pub returns-clause-value : goal.returns-clause-value
unfolding bucket_in
returns-clause-value c = refl
