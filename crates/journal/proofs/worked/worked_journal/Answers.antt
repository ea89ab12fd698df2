-- The definitions compute.
use Rattle.std.proofs.Common.{refl}
use Rattle.journal.proofs.worked.worked_journal.Goals as goal

pub returns-clause-octets : goal.returns-clause-octets
returns-clause-octets c = refl

pub returns-clause-ints : goal.returns-clause-ints
returns-clause-ints c = refl

pub returns-clause-insert : goal.returns-clause-insert
returns-clause-insert c = refl

pub returns-clause-delete_and_patch : goal.returns-clause-delete_and_patch
returns-clause-delete_and_patch c = refl

pub returns-clause-add_byte : goal.returns-clause-add_byte
returns-clause-add_byte c = refl

pub returns-clause-journal : goal.returns-clause-journal
returns-clause-journal c = refl

pub returns-clause-shortest : goal.returns-clause-shortest
returns-clause-shortest c = refl

pub returns-clause-longest : goal.returns-clause-longest
returns-clause-longest c = refl

pub returns-clause-old : goal.returns-clause-old
returns-clause-old c = refl

pub returns-clause-add_number : goal.returns-clause-add_number
returns-clause-add_number c = refl

pub returns-clause-old_journal : goal.returns-clause-old_journal
returns-clause-old_journal c = refl

pub returns-clause-marked : goal.returns-clause-marked
returns-clause-marked c = refl

pub returns-clause-marked_first : goal.returns-clause-marked_first
returns-clause-marked_first c = refl

pub returns-clause-torn_length : goal.returns-clause-torn_length
returns-clause-torn_length c = refl

pub returns-clause-damaged_length : goal.returns-clause-damaged_length
returns-clause-damaged_length c = refl

pub returns-clause-torn_new : goal.returns-clause-torn_new
returns-clause-torn_new c = refl

pub returns-clause-damaged_new : goal.returns-clause-damaged_new
returns-clause-damaged_new c = refl

pub returns-clause-second_mark : goal.returns-clause-second_mark
returns-clause-second_mark c = refl

pub returns-clause-old_shortest : goal.returns-clause-old_shortest
returns-clause-old_shortest c = refl
