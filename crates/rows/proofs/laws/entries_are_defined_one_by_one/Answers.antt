-- The laws, for all lists of entries.
use Rattle.rows.proofs.TableLaws.{defined_before, defined_behind, still_defined, presence-told}
use Rattle.rows.proofs.laws.entries_are_defined_one_by_one.Goals as goal

pub returns-clause-undefined : goal.returns-clause-undefined
returns-clause-undefined c = defined_before

pub returns-clause-longer : goal.returns-clause-longer
returns-clause-longer c = defined_behind

pub returns-clause-untouched : goal.returns-clause-untouched
returns-clause-untouched c = still_defined

pub returns-clause-presence : goal.returns-clause-presence
returns-clause-presence c = presence-told
