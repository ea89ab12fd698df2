-- The laws, for all tables.
use Rattle.rows.proofs.TableLaws.{entry-kinds, entries-kinds, applied-kinds, commits-kinds, shape-at}
use Rattle.rows.proofs.Widening.{tables-stay, columns-stay, limits-stay, room-keeps}
use Rattle.rows.proofs.laws.changes_tell_kinds.Goals as goal

pub returns-clause-entry : goal.returns-clause-entry
returns-clause-entry c = entry-kinds

pub returns-clause-entries : goal.returns-clause-entries
returns-clause-entries c = entries-kinds

pub returns-clause-applied : goal.returns-clause-applied
returns-clause-applied c = applied-kinds

pub returns-clause-commits : goal.returns-clause-commits
returns-clause-commits c = commits-kinds

pub returns-clause-versions : goal.returns-clause-versions
returns-clause-versions c = shape-at

pub returns-clause-tables : goal.returns-clause-tables
returns-clause-tables c = tables-stay

pub returns-clause-columns : goal.returns-clause-columns
returns-clause-columns c = columns-stay

pub returns-clause-limits : goal.returns-clause-limits
returns-clause-limits c = limits-stay

pub returns-clause-room : goal.returns-clause-room
returns-clause-room c = room-keeps
