-- The line: the name that was just made, and the primary that is handed in.
use Rattle.scenarios_shared.proofs.worked_row.is_new_worked.Given as goal

abbrev pub ghosts-is_worked-L-Naming : goal.ghosts-is_worked-L-Naming
ghosts-is_worked-L-Naming g a = record { book = a.start.opened.seen.book }

abbrev pub ghosts-is_worked-L-Line : goal.ghosts-is_worked-L-Line
ghosts-is_worked-L-Line g a = record { schema = a.core.primary.schema; workers = a.core.primary.workers }

abbrev pub ghosts-is_worked-L-Ledger : goal.ghosts-is_worked-L-Ledger
ghosts-is_worked-L-Ledger g a = record { name = a.start.blank.name; parts = a.start.blank.parts }

abbrev pub ghosts-is_worked-L-Origin : goal.ghosts-is_worked-L-Origin
ghosts-is_worked-L-Origin g a = record { first = a.core.primary; seats = a.start.seats }
