-- The line: the name that was just made, and the primary that is handed in.
use Rattle.scenarios_shared.proofs.many_clerks.keep_what_was_settled.Given as goal

abbrev pub ghosts-left-L-Naming : goal.ghosts-left-L-Naming
ghosts-left-L-Naming g a = record { book = a.start.opened.seen.book }

abbrev pub ghosts-left-L-Line : goal.ghosts-left-L-Line
ghosts-left-L-Line g a = record { schema = a.core.primary.schema; workers = a.core.primary.workers }

abbrev pub ghosts-left-L-Ledger : goal.ghosts-left-L-Ledger
ghosts-left-L-Ledger g a = record { name = a.start.blank.name; parts = a.start.blank.parts }

abbrev pub ghosts-left-L-Origin : goal.ghosts-left-L-Origin
ghosts-left-L-Origin g a = record { first = a.core.primary; seats = a.start.seats }
