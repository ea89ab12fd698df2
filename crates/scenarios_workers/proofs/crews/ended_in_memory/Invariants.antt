-- The line: the name that was just made, and the primary that is handed in.
use Rattle.scenarios_workers.proofs.crews.ended_in_memory.Given as goal

abbrev pub ghosts-ended-L-Naming : goal.ghosts-ended-L-Naming
ghosts-ended-L-Naming g a = record { book = a.start.opened.seen.book }

abbrev pub ghosts-ended-L-Line : goal.ghosts-ended-L-Line
ghosts-ended-L-Line g a = record { schema = a.core.primary.schema; workers = a.core.primary.workers }

abbrev pub ghosts-ended-L-Ledger : goal.ghosts-ended-L-Ledger
ghosts-ended-L-Ledger g a = record { name = a.start.blank.name; parts = a.start.blank.parts }

abbrev pub ghosts-ended-L-Origin : goal.ghosts-ended-L-Origin
ghosts-ended-L-Origin g a = record { first = a.core.primary; seats = a.start.seats }
