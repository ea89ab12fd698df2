-- The line: the name that was just made, and the primary that is handed in.
use Rattle.scenarios_shared.proofs.refused_memory.is_new_served.Given as goal

abbrev pub ghosts-is_served-L-Naming : goal.ghosts-is_served-L-Naming
ghosts-is_served-L-Naming g a = record { book = a.start.opened.seen.book }

abbrev pub ghosts-is_served-L-Line : goal.ghosts-is_served-L-Line
ghosts-is_served-L-Line g a = record { schema = a.core.primary.schema; workers = a.core.primary.workers }

abbrev pub ghosts-is_served-L-Ledger : goal.ghosts-is_served-L-Ledger
ghosts-is_served-L-Ledger g a = record { name = a.start.blank.name; parts = a.start.blank.parts }

abbrev pub ghosts-is_served-L-Origin : goal.ghosts-is_served-L-Origin
ghosts-is_served-L-Origin g a = record { first = a.core.primary; seats = a.start.seats }
