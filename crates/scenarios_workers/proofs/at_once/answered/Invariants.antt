-- The line: the name that was just made, and the primary that is handed in.
use Rattle.scenarios_workers.proofs.at_once.answered.Given as goal

abbrev pub ghosts-ran-L-Naming : goal.ghosts-ran-L-Naming
ghosts-ran-L-Naming g a = record { book = a.start.opened.seen.book }

abbrev pub ghosts-ran-L-Line : goal.ghosts-ran-L-Line
ghosts-ran-L-Line g a = record { schema = a.core.primary.schema; workers = a.core.primary.workers }

abbrev pub ghosts-ran-L-Ledger : goal.ghosts-ran-L-Ledger
ghosts-ran-L-Ledger g a = record { name = a.start.blank.name; parts = a.start.blank.parts }

abbrev pub ghosts-ran-L-Origin : goal.ghosts-ran-L-Origin
ghosts-ran-L-Origin g a = record { first = a.core.primary; seats = a.start.seats }
