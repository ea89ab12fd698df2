-- The line: the name that was just made, and the primary that is handed in.
use Rattle.scenarios_workers.proofs.job_seats.takes_on_new.Given as goal

abbrev pub ghosts-takes_on_line-L-Naming : goal.ghosts-takes_on_line-L-Naming
ghosts-takes_on_line-L-Naming g a = record { book = a.start.opened.seen.book }

abbrev pub ghosts-takes_on_line-L-Line : goal.ghosts-takes_on_line-L-Line
ghosts-takes_on_line-L-Line g a = record { schema = a.core.primary.schema; workers = a.core.primary.workers }

abbrev pub ghosts-takes_on_line-L-Ledger : goal.ghosts-takes_on_line-L-Ledger
ghosts-takes_on_line-L-Ledger g a = record { name = a.start.blank.name; parts = a.start.blank.parts }

abbrev pub ghosts-takes_on_line-L-Origin : goal.ghosts-takes_on_line-L-Origin
ghosts-takes_on_line-L-Origin g a = record { first = a.core.primary; seats = a.start.seats }
