-- The line: the name that was just made, and the primary that is handed in.
use Rattle.scenarios_sockets.proofs.failing_ports.sends_on_new.Given as goal

abbrev pub ghosts-sends_all-L-Naming : goal.ghosts-sends_all-L-Naming
ghosts-sends_all-L-Naming g a = record { book = a.start.opened.seen.book }

abbrev pub ghosts-sends_all-L-Line : goal.ghosts-sends_all-L-Line
ghosts-sends_all-L-Line g a = record { schema = a.core.primary.schema; workers = a.core.primary.workers }

abbrev pub ghosts-sends_all-L-Ledger : goal.ghosts-sends_all-L-Ledger
ghosts-sends_all-L-Ledger g a = record { name = a.start.blank.name; parts = a.start.blank.parts }

abbrev pub ghosts-sends_all-L-Origin : goal.ghosts-sends_all-L-Origin
ghosts-sends_all-L-Origin g a = record { first = a.core.primary; seats = a.start.seats }
