-- The line: the name that was just made, and the primary that is handed in.
use Rattle.scenarios_sockets.proofs.bases.pushes_on_new.Given as goal

abbrev pub ghosts-pushes_so-L-Naming : goal.ghosts-pushes_so-L-Naming
ghosts-pushes_so-L-Naming g a = record { book = a.start.opened.seen.book }

abbrev pub ghosts-pushes_so-L-Line : goal.ghosts-pushes_so-L-Line
ghosts-pushes_so-L-Line g a = record { schema = a.core.primary.schema; workers = a.core.primary.workers }

abbrev pub ghosts-pushes_so-L-Ledger : goal.ghosts-pushes_so-L-Ledger
ghosts-pushes_so-L-Ledger g a = record { name = a.start.blank.name; parts = a.start.blank.parts }

abbrev pub ghosts-pushes_so-L-Origin : goal.ghosts-pushes_so-L-Origin
ghosts-pushes_so-L-Origin g a = record { first = a.core.primary; seats = a.start.seats }
