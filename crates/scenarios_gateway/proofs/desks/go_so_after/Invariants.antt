-- The line: the name that was just made, and the primary that is handed in.
use Rattle.scenarios_gateway.proofs.desks.go_so_after.Given as goal

abbrev pub ghosts-all_go_so-L-Naming : goal.ghosts-all_go_so-L-Naming
ghosts-all_go_so-L-Naming g a = record { book = a.start.opened.seen.book }

abbrev pub ghosts-all_go_so-L-Line : goal.ghosts-all_go_so-L-Line
ghosts-all_go_so-L-Line g a = record { schema = a.core.primary.schema; workers = a.core.primary.workers }

abbrev pub ghosts-all_go_so-L-Ledger : goal.ghosts-all_go_so-L-Ledger
ghosts-all_go_so-L-Ledger g a = record { name = a.start.blank.name; parts = a.start.blank.parts }

abbrev pub ghosts-all_go_so-L-Origin : goal.ghosts-all_go_so-L-Origin
ghosts-all_go_so-L-Origin g a = record { first = a.core.primary; seats = a.start.seats }
