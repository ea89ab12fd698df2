-- The line: the name that was just made, and the primary that is handed in.
use Rattle.scenarios_gateway.proofs.node_reports.tells_after.Given as goal

abbrev pub ghosts-tells_so-L-Naming : goal.ghosts-tells_so-L-Naming
ghosts-tells_so-L-Naming g a = record { book = a.start.opened.seen.book }

abbrev pub ghosts-tells_so-L-Line : goal.ghosts-tells_so-L-Line
ghosts-tells_so-L-Line g a = record { schema = a.core.primary.schema; workers = a.core.primary.workers }

abbrev pub ghosts-tells_so-L-Ledger : goal.ghosts-tells_so-L-Ledger
ghosts-tells_so-L-Ledger g a = record { name = a.start.blank.name; parts = a.start.blank.parts }

abbrev pub ghosts-tells_so-L-Origin : goal.ghosts-tells_so-L-Origin
ghosts-tells_so-L-Origin g a = record { first = a.core.primary; seats = a.start.seats }
