-- The line: the name that was just made, and the primary that is handed in.
use Rattle.scenarios_shared.proofs.while_written.is_let_through.Given as goal

abbrev pub ghosts-is_let_in-L-Naming : goal.ghosts-is_let_in-L-Naming
ghosts-is_let_in-L-Naming g a = record { book = a.start.opened.seen.book }

abbrev pub ghosts-is_let_in-L-Line : goal.ghosts-is_let_in-L-Line
ghosts-is_let_in-L-Line g a = record { schema = a.core.primary.schema; workers = a.core.primary.workers }

abbrev pub ghosts-is_let_in-L-Ledger : goal.ghosts-is_let_in-L-Ledger
ghosts-is_let_in-L-Ledger g a = record { name = a.start.blank.name; parts = a.start.blank.parts }

abbrev pub ghosts-is_let_in-L-Origin : goal.ghosts-is_let_in-L-Origin
ghosts-is_let_in-L-Origin g a = record { first = a.core.primary; seats = a.start.seats }
