-- The line: the name that was just made, and the primary that is handed in.
use Rattle.scenarios_gateway.proofs.failures.is_true_after.Given as goal

abbrev pub ghosts-is_true_on_line-L-Naming : goal.ghosts-is_true_on_line-L-Naming
ghosts-is_true_on_line-L-Naming g a = record { book = a.start.opened.seen.book }

abbrev pub ghosts-is_true_on_line-L-Line : goal.ghosts-is_true_on_line-L-Line
ghosts-is_true_on_line-L-Line g a = record { schema = a.core.primary.schema; workers = a.core.primary.workers }

abbrev pub ghosts-is_true_on_line-L-Ledger : goal.ghosts-is_true_on_line-L-Ledger
ghosts-is_true_on_line-L-Ledger g a = record { name = a.start.blank.name; parts = a.start.blank.parts }

abbrev pub ghosts-is_true_on_line-L-Origin : goal.ghosts-is_true_on_line-L-Origin
ghosts-is_true_on_line-L-Origin g a = record { first = a.core.primary; seats = a.start.seats }
