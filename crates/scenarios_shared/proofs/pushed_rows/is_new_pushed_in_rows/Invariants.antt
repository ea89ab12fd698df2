-- The line: the name that was just made, and the primary that is handed in.
use Rattle.scenarios_shared.proofs.pushed_rows.is_new_pushed_in_rows.Given as goal

abbrev pub ghosts-is_pushed_in_rows-L-Naming : goal.ghosts-is_pushed_in_rows-L-Naming
ghosts-is_pushed_in_rows-L-Naming g a = record { book = a.start.opened.seen.book }

abbrev pub ghosts-is_pushed_in_rows-L-Line : goal.ghosts-is_pushed_in_rows-L-Line
ghosts-is_pushed_in_rows-L-Line g a = record { schema = a.core.primary.schema; workers = a.core.primary.workers }

abbrev pub ghosts-is_pushed_in_rows-L-Ledger : goal.ghosts-is_pushed_in_rows-L-Ledger
ghosts-is_pushed_in_rows-L-Ledger g a = record { name = a.start.blank.name; parts = a.start.blank.parts }

abbrev pub ghosts-is_pushed_in_rows-L-Origin : goal.ghosts-is_pushed_in_rows-L-Origin
ghosts-is_pushed_in_rows-L-Origin g a = record { first = a.core.primary; seats = a.start.seats }
