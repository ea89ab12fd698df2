-- The line: the name that was just made, and the primary that is handed in.
use Rattle.scenarios_shared.proofs.drawn_calls.other_of_new.Given as goal

abbrev pub ghosts-other_answered-L-Naming : goal.ghosts-other_answered-L-Naming
ghosts-other_answered-L-Naming g a = record { book = a.start.opened.seen.book }

abbrev pub ghosts-other_answered-L-Line : goal.ghosts-other_answered-L-Line
ghosts-other_answered-L-Line g a = record { schema = a.core.primary.schema; workers = a.core.primary.workers }

abbrev pub ghosts-other_answered-L-Ledger : goal.ghosts-other_answered-L-Ledger
ghosts-other_answered-L-Ledger g a = record { name = a.start.blank.name; parts = a.start.blank.parts }

abbrev pub ghosts-other_answered-L-Origin : goal.ghosts-other_answered-L-Origin
ghosts-other_answered-L-Origin g a = record { first = a.core.primary; seats = a.start.seats }
