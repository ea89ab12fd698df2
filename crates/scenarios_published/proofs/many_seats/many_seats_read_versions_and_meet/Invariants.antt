-- The line: the history that was just opened, and what is handed in.
use Rattle.scenarios_published.proofs.many_seats.many_seats_read_versions_and_meet.Given as goal

abbrev pub ghosts-last_met-L-Naming : goal.ghosts-last_met-L-Naming
ghosts-last_met-L-Naming g a = record { book = a.opened.seen.book }

abbrev pub ghosts-last_met-L-Line : goal.ghosts-last_met-L-Line
ghosts-last_met-L-Line g a = record { schema = a.schema.now; workers = a.workers }
