-- The line: the history that was just opened, and what is handed in.
use Rattle.scenarios_published.proofs.publishing.measured_with.Given as goal

abbrev pub ghosts-measured-L-Naming : goal.ghosts-measured-L-Naming
ghosts-measured-L-Naming g a = record { book = a.opened.seen.book }

abbrev pub ghosts-measured-L-Line : goal.ghosts-measured-L-Line
ghosts-measured-L-Line g a = record { schema = a.schema.now; workers = a.workers }
