-- The line: the history that was just opened, and what is handed in.
use Rattle.scenarios_published.proofs.kept_sums.each_read_is_of_a_version.Given as goal

abbrev pub ghosts-are_of_versions-L-Naming : goal.ghosts-are_of_versions-L-Naming
ghosts-are_of_versions-L-Naming g a = record { book = a.opened.seen.book }

abbrev pub ghosts-are_of_versions-L-Line : goal.ghosts-are_of_versions-L-Line
ghosts-are_of_versions-L-Line g a = record { schema = a.schema.now; workers = a.workers }
