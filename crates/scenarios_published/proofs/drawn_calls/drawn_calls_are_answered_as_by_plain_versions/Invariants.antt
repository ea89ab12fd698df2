-- The line: the history that was just opened, and what is handed in.
use Rattle.scenarios_published.proofs.drawn_calls.drawn_calls_are_answered_as_by_plain_versions.Given as goal

abbrev pub ghosts-other_answered-L-Naming : goal.ghosts-other_answered-L-Naming
ghosts-other_answered-L-Naming g a = record { book = a.opened.seen.book }

abbrev pub ghosts-other_answered-L-Line : goal.ghosts-other_answered-L-Line
ghosts-other_answered-L-Line g a = record { schema = a.schema.now; workers = a.workers }
