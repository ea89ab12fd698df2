-- The line: the history that was just opened, and what is handed in.
use Rattle.scenarios_published.proofs.refused_memory.a_publication_without_memory_shows_what_it_showed.Given as goal

abbrev pub ghosts-are_shown-L-Naming : goal.ghosts-are_shown-L-Naming
ghosts-are_shown-L-Naming g a = record { book = a.opened.seen.book }

abbrev pub ghosts-are_shown-L-Line : goal.ghosts-are_shown-L-Line
ghosts-are_shown-L-Line g a = record { schema = a.schema.now; workers = a.workers }
