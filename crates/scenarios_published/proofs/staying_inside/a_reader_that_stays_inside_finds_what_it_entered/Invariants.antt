-- The line: the history that was just opened, and what is handed in.
use Rattle.scenarios_published.proofs.staying_inside.a_reader_that_stays_inside_finds_what_it_entered.Given as goal

abbrev pub ghosts-found-L-Naming : goal.ghosts-found-L-Naming
ghosts-found-L-Naming g a = record { book = a.opened.seen.book }

abbrev pub ghosts-found-L-Line : goal.ghosts-found-L-Line
ghosts-found-L-Line g a = record { schema = a.schema.now; workers = a.workers }
