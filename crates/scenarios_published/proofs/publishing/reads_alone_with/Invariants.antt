-- The line: the history that was just opened, and what is handed in.
use Rattle.scenarios_published.proofs.publishing.reads_alone_with.Given as goal

abbrev pub ghosts-reads_alone-L-Naming : goal.ghosts-reads_alone-L-Naming
ghosts-reads_alone-L-Naming g a = record { book = a.opened.seen.book }

abbrev pub ghosts-reads_alone-L-Line : goal.ghosts-reads_alone-L-Line
ghosts-reads_alone-L-Line g a = record { schema = a.schema.now; workers = a.workers }
