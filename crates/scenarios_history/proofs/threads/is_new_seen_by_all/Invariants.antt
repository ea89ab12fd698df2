-- The history that was just opened.
use Rattle.scenarios_history.proofs.threads.is_new_seen_by_all.Given as goal

abbrev pub ghosts-is_seen_by_all : goal.ghosts-is_seen_by_all
ghosts-is_seen_by_all g a = record { book = a.opened.seen.book }
