-- The history that was just opened.
use Rattle.scenarios_history.proofs.drawn_calls.played_on_new.Given as goal

abbrev pub ghosts-played : goal.ghosts-played
ghosts-played a = record { book = a.opened.seen.book }
