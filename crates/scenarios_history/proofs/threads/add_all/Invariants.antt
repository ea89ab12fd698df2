-- So many commits were added.
use Rattle.std.specs.Prelude.{◌≡◌, length}
use Rattle.scenarios_history.proofs.threads.add_all.Given as goal

abbrev pub invariant-loop-number : goal.invariant-loop-number
invariant-loop-number g l = length l.keeper ≡ l.number
