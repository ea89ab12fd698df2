-- As many workers so far, of whom nothing has come.
use Rattle.std.proofs.Common.{◌≡◌, replicate}
use Rattle.intake.specs.State.{nothing}
use Rattle.intake.proofs.intake.Intake.new.Given as goal

abbrev pub invariant-loop : goal.invariant-loop
invariant-loop l = l.collectors.items ≡ replicate l.counter nothing
