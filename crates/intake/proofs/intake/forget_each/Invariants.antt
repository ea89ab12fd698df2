-- Of the workers so far nothing has come.
use Rattle.std.proofs.Common.{◌≡◌, length, take}
use Rattle.intake.specs.Steps.{no_arrivals}
use Rattle.intake.proofs.intake.forget_each.Given as goal

abbrev pub invariant-loop-worker : goal.invariant-loop-worker
invariant-loop-worker l = record {
  many : length l.workers ≡ length l.initial.workers;
  forgotten : take l.worker l.workers ≡ no_arrivals l.worker;
}
