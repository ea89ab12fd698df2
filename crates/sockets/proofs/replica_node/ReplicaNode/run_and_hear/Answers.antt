-- Each run, what is sent then, and each round of receives are steps more.
use Rattle.std.proofs.Common.{refl, sym, arith}
use Rattle.sockets.proofs.Stepping.{does_nothing, does_then, does_up_to, does_as}
use Rattle.sockets.proofs.replica_node.ReplicaNode.run_and_hear.Goals as goal

pub loop-init : goal.loop-init
loop-init g c = does_nothing _ _ _ _ _ _ refl

pub returns-in-Ok-Answered-clause-does : goal.returns-in-Ok-Answered-clause-does
returns-in-Ok-Answered-clause-does g c =
    does_up_to _ _ _ _ _ _ _ _ _ _ _ _ _ _ _ (omega arith) c.loop.invariant
    (rw (c.in-Ok-Answered.is, c.in-Ok-Answered.field-0-is) at c.run.ensures.does)

pub returns-in-Err-clause-does : goal.returns-in-Err-clause-does
returns-in-Err-clause-does g c =
    does_up_to _ _ _ _ _ _ _ _ _ _ _ _ _ 1 0 (omega arith) c.loop.invariant
    (does_as _ _ _ _ _ _ _ _ _ _ _ _ 1 1 (sym c.in-Err.ensures.no_failure) refl refl (omega arith)
    (rw c.in-Err.is at c.run.ensures.does))

pub returns-in-Ok-false-clause-does : goal.returns-in-Ok-false-clause-does
returns-in-Ok-false-clause-does g c =
    does_up_to _ _ _ _ _ _ _ _ _ _ _ _ _ _ _ (omega arith)
    (does_then _ _ _ _ _ _ _ _ _ _ _ _ _ _
    (does_then _ _ _ _ _ _ _ _ _ _ _ _ _ _ c.loop.invariant (rw (c.in-Ok-Lacks.is, c.in-Ok-Lacks.field-0-is) at c.run.ensures.does))
    c.send_again.ensures)
    c.in-Ok-false.ensures.does

pub returns-in-Err-hear_round-clause-does : goal.returns-in-Err-hear_round-clause-does
returns-in-Err-hear_round-clause-does g c =
    does_up_to _ _ _ _ _ _ _ _ _ _ _ _ _ _ _ (omega arith)
    (does_then _ _ _ _ _ _ _ _ _ _ _ _ _ _
    (does_then _ _ _ _ _ _ _ _ _ _ _ _ _ _ c.loop.invariant (rw (c.in-Ok-Lacks.is, c.in-Ok-Lacks.field-0-is) at c.run.ensures.does))
    c.send_again.ensures)
    c.in-Err-hear_round.ensures.does

pub returns-in-Nothing-clause-does : goal.returns-in-Nothing-clause-does
returns-in-Nothing-clause-does g c =
    does_up_to _ _ _ _ _ _ _ _ _ _ _ _ _ _ _ (omega arith)
    (does_then _ _ _ _ _ _ _ _ _ _ _ _ _ _
    (does_then _ _ _ _ _ _ _ _ _ _ _ _ _ _ c.loop.invariant (rw (c.in-Ok-Lacks.is, c.in-Ok-Lacks.field-0-is) at c.run.ensures.does))
    c.send_again.ensures)
    c.in-Ok-true.ensures.does

pub loop-preserved : goal.loop-preserved
loop-preserved g c =
    does_up_to _ _ _ _ _ _ _ _ _ _ _ _ _ _ _ (omega arith)
    (does_then _ _ _ _ _ _ _ _ _ _ _ _ _ _
    (does_then _ _ _ _ _ _ _ _ _ _ _ _ _ _ c.loop.invariant (rw (c.in-Ok-Lacks.is, c.in-Ok-Lacks.field-0-is) at c.run.ensures.does))
    c.send_again.ensures)
    c.in-Ok-true.ensures.does
