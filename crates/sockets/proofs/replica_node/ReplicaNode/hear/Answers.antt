-- What came is heard.
use Rattle.std.proofs.Common.{arith, refl, sym, ap, ◌∙◌, take}
use Rattle.sockets.specs.Replicas.{failures}
use Rattle.sockets.proofs.Stepping.{does_hear, does_fail, does_wait, does_as}
use Rattle.sockets.proofs.Hearing.{heard-no-failure, heard-broken}
use Rattle.sockets.proofs.replica_node.ReplicaNode.hear.Goals as goal

pub returns-in-Ok-None-clause-does : goal.returns-in-Ok-None-clause-does
returns-in-Ok-None-clause-does g c =
    rw (← c.self.view_is)
    (does_wait _ _ _ _ _ _ (λ h. rw c.in-Ok-None.field-0-is at (c.in-Ok-None.ensures.came h)) c.recv.ensures.sent
    (rw c.in-Ok-None.is at c.recv.ensures.faults) refl)

pub returns-in-Err-clause-does : goal.returns-in-Err-clause-does
returns-in-Err-clause-does g c =
    rw (← c.self.view_is)
    (does_fail _ _ _ _ _ _ (omega (arith, c.faults.ensures)) c.in-Err.ensures.none_came c.recv.ensures.sent
    (rw c.in-Err.is at c.recv.ensures.faults) refl)

pub returns-in-Ok-Some-clause-does : goal.returns-in-Ok-Some-clause-does
returns-in-Ok-Some-clause-does g c =
    rw (← c.self.view_is)
    (does_as _ _ _ _ _ _ _ _ _ _ _ _ 0 0 (sym (ap failures c.outcome_of.ensures ∙ heard-no-failure c.take-got.result)) refl refl
    (omega arith)
    (does_hear _ _ _ _ _ _ (take c.in-Ok-Some.len c.recv.new.buffer) c.take-got.result c.take-got.ensures.takes
    (λ h. rw c.in-Ok-Some.field-0-is at (c.in-Ok-Some.ensures.came h)) c.recv.ensures.sent
    (rw c.in-Ok-Some.is at c.recv.ensures.faults) c.take-got.ensures.counts c.take-got.ensures.expects))

pub returns-in-Ok-Some-clause-broken : goal.returns-in-Ok-Some-clause-broken
returns-in-Ok-Some-clause-broken g c =
    heard-broken _ _ (take c.in-Ok-Some.len c.recv.new.buffer) c.take-got.result c.outcome_of.result c.outcome_of.ensures
    c.take-got.ensures.takes
