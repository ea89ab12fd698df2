-- Each datagram is one deed more.
use Rattle.std.proofs.Common.{refl, arith}
use Rattle.sockets.proofs.Deeding.{does_nothing, does_then}
use Rattle.sockets.proofs.primary_node.PrimaryNode.hear_all.Goals as goal

pub loop-init : goal.loop-init
loop-init g c = does_nothing _ _ _ _ _ _ _ _ refl

pub returns-in-Ok-false-clause-does : goal.returns-in-Ok-false-clause-does
returns-in-Ok-false-clause-does g c =
    does_then _ _ _ _ _ _ _ _ _ _ (λ _. 0) (λ _. 0) (λ _. 0) (λ worker within. omega arith) c.loop.invariant c.in-Ok-false.ensures.does

pub returns-in-Err-clause-does : goal.returns-in-Err-clause-does
returns-in-Err-clause-does g c =
    does_then _ _ _ _ _ _ _ _ _ _ (λ _. 0) (λ _. 0) (λ _. 0) (λ worker within. omega arith) c.loop.invariant c.in-Err.ensures.does

pub loop-preserved : goal.loop-preserved
loop-preserved g c =
    does_then _ _ _ _ _ _ _ _ _ _ (λ _. 0) (λ _. 0) (λ _. 0) (λ worker within. omega arith) c.loop.invariant c.in-Ok-true.ensures.does

pub returns-clause-does : goal.returns-clause-does
returns-clause-does g c = c.loop.invariant
