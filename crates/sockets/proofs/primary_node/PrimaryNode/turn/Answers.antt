-- What was pushed, and then heard.
use Rattle.std.proofs.Common.{arith}
use Rattle.sockets.proofs.Deeding.{does_then}
use Rattle.sockets.proofs.primary_node.PrimaryNode.turn.Goals as goal

pub returns-clause-does : goal.returns-clause-does
returns-clause-does g c =
    does_then _ _ _ _ _ _ _ _ _ _ (λ _. 1) (λ _. 0) (λ _. 1) (λ worker within. omega arith)
    c.push_all-patience.ensures c.hear_all.ensures.does
