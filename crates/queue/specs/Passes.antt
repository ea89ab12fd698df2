-- What contracts see of a queue and of a pass.
use Rattle.std.specs.Prelude.{◌≡◌, ℕ, [], ◌∷◌}
use Rattle.crossbeam_queue.specs.Passes as shared
use Rattle.queue.specs.declared.moves.Moves.{Moves}
use Rattle.queue.specs.declared.pass.Pass.{Pass}
use Rattle.queue.specs.declared.query_queue.QueryQueue.{QueryQueue}
use Rattle.queue.specs.Rule.{first_of}

-- for how many plans the queue has room
abbrev pub capacity_of : QueryQueue → ℕ
capacity_of queue = shared.ruled_capacity queue.ring

-- all that was put and taken with the pass
abbrev pub moves_of : Pass → Moves
moves_of pass = first_of (shared.view pass.seat)

-- the pass is one of this queue, and nothing else is at its seat
abbrev pub IsPassOf : QueryQueue → Pass → Type 0
IsPassOf queue pass = shared.IsPassOf queue.ring pass.seat × (shared.view pass.seat ≡ moves_of pass ∷ [])
