-- What a node has done while it served: acts on its state, one after the other, each with the datagrams that it was to send.
use Rattle.std.specs.Prelude.{◌≡◌, ◌≤◌, ◌-◌, ℕ, List, [], ◌∷◌, map, Bool, true, Option, None, Some, Result, Ok, Err, nat_lt}
use Rattle.std.specs.List.{flat_map}
use Rattle.wire.specs.declared.out.Out.{Out}
use Rattle.sockets.specs.Carrying.{Sending, out_of, Carried}

-- an act: a call on the node's core, and what became of each datagram that it was to send
pub record Act (C : Type 0) : Type 0 where
  pub call : C
  pub sendings : List Sending

-- acts lead from the state before them to the state after: each call makes of the state what it may, and just the datagrams that
-- it says were to be sent
abbrev pub DoesAll : {S C : Type 0} → (S → C → S → Type 0) → (C → List Out) → S → List (Act C) → S → Type 0
DoesAll Makes says old [] new = new ≡ old
DoesAll {S} Makes says old (act ∷ acts) new =
    (between : S) × Makes old act.call between × (map out_of act.sendings ≡ says act.call) × DoesAll Makes says between acts new

-- the datagrams that the calls of acts were given
abbrev pub heard_in : {C : Type 0} → (C → List (List ℕ)) → List (Act C) → List (List ℕ)
heard_in hears acts = flat_map (λ act. hears act.call) acts

-- and what became of the datagrams that they were to send
abbrev pub sendings_in : {C : Type 0} → List (Act C) → List Sending
sendings_in acts = flat_map (λ act. act.sendings) acts

-- a call never adds turns; without a limit there is still none
abbrev pub TurnsLeft : Option ℕ → Option ℕ → Type 0
TurnsLeft None None = Unit {0}
TurnsLeft None (Some left) = ⊥
TurnsLeft (Some turns) None = ⊥
TurnsLeft (Some turns) (Some left) = left ≤ turns

-- whether a turn is left
abbrev pub has_turn : Option ℕ → Bool
has_turn None = true
has_turn (Some turns) = nat_lt 0 turns

-- the turns that are left after one more
abbrev pub after_turn : Option ℕ → Option ℕ
after_turn None = None
after_turn (Some turns) = Some (turns - 1)

-- how many turns were used up and did not fail, if they are counted
abbrev pub completed : {A F : Type 0} → Option ℕ → Option ℕ → Result A F → ℕ
completed (Some turns) (Some left) (Ok done) = turns - left
completed (Some turns) (Some left) (Err fault) = turns - left - 1
completed turns left result = 0

-- a node has done these acts, and its port has carried just what they took in and were to send; so many receives have failed
pub record Serves {S C P : Type 0} (Makes : S → C → S → Type 0) (hears : C → List (List ℕ)) (says : C → List Out)
    (is_honest : Bool) (came_at : P → List (List ℕ)) (sent_at : P → List Out) (faults_at : P → ℕ)
    (old_port new_port : P) (old new : S) (acts : List (Act C)) (failures : ℕ) : Type 0 where
  pub done : DoesAll Makes says old acts new
  pub carried : Carried is_honest came_at sent_at faults_at old_port new_port (heard_in hears acts) (sendings_in acts) failures
