-- What a node's port has done between two moments.
use Rattle.std.specs.Prelude.{◌≡◌, ℕ, zero, suc, ◌+◌, List, [], ◌∷◌, ◌++◌, Bool, true, nat_lt, if◌then◌else◌}
use Rattle.std.specs.List.{flat_map, sum_by}
use Rattle.journal.specs.Storing.{faults_max}
use Rattle.wire.specs.declared.out.Out.{Out}

-- what became of a datagram that was to be sent: the port took it, or it was lost
pub data Fate : Type 0 where
  Sent : Fate
  Lost : Fate

-- a datagram that was to be sent, and what became of it
pub record Sending : Type 0 where
  pub out : Out
  pub fate : Fate

-- that datagram
abbrev pub out_of : Sending → Out
out_of sending = sending.out

-- the datagrams that the port took
abbrev pub sent_if : Fate → Out → List Out
sent_if Sent out = out ∷ []
sent_if Lost out = []

abbrev pub sent_of : List Sending → List Out
sent_of sendings = flat_map (λ sending. sent_if sending.fate sending.out) sendings

-- how many were lost
abbrev pub loss_of : Fate → ℕ
loss_of Sent = 0
loss_of Lost = 1

abbrev pub losses_of : List Sending → ℕ
losses_of sendings = sum_by (λ sending. loss_of sending.fate) sendings

-- the count after so many faults more: each is counted as long as 64 bits can
abbrev pub with_fault : ℕ → ℕ
with_fault count = if nat_lt count faults_max then count + 1 else count

abbrev pub counted : ℕ → ℕ → ℕ
counted count zero = count
counted count (suc faults) = counted (with_fault count) faults

-- what an honest port did in between: it delivered these datagrams, sent the ones not lost, in order and once, and counted one
-- fault for each loss and each failed receive
pub record Carried {P : Type 0} (is_honest : Bool) (came_at : P → List (List ℕ)) (sent_at : P → List Out) (faults_at : P → ℕ)
    (old new : P) (heard : List (List ℕ)) (sendings : List Sending) (failures : ℕ) : Type 0 where
  pub takes : is_honest ≡ true → came_at new ≡ came_at old ++ heard
  pub sends : is_honest ≡ true → sent_at new ≡ sent_at old ++ sent_of sendings
  pub counts : faults_at new ≡ counted (faults_at old) (losses_of sendings + failures)
