-- What is heard of a replica's answer.
use Rattle.std.proofs.Common.{◌≡◌, ℕ, true, List, Result, IfErr, refl, sym, subst}
use Rattle.dispatcher.specs.State.{Replica}
use Rattle.dispatcher.specs.declared.outcome.Got.{Got}
use Rattle.dispatcher.specs.declared.outcome.Got.TheVariants as got
use Rattle.dispatcher.specs.Steps.{received, MayTake}
use Rattle.sockets.specs.declared.faults.ServeFault.{ServeFault}
use Rattle.sockets.specs.declared.faults.ServeFault.TheVariants.{Broken}
use Rattle.sockets.specs.declared.replica_node.Heard.{Heard}
use Rattle.sockets.specs.Replicas.{failures}
use Rattle.sockets.specs.Inner.Steps.{heard_as}
use Rattle.sockets.proofs.Damage.{heard_is_broken}

-- no receive has failed
pub heard-no-failure : (answer : Got) → failures (heard_as answer) ≡ 0
heard-no-failure got.Stored = refl
heard-no-failure got.Repeat = refl
heard-no-failure got.Ahead = refl
heard-no-failure (got.Head version) = refl
heard-no-failure got.Ignored = refl
heard-no-failure got.Memory = refl
heard-no-failure got.Broken = refl

broken-by : (r s : Replica) (bytes : List ℕ) (answer : Got) → MayTake r (received r bytes) answer s
    → IfErr (heard_as answer) (λ fault. fault ≡ Broken → s.broken ≡ true)
broken-by r s bytes got.Stored takes = tt
broken-by r s bytes got.Repeat takes = tt
broken-by r s bytes got.Ahead takes = tt
broken-by r s bytes (got.Head version) takes = tt
broken-by r s bytes got.Ignored takes = tt
broken-by r s bytes got.Memory takes = tt
broken-by r s bytes got.Broken takes = λ same. heard_is_broken r s bytes takes

-- a replica is broken if that is heard
pub heard-broken : (r s : Replica) (bytes : List ℕ) (answer : Got) (result : Result Heard ServeFault) → result ≡ heard_as answer
    → MayTake r (received r bytes) answer s → IfErr result (λ fault. fault ≡ Broken → s.broken ≡ true)
heard-broken r s bytes answer result is takes =
    subst (λ (l : Result Heard ServeFault). IfErr l (λ fault. fault ≡ Broken → s.broken ≡ true)) (sym is)
    (broken-by r s bytes answer takes)
