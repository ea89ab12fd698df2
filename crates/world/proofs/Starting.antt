-- The parts at the beginning: what is still to be made.
use Rattle.std.proofs.Common.{◌≡◌, ℕ, zero, suc, ◌+◌, ◌-◌, ◌<◌, List, [], ◌∷◌, length, replicate, refl, ap, arith, add-one}
use Rattle.rows.specs.declared.kind.Kind.{Kind}
use Rattle.dispatcher.specs.Steps.{started_replica}
use Rattle.world.specs.Cores.{Opening, replicas_from, zeros, cores_started}

pub replicas_left : (schema : List (List ℕ × List Kind)) (workers number count : ℕ) → number < count
    → replicas_from schema workers number (count - number) ≡ started_replica schema workers number 1
    ∷ replicas_from schema workers (number + 1) (count - (number + 1))
replicas_left schema workers number count more =
    let left : count - number ≡ suc (count - (number + 1)) = omega arith in
    rw (left, add-one) refl

-- the boots of the replicas that are still to be made
pub firsts_left : (number count : ℕ) → number < count
    → replicate {A = List ℕ} (count - number) (1 ∷ []) ≡ (1 ∷ []) ∷ replicate (count - (number + 1)) (1 ∷ [])
firsts_left number count more =
    let left : count - number ≡ suc (count - (number + 1)) = omega arith in
    rw left refl

pub zeros_left : (number count : ℕ) → number < count → zeros (count - number) ≡ 0 ∷ zeros (count - (number + 1))
zeros_left number count more =
    let left : count - number ≡ suc (count - (number + 1)) = omega arith in
    rw left refl

length-replicas_from : (schema : List (List ℕ × List Kind)) (workers number count : ℕ)
    → length (replicas_from schema workers number count) ≡ count
length-replicas_from schema workers number zero = refl
length-replicas_from schema workers number (suc count) = ap suc (length-replicas_from schema workers (suc number) count)

pub as_many : (opening : Opening) → length (cores_started opening).replicas ≡ opening.setup.replicas
as_many opening = length-replicas_from opening.setup.schema opening.setup.workers 0 opening.setup.replicas
