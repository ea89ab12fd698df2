-- What a change of the replicas is in the world that the parts make.
use Rattle.std.proofs.Common.{◌≡◌, ℕ, zero, suc, List, [], ◌∷◌, drop, length, replicate, refl, sym, ap, ◌∙◌, arith}
use Rattle.std.specs.List.{slice_get, slice_set, slice_index}
use Rattle.std.specs.Option.{option_map}
use Rattle.dispatcher.specs.State.{Replica}
use Rattle.intake.specs.Steps.{no_arrivals as none_came}
use Rattle.rows.specs.declared.kind.Kind.{Kind}
use Rattle.script.specs.declared.output.Output.{Output}
use Rattle.world.specs.Cores.{Cores, Opening, replicas_from, zeros, cores_started}
use Rattle.world.specs.Inner.CoreSteps.{with_replica}
use Rattle.world.specs.Standing.{member_of, members_of, boots_at, world_of}
use Rattle.world.specs.Steps.{World, Member, known_in, fresh, fresh_from, opening_world, with_member}

-- what a step of the parts is in the world
abbrev pub seen : Output × Cores → Output × World
seen answer = (answer.0, world_of answer.1)

-- the parts with another primary, other transactions and other datagrams: those of a world
abbrev pub beside_of : World → Cores → Cores
beside_of w p = record p { primary = w.primary; stopped = w.stopped; transactions = w.transactions; sent = w.sent }

-- the member of a replica of these parts
abbrev pub member_at : Cores → ℕ → Replica → Member
member_at p i r = member_of (boots_at p.boots i) (slice_index p.asked_at i) r

-- what is noted of a replica is that of the one before it, the first aside
boots-behind : (boots : List (List ℕ)) (i : ℕ) → boots_at (drop 1 boots) i ≡ boots_at boots (suc i)
boots-behind [] i = refl
boots-behind (first ∷ boots) i = refl

asked-behind : (asked_at : List ℕ) (i : ℕ) → slice_index (drop 1 asked_at) i ≡ slice_index asked_at (suc i)
asked-behind [] i = refl
asked-behind (first ∷ asked_at) i = refl

behind : (boots : List (List ℕ)) (asked_at : List ℕ) (i : ℕ)
    → member_of (boots_at (drop 1 boots) i) (slice_index (drop 1 asked_at) i)
    ≡ member_of (boots_at boots (suc i)) (slice_index asked_at (suc i))
behind boots asked_at i =
    ap (λ (had : List ℕ). member_of had (slice_index (drop 1 asked_at) i)) (boots-behind boots i)
    ∙ ap (member_of (boots_at boots (suc i))) (asked-behind asked_at i)

pub members-get : (replicas : List Replica) (boots : List (List ℕ)) (asked_at : List ℕ) (i : ℕ)
    → slice_get (members_of replicas boots asked_at) i
    ≡ option_map (member_of (boots_at boots i) (slice_index asked_at i)) (slice_get replicas i)
members-get [] boots asked_at i = refl
members-get (r ∷ replicas) boots asked_at zero = refl
members-get (r ∷ replicas) boots asked_at (suc i) =
    members-get replicas (drop 1 boots) (drop 1 asked_at) i
    ∙ ap (λ (see : Replica → Member). option_map see (slice_get replicas i)) (behind boots asked_at i)

-- one replica changes
pub members-set : (replicas : List Replica) (boots : List (List ℕ)) (asked_at : List ℕ) (i : ℕ) (r : Replica)
    → members_of (slice_set replicas i r) boots asked_at
    ≡ slice_set (members_of replicas boots asked_at) i (member_of (boots_at boots i) (slice_index asked_at i) r)
members-set [] boots asked_at i r = refl
members-set (first ∷ replicas) boots asked_at zero r = refl
members-set (first ∷ replicas) boots asked_at (suc i) r =
    let front = member_of (boots_at boots 0) (slice_index asked_at 0) first in
    let others = members_of replicas (drop 1 boots) (drop 1 asked_at) in
    ap (λ (l : List Member). front ∷ l)
    (members-set replicas (drop 1 boots) (drop 1 asked_at) i r
    ∙ ap (λ (see : Replica → Member). slice_set others i (see r)) (behind boots asked_at i))

-- one replica changes, and the boots that it had
pub members-booted : (replicas : List Replica) (boots : List (List ℕ)) (asked_at : List ℕ) (i : ℕ) (r : Replica) (had : List ℕ)
    → length boots ≡ length replicas
    → members_of (slice_set replicas i r) (slice_set boots i had) asked_at
    ≡ slice_set (members_of replicas boots asked_at) i (member_of had (slice_index asked_at i) r)
members-booted [] boots asked_at i r had h = refl
members-booted (first ∷ replicas) [] asked_at i r had h = absurd (omega arith)
members-booted (first ∷ replicas) (old ∷ boots) asked_at zero r had h = refl
members-booted (first ∷ replicas) (old ∷ boots) asked_at (suc i) r had h =
    let others = members_of replicas boots (drop 1 asked_at) in
    ap (λ (l : List Member). member_of old (slice_index asked_at 0) first ∷ l)
    (members-booted replicas boots (drop 1 asked_at) i r had (omega arith)
    ∙ ap (λ (at : ℕ). slice_set others i (member_of had at r)) (asked-behind asked_at i))

-- one replica changes, and how many commits were durable when it asked
pub members-asked : (replicas : List Replica) (boots : List (List ℕ)) (asked_at : List ℕ) (i : ℕ) (r : Replica) (at : ℕ)
    → length asked_at ≡ length replicas
    → members_of (slice_set replicas i r) boots (slice_set asked_at i at)
    ≡ slice_set (members_of replicas boots asked_at) i (member_of (boots_at boots i) at r)
members-asked [] boots asked_at i r at h = refl
members-asked (first ∷ replicas) boots [] i r at h = absurd (omega arith)
members-asked (first ∷ replicas) boots (old ∷ asked_at) zero r at h = refl
members-asked (first ∷ replicas) boots (old ∷ asked_at) (suc i) r at h =
    let others = members_of replicas (drop 1 boots) asked_at in
    ap (λ (l : List Member). member_of (boots_at boots 0) old first ∷ l)
    (members-asked replicas (drop 1 boots) asked_at i r at (omega arith)
    ∙ ap (λ (had : List ℕ). slice_set others i (member_of had at r)) (boots-behind boots i))

pub member-changes : (p : Cores) (i : ℕ) (r : Replica) → r.number ≡ i
    → with_member (world_of p) (member_at p i r) ≡ world_of (with_replica p i r)
member-changes p i r h =
    let w = world_of p in
    let made = λ (members : List Member). record w { members = members } in
    ap (λ n. made (slice_set w.members n (member_at p i r))) h
    ∙ ap made (sym (members-set p.replicas p.boots p.asked_at i r))

-- nothing is known where nothing has come
pub known-started : (workers : ℕ) → known_in (none_came workers) ≡ replicate workers []
known-started zero = refl
known-started (suc workers) = ap (λ (l : List (List ℕ)). [] ∷ l) (known-started workers)

members-started : (schema : List (List ℕ × List Kind)) (workers number count : ℕ)
    → members_of (replicas_from schema workers number count) (replicate count (1 ∷ [])) (zeros count) ≡ fresh_from workers number count
members-started schema workers number zero = refl
members-started schema workers number (suc count) =
    let m = fresh workers number in
    ap (λ (x : List (List ℕ) × List Member). record m { known = x.0 } ∷ x.1)
    (cc (known-started workers, members-started schema workers (suc number) count))

pub world-started : (opening : Opening)
    → world_of (cores_started opening) ≡ opening_world opening.setup opening.durable opening.stopped
world-started opening =
    let setup = opening.setup in
    let w = opening_world setup opening.durable opening.stopped in
    ap (λ (members : List Member). record w { members = members }) (members-started setup.schema setup.workers 0 setup.replicas)
