-- The plans that a pass owns rise, and stand in the lists.
use Rattle.std.proofs.Common.{◌≡◌, ◌==◌, ◌≤◌, if◌then◌else◌, ℕ, zero, suc, Bool, true, false, refl, ap, ◌∙◌, arith, eqb-true}
use Rattle.std.proofs.Common.{List, [], ◌∷◌, drop, Some, slice_get}
use Rattle.std.specs.List.{AllByRecursion}
use Rattle.queries.specs.declared.plan.Plan.{Plan}
use Rattle.queue.specs.declared.moves.Queued.{Queued}
use Rattle.queue.specs.Rule.{owned, queued}
use Rattle.queue.specs.Laws.{AreRisingFrom, StandsAt, MovesRise, PutIsListed, TakenOnce}

rising_less : (least : ℕ) (all : List Queued) → AreRisingFrom (suc least) all → AreRisingFrom least all
rising_less least [] r = tt
rising_less least (one ∷ more) r = let le : suc least ≤ one.position = r.0 in (omega arith, r.1)

rising_more : (is : Bool) (position : ℕ) (plan : Plan) (all : List Queued) → AreRisingFrom (suc position) all
    → AreRisingFrom position (if is then queued position plan ∷ all else all)
rising_more true position plan all r = (omega arith, r)
rising_more false position plan all r = rising_less position all r

owned_rise : (pass position : ℕ) (owners : List ℕ) (plans : List Plan) → AreRisingFrom position (owned pass position owners plans)
owned_rise pass position [] plans = tt
owned_rise pass position (owner ∷ owners) [] = tt
owned_rise pass position (owner ∷ owners) (plan ∷ plans) =
    rising_more (owner == pass) position plan (owned pass (suc position) owners plans) (owned_rise pass (suc position) owners plans)

pub moves_rise : MovesRise
moves_rise pass moment = (owned_rise pass 0 moment.putters moment.plans, owned_rise pass 0 moment.takers moment.plans)

at_front : {A : Type 0} (n : ℕ) (all : List A) (one : A) (more : List A) → drop n all ≡ one ∷ more
    → (slice_get all n ≡ Some one) × (drop (suc n) all ≡ more)
at_front zero [] one more e = absurd (cc e)
at_front zero (first ∷ all) one more e = let same : first ≡ one = cc e in (ap Some same, cc e)
at_front (suc n) [] one more e = absurd (cc e)
at_front (suc n) (first ∷ all) one more e = at_front n all one more e

stands_more : (is : Bool) (pass owner position : ℕ) (plan : Plan) (owners : List ℕ) (plans : List Plan) (all : List Queued)
    → (owner == pass) ≡ is → slice_get owners position ≡ Some owner → slice_get plans position ≡ Some plan
    → AllByRecursion (StandsAt pass owners plans) all
    → AllByRecursion (StandsAt pass owners plans) (if is then queued position plan ∷ all else all)
stands_more true pass owner position plan owners plans all is o p rest = ((o ∙ ap Some (eqb-true owner pass is), p), rest)
stands_more false pass owner position plan owners plans all is o p rest = rest

owned_stand : (pass position : ℕ) (owners : List ℕ) (plans : List Plan) (all_owners : List ℕ) (all_plans : List Plan)
    → drop position all_owners ≡ owners → drop position all_plans ≡ plans
    → AllByRecursion (StandsAt pass all_owners all_plans) (owned pass position owners plans)
owned_stand pass position [] plans all_owners all_plans o p = tt
owned_stand pass position (owner ∷ owners) [] all_owners all_plans o p = tt
owned_stand pass position (owner ∷ owners) (plan ∷ plans) all_owners all_plans o p =
    let a = at_front position all_owners owner owners o in
    let b = at_front position all_plans plan plans p in
    stands_more (owner == pass) pass owner position plan all_owners all_plans (owned pass (suc position) owners plans) refl a.0 b.0
    (owned_stand pass (suc position) owners plans all_owners all_plans a.1 b.1)

pub put_listed : PutIsListed
put_listed pass moment = owned_stand pass 0 moment.putters moment.plans moment.putters moment.plans refl refl

pub taken_once : TakenOnce
taken_once pass moment = owned_stand pass 0 moment.takers moment.plans moment.takers moment.plans refl refl
