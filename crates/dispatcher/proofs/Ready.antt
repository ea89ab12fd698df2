-- Which replicas can answer their batch.
use Rattle.std.proofs.Common.{◌≡◌, ℕ, Bool, true, false, List, Option, Some, None, refl, ap, subst, ◌∙◌}
use Rattle.std.proofs.lemmas.Option.{none-some, same_Some}
use Rattle.std.specs.Option.{option_map}
use Rattle.intake.specs.Steps.{lacking}
use Rattle.queries.specs.declared.plan.Plan.{Plan}
use Rattle.dispatcher.specs.State.{Replica, Batch, Fetched}
use Rattle.dispatcher.specs.Protocol.{Lack, Piece, Frame, Nothing, lack_of, lacking_piece, lack_at, bases_at, fetched_for}
use Rattle.dispatcher.specs.Protocol.{Readiness, Ready, readiness, fetched_in}
use Rattle.dispatcher.specs.Steps.{readiness_of}

-- a replica that can answer its batch: a version was fetched for it, and nothing is missing
pub record CanAnswer (r : Replica) (batch : Batch) (fetched : Fetched) : Type 0 where
  pub whole : r.broken ≡ false
  pub there : r.batch ≡ Some batch
  pub has : batch.fetched ≡ Some fetched
  pub complete : lack_at r.version r.pieces r.arrivals fetched ≡ Nothing

-- neither a piece nor a frame is
lack-parts : (piece frame : Option (ℕ × ℕ)) → lack_of piece frame ≡ Nothing → (piece ≡ None) × (frame ≡ None)
lack-parts (Some piece) frame h = absurd (cc)
lack-parts None (Some frame) h = absurd (cc)
lack-parts None None h = (refl, refl)

-- where neither is, nothing lacks
pub lack-none : (piece frame : Option (ℕ × ℕ)) → option_map (λ (missing : ℕ × ℕ). missing.1) piece ≡ None → frame ≡ None
    → lack_of piece frame ≡ Nothing
lack-none (Some piece) frame h g = absurd (cc)
lack-none None frame h g = ap (lack_of None) g

pub no-piece-lacks : (r : Replica) (batch : Batch) (fetched : Fetched) → CanAnswer r batch fetched
    → lacking_piece r.version r.pieces fetched ≡ None
no-piece-lacks r batch fetched can =
    (lack-parts (lacking_piece r.version r.pieces fetched) (lacking r.arrivals (bases_at r.version fetched) fetched.counts) can.complete).0

pub no-frame-lacks : (r : Replica) (batch : Batch) (fetched : Fetched) → CanAnswer r batch fetched
    → lacking r.arrivals (bases_at r.version fetched) fetched.counts ≡ None
no-frame-lacks r batch fetched can =
    (lack-parts (lacking_piece r.version r.pieces fetched) (lacking r.arrivals (bases_at r.version fetched) fetched.counts) can.complete).1

-- what a run finds where a version was fetched, by what is missing
pub finds : (r : Replica) (batch : Batch) (fetched : Fetched) (lack : Lack) → r.broken ≡ false → r.batch ≡ Some batch
    → batch.fetched ≡ Some fetched → lack_at r.version r.pieces r.arrivals fetched ≡ lack
    → readiness_of r ≡ readiness false (Some (record { plans = batch.plans; fetched = Some fetched })) (λ fetched. lack)
finds r batch fetched lack whole there has lacks =
    ap (λ broken. readiness broken r.batch (lack_at r.version r.pieces r.arrivals)) whole
    ∙ ap (λ batch. readiness false batch (lack_at r.version r.pieces r.arrivals)) there
    ∙ ap (λ found. readiness false (Some (record { plans = batch.plans; fetched = found })) (lack_at r.version r.pieces r.arrivals)) has
    ∙ ap (λ (lack : Lack). readiness false (Some (record { plans = batch.plans; fetched = Some fetched })) (λ fetched. lack)) lacks

-- what is known of what a run finds
abbrev Found : Replica → Readiness → Type 0
Found r (Ready plans fetched) = CanAnswer r (record { plans = plans; fetched = Some fetched }) fetched
Found r other = Unit {0}

found-is : (r : Replica) → Found r (readiness_of r)
found-is r = by_broken r.broken refl
  where
    lack : Fetched → Lack
    lack = lack_at r.version r.pieces r.arrivals

    by_lack : (plans : List Plan) (fetched : Fetched) (lacks : Lack) → r.broken ≡ false
        → r.batch ≡ Some (record { plans = plans; fetched = Some fetched }) → lack fetched ≡ lacks
        → Found r (readiness false (Some (record { plans = plans; fetched = Some fetched })) (λ fetched. lacks))
    by_lack plans fetched (Piece number) whole there lacks = tt
    by_lack plans fetched (Frame worker seq) whole there lacks = tt
    by_lack plans fetched Nothing whole there lacks = record { whole = whole; there = there; has = refl; complete = lacks }

    by_fetched : (plans : List Plan) (found : Option Fetched) → r.broken ≡ false
        → r.batch ≡ Some (record { plans = plans; fetched = found })
        → Found r (readiness false (Some (record { plans = plans; fetched = found })) lack)
    by_fetched plans None whole there = tt
    by_fetched plans (Some fetched) whole there = by_lack plans fetched (lack fetched) whole there refl

    by_batch : (batch : Option Batch) → r.broken ≡ false → r.batch ≡ batch → Found r (readiness false batch lack)
    by_batch None whole there = tt
    by_batch (Some batch) whole there = by_fetched batch.plans batch.fetched whole there

    by_broken : (broken : Bool) → r.broken ≡ broken → Found r (readiness broken r.batch lack)
    by_broken true is = tt
    by_broken false is = by_batch r.batch is refl

pub ready-is : (r : Replica) (plans : List Plan) (fetched : Fetched) → readiness_of r ≡ Ready plans fetched
    → CanAnswer r (record { plans = plans; fetched = Some fetched }) fetched
ready-is r plans fetched is = subst (Found r) is (found-is r)

pub ready-parts : (r : Replica) (fetched : Fetched) → fetched_in (readiness_of r) ≡ Some fetched
    → (batch : Batch) × CanAnswer r batch fetched
ready-parts r fetched e = by (readiness_of r) (found-is r) e
  where
    by : (found : Readiness) → Found r found → fetched_in found ≡ Some fetched → (batch : Batch) × CanAnswer r batch fetched
    by (Ready plans held) is e = (
      record { plans = plans; fetched = Some held },
      record {
        whole = is.whole;
        there = is.there;
        has = e;
        complete = subst (λ (f : Fetched). lack_at r.version r.pieces r.arrivals f ≡ Nothing) (same_Some held fetched e) is.complete;
      },
    )
    by other is e = absurd (none-some fetched e)

-- and it is said to be ready
pub ready-can : (r : Replica) (batch : Batch) (fetched : Fetched) → CanAnswer r batch fetched → fetched_in (readiness_of r) ≡ Some fetched
ready-can r batch fetched can = ap fetched_in (finds r batch fetched Nothing can.whole can.there can.has can.complete)

-- what was fetched for its batch
pub can-fetched : (r : Replica) (batch : Batch) (fetched : Fetched) → CanAnswer r batch fetched → fetched_for r.batch ≡ Some fetched
can-fetched r batch fetched can = ap fetched_for can.there ∙ can.has

pub ready-fetched : (r : Replica) (fetched : Fetched) → fetched_in (readiness_of r) ≡ Some fetched → fetched_for r.batch ≡ Some fetched
ready-fetched r fetched ready = (let parts = ready-parts r fetched ready in can-fetched r parts.0 fetched parts.1)
