-- What one more plan, or one more owner, adds to the plans that a pass owns.
use Rattle.std.proofs.Common.{◌≡◌, ◌≢◌, ◌==◌, ◌+◌, ◌≤◌, if◌then◌else◌, ℕ, zero, suc, Bool, true, false, refl, sym, ap, ◌∙◌, arith}
use Rattle.std.proofs.Common.{List, [], ◌∷◌, ◌++◌, length, drop, append-nil, drop_at, eq-eqb, ne_eqb}
use Rattle.queries.specs.declared.plan.Plan.{Plan}
use Rattle.queue.specs.declared.moves.Moves.{Moves}
use Rattle.queue.specs.declared.moves.Queued.{Queued}
use Rattle.queue.specs.Rule.{Moment, IsMoment, queued, owned, moves_until, after_put, after_take}

abbrev both : List Queued → List Queued → Moves
both put taken = record { put = put; taken = taken }

-- the plan, where it is owned
abbrev one : Bool → ℕ → Plan → List Queued
one is position plan = if is then queued position plan ∷ [] else []

owned-longer : (pass position : ℕ) (owners : List ℕ) (plans : List Plan) (plan : Plan) → length owners ≤ length plans
    → owned pass position owners (plans ++ plan ∷ []) ≡ owned pass position owners plans
owned-longer pass position [] plans plan le = refl
owned-longer pass position (owner ∷ owners) [] plan le = absurd (omega arith)
owned-longer pass position (owner ∷ owners) (first ∷ plans) plan le =
    let rest = owned-longer pass (suc position) owners plans plan (omega arith) in
    ap (λ (l : List Queued). if owner == pass then queued position first ∷ l else l) rest

joined : (is : Bool) (first : Queued) (l m more : List Queued) → l ≡ m ++ more
    → (if is then first ∷ l else l) ≡ (if is then first ∷ m else m) ++ more
joined true first l m more e = ap (λ (k : List Queued). first ∷ k) e
joined false first l m more e = e

owned-more : (pass position : ℕ) (owners : List ℕ) (plans : List Plan) (owner : ℕ) (plan : Plan) (rest : List Plan)
    → drop (length owners) plans ≡ plan ∷ rest
    → owned pass position (owners ++ owner ∷ []) plans
    ≡ owned pass position owners plans ++ one (owner == pass) (position + length owners) plan
owned-more pass position [] [] owner plan rest e = absurd (cc e)
owned-more pass position [] (first ∷ plans) owner plan rest e =
    let same : first ≡ plan = cc e in
    let here : position ≡ position + zero = omega arith in
    λ i. one (owner == pass) (here i) (same i)
owned-more pass position (before ∷ owners) [] owner plan rest e = absurd (cc e)
owned-more pass position (before ∷ owners) (first ∷ plans) owner plan rest e =
    let later = owned pass (suc position) owners plans in
    let r = owned-more pass (suc position) owners plans owner plan rest e in
    let here : suc position + length owners ≡ position + suc (length owners) = omega arith in
    joined (before == pass) (queued position first) (owned pass (suc position) (owners ++ owner ∷ []) plans) later
    (one (owner == pass) (position + suc (length owners)) plan)
    (r ∙ ap (λ (n : ℕ). owned pass (suc position) owners plans ++ one (owner == pass) n plan) here)

-- what a put adds to the moves of any pass
put_by : (other pass : ℕ) (plan : Plan) (m : Moment) → IsMoment m → (is : Bool) → (pass == other) ≡ is
    → moves_until other (after_put pass plan m) ≡ record {
      put = owned other 0 m.putters m.plans ++ one is (length m.plans) plan;
      taken = owned other 0 m.takers m.plans;
    }
put_by other pass plan m sound is e =
    let each : length m.putters ≡ length m.plans = sound.each_put in
    let last : drop (length m.putters) (m.plans ++ plan ∷ []) ≡ plan ∷ [] =
    drop_at m.plans (plan ∷ []) (length m.putters) (sym each) in
    let more = owned-more other 0 m.putters (m.plans ++ plan ∷ []) pass plan [] last in
    let le : length m.putters ≤ length m.plans = omega arith in
    let longer = owned-longer other 0 m.putters m.plans plan le in
    let n : 0 + length m.putters ≡ length m.plans = omega arith in
    let step : owned other 0 m.putters (m.plans ++ plan ∷ []) ++ one (pass == other) (0 + length m.putters) plan
    ≡ owned other 0 m.putters m.plans ++ one is (length m.plans) plan =
    λ i. longer i ++ one (e i) (n i) plan in
    let put = more ∙ step in
    let taken = owned-longer other 0 m.takers m.plans plan sound.first_taken in
    λ i. record { put = put i; taken = taken i }

-- to those of the pass itself, the plan
pub put_own : (pass : ℕ) (plan : Plan) (m : Moment) → IsMoment m
    → moves_until pass (after_put pass plan m) ≡ record {
      put = owned pass 0 m.putters m.plans ++ queued (length m.plans) plan ∷ [];
      taken = owned pass 0 m.takers m.plans;
    }
put_own pass plan m sound = put_by pass pass plan m sound true (eq-eqb pass pass refl)

-- to those of another pass, nothing
pub put_other : (other pass : ℕ) (plan : Plan) (m : Moment) → IsMoment m → other ≢ pass
    → moves_until other (after_put pass plan m) ≡ moves_until other m
put_other other pass plan m sound apart =
    put_by other pass plan m sound false (ne_eqb pass other (λ e. apart (sym e)))
    ∙ ap (λ (put : List Queued). both put (owned other 0 m.takers m.plans)) (append-nil (owned other 0 m.putters m.plans))

-- what taking the first plan adds to the moves of any pass
take_by : (other pass : ℕ) (plan : Plan) (rest : List Plan) (m : Moment) → drop (length m.takers) m.plans ≡ plan ∷ rest
    → (is : Bool) → (pass == other) ≡ is
    → moves_until other (after_take pass m) ≡ record {
      put = owned other 0 m.putters m.plans;
      taken = owned other 0 m.takers m.plans ++ one is (length m.takers) plan;
    }
take_by other pass plan rest m first is e =
    let more = owned-more other 0 m.takers m.plans pass plan rest first in
    let n : 0 + length m.takers ≡ length m.takers = omega arith in
    let step : owned other 0 m.takers m.plans ++ one (pass == other) (0 + length m.takers) plan
    ≡ owned other 0 m.takers m.plans ++ one is (length m.takers) plan =
    λ i. owned other 0 m.takers m.plans ++ one (e i) (n i) plan in
    let taken = more ∙ step in
    λ i. record { put = owned other 0 m.putters m.plans; taken = taken i }

pub take_own : (pass : ℕ) (plan : Plan) (rest : List Plan) (m : Moment) → drop (length m.takers) m.plans ≡ plan ∷ rest
    → moves_until pass (after_take pass m) ≡ record {
      put = owned pass 0 m.putters m.plans;
      taken = owned pass 0 m.takers m.plans ++ queued (length m.takers) plan ∷ [];
    }
take_own pass plan rest m first = take_by pass pass plan rest m first true (eq-eqb pass pass refl)

pub take_other : (other pass : ℕ) (plan : Plan) (rest : List Plan) (m : Moment) → drop (length m.takers) m.plans ≡ plan ∷ rest
    → other ≢ pass → moves_until other (after_take pass m) ≡ moves_until other m
take_other other pass plan rest m first apart =
    take_by other pass plan rest m first false (ne_eqb pass other (λ e. apart (sym e)))
    ∙ ap (λ (taken : List Queued). both (owned other 0 m.putters m.plans) taken) (append-nil (owned other 0 m.takers m.plans))
