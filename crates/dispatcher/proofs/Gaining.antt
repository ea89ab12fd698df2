-- What is kept once the frames that an image stands for are gained, and those that are applied are dropped.
use Rattle.std.proofs.Common.{◌≡◌, ℕ, ◌≤◌, true, List, length, slice_index, nat_lt, sym, ap, subst, ◌∙◌, inl, inr, arith}
use Rattle.std.specs.Prelude.{IsSome}
use Rattle.std.proofs.lemmas.Bool.{cases_lt, or_cases, ltb-true, false≢true}
use Rattle.std.proofs.lemmas.List.{get_or_past}
use Rattle.intake.specs.Known.{is_known}
use Rattle.intake.specs.Kept.{AreKeptFrom}
use Rattle.intake.specs.Laws.{GainsLeaveWorkers, GainsAreKnown, GainsLeaveKept, DropsStayKept}
use Rattle.intake.specs.State.{Arrivals, nothing, known_of}
use Rattle.intake.specs.Steps.{dropped, gained}

-- nothing is known of a worker that is not there
none-past : (all : List Arrivals) (worker seq : ℕ) → length all ≤ worker → is_known (known_of all worker) seq ≡ true → ⊥
none-past all worker seq past known =
    false≢true (ap (λ (of_worker : Arrivals). is_known of_worker.known seq) (sym (get_or_past all worker nothing past)) ∙ known)

-- what was kept from a first on is kept once frames below that are gained
gained-stay : GainsLeaveWorkers → GainsAreKnown → GainsLeaveKept → (all : List Arrivals) (bases firsts : List ℕ)
    → ((worker : ℕ) → slice_index bases worker ≤ slice_index firsts worker) → AreKeptFrom all firsts
    → AreKeptFrom (gained all bases) firsts
gained-stay leave known_law kept_law all bases firsts within kept worker seq low known =
    subst (λ found. IsSome found) (sym (kept_law all bases worker seq))
    (elim (cases_lt worker (length all)) [
      | inl there ↦
          elim (or_cases (nat_lt seq (slice_index bases worker)) (is_known (known_of all worker) seq)
          (sym (known_law all bases worker seq there) ∙ known)) [
            | inl under ↦ absurd (omega (arith, ltb-true seq (slice_index bases worker) under, within worker, low))
            | inr was ↦ kept worker seq low was
          ]
      | inr past ↦ absurd (none-past (gained all bases) worker seq (omega (arith, past, leave all bases)) known)
    ])

-- and, from the counts on, once those below are dropped
pub gained-kept : GainsLeaveWorkers → GainsAreKnown → GainsLeaveKept → DropsStayKept → (all : List Arrivals)
    (applied bases firsts counts : List ℕ) → ((worker : ℕ) → slice_index bases worker ≤ slice_index firsts worker)
    → ((worker : ℕ) → slice_index applied worker ≤ slice_index firsts worker)
    → ((worker : ℕ) → slice_index firsts worker ≤ slice_index counts worker) → AreKeptFrom all applied
    → AreKeptFrom (dropped (gained all bases) counts) counts
gained-kept leave known_law kept_law drop_law all applied bases firsts counts within on up kept =
    drop_law (gained all bases) firsts counts up
    (gained-stay leave known_law kept_law all bases firsts within
    (λ worker seq low known. kept worker seq (omega (arith, on worker, low)) known))
