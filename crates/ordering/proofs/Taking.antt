-- What is left of all workers' frames once some of one worker are taken.
use Rattle.std.proofs.Common.{◌≡◌, ℕ, ◌<◌, ◌≤◌, List, [], ◌++◌, length, slice_set, sym, ap, ◌∙◌, inl, inr, false, arith}
use Rattle.std.specs.Prelude.{slice_index}
use Rattle.std.proofs.lemmas.Bool.{cases_lt}
use Rattle.std.proofs.lemmas.List.{get_or-set_same, get_or-set_other, get_or_past}
use Rattle.intake.specs.State.{Arrivals}
use Rattle.intake.specs.Kept.{frames_between}
use Rattle.ordering.specs.Merging.{frames_in}
use Rattle.ordering.specs.Inner.Progress.{is_first_numbered}
use Rattle.ordering.proofs.Between.{between-none, between-split}
use Rattle.ordering.proofs.Holding.{IsTaken}

pub taken-away : (all : List Arrivals) (at highs : List ℕ) (worker next : ℕ) → worker < length at → slice_index at worker < next
    → next ≤ slice_index highs worker
    → IsTaken (frames_in all at highs) worker (frames_between all worker (slice_index at worker) next)
    (frames_in all (slice_set at worker next) highs)
taken-away all at highs worker next there some upto = record {
  whole =
      let from : slice_index at worker ≤ next = omega arith in
      let now : slice_index (slice_set at worker next) worker ≡ next = get_or-set_same at worker next 0 there in
      between-split all worker (slice_index at worker) next (slice_index highs worker) from upto
      ∙ ap (λ (k : ℕ). frames_between all worker (slice_index at worker) next ++ frames_between all worker k (slice_index highs worker))
      (sym now);
  others = λ other differ.
      let same : slice_index (slice_set at worker next) other ≡ slice_index at other = get_or-set_other at worker other next 0 differ in
      ap (λ (k : ℕ). frames_between all other k (slice_index highs other)) same;
}

-- a worker that is not there has no frames
beyond : (all : List Arrivals) (at highs : List ℕ) (worker : ℕ) → length at ≡ length highs → length at ≤ worker
    → frames_in all at highs worker ≡ []
beyond all at highs worker same past =
    let past_highs : length highs ≤ worker = omega arith in
    let low : slice_index at worker ≡ 0 = get_or_past at worker 0 past in
    let high : slice_index highs worker ≡ 0 = get_or_past highs worker 0 past_highs in
    between-none all worker (slice_index at worker) (slice_index highs worker) (omega arith)

-- so where no worker that is there begins with a number, none does
pub none-begins : (number : ℕ) (all : List Arrivals) (at highs : List ℕ) → length at ≡ length highs
    → ((worker : ℕ) → worker < length at → is_first_numbered number (frames_in all at highs worker) ≡ false)
    → (worker : ℕ) → is_first_numbered number (frames_in all at highs worker) ≡ false
none-begins number all at highs same none worker = elim (cases_lt worker (length at)) [
  | inl there ↦ none worker there
  | inr past ↦ ap (is_first_numbered number) (beyond all at highs worker same past)
]
