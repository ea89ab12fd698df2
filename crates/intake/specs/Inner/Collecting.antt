-- What one worker's part of a call does.
use Rattle.std.specs.Prelude.{◌≡◌, ℕ, ◌≤◌, List, [], ◌∷◌, Bool, true, false, nat_lt, if◌then◌else◌}
use Rattle.std.specs.List.{AllByRecursion}
use Rattle.update_log.specs.declared.frame.Frame.{Frame}
use Rattle.intake.specs.declared.taken.Taken.{Taken}
use Rattle.intake.specs.declared.taken.Taken.TheVariants.{Repeat, Ahead, Stored}
use Rattle.intake.specs.Known.{is_known, is_ahead}
use Rattle.intake.specs.State.{Arrivals}
use Rattle.intake.specs.Steps.{with_frame}

-- these seqs and these frames
abbrev pub arrivals_in : List ℕ → List (ℕ × Frame) → Arrivals
arrivals_in known kept = record { known = known; kept = kept }

-- each frame that is kept is known
abbrev pub AreKnown : List ℕ → List (ℕ × Frame) → Type 0
AreKnown known kept = AllByRecursion (λ entry. is_known known entry.0 ≡ true) kept

-- a frame of a worker that comes, with the worker's base: what is answered, and what has come of the worker then
abbrev pub taken_by : Arrivals → ℕ → Frame → Taken × Arrivals
taken_by arrivals base frame =
    if is_known arrivals.known frame.seq then (Repeat, arrivals) else
    if is_ahead arrivals.known base frame.seq then (Ahead, arrivals) else
    (Stored, with_frame arrivals frame)

-- whether the first frame is below that seq
abbrev pub begins_below : List (ℕ × Frame) → ℕ → Bool
begins_below [] count = false
begins_below (entry ∷ kept) count = nat_lt entry.0 count

-- no frame is below that seq
abbrev pub NoneBelow : ℕ → List (ℕ × Frame) → Type 0
NoneBelow count kept = AllByRecursion (λ entry. count ≤ entry.0) kept
