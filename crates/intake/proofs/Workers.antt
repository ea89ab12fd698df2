-- The arrivals of all workers: one worker's part of a call, and walks over the workers.
use Rattle.std.proofs.Common.{◌≡◌, ℕ, ◌+◌, ◌<◌, ◌≤◌, Bool, true, false, cond, List, [], ◌∷◌, ◌++◌, length, take, drop, set, get_or}
use Rattle.std.proofs.Common.{Some, None}
use Rattle.std.proofs.Common.{refl, sym, ap, subst, ◌∙◌, inl, inr, arith}
use Rattle.std.specs.Prelude.{nat_lt, ◌⊎◌, slice_index}
use Rattle.std.proofs.lemmas.Bool.{lt-ltb, le-ltb, cond-true, cond-false}
use Rattle.std.proofs.lemmas.List.{set-get_or, get_or_read, drop_more, drop_all, take_more_set, take-append-drop, append_assoc}
use Rattle.std.proofs.lemmas.List.{append-nil, take_all, drop-set-lt}
use Rattle.update_log.specs.declared.frame.Frame.{Frame}
use Rattle.intake.specs.declared.taken.Taken.{Taken}
use Rattle.intake.specs.declared.taken.Taken.TheVariants.{Repeat, Ahead, Memory, Stored}
use Rattle.intake.specs.Known.{is_known, is_ahead}
use Rattle.intake.specs.State.{Arrivals, nothing, arrivals_of}
use Rattle.intake.specs.Steps.{with_frame, taken, missing_at, lacking_from, without_below, dropped, known_below, gained}
use Rattle.intake.specs.Inner.Collecting.{taken_by}

-- ---- a frame comes

-- the same answer, with what has come of the one worker in its place
abbrev placed : List Arrivals → ℕ → Taken × Arrivals → Taken × List Arrivals
placed all worker told = (told.0, set all worker told.1)

-- the two tests decide alike for one worker and for all
decided : (all : List Arrivals) (worker : ℕ) (one more : Arrivals) (repeat ahead : Bool) → set all worker one ≡ all
    → ◌≡◌ {A = Taken × List Arrivals} (cond repeat (Repeat, all) (cond ahead (Ahead, all) (Stored, set all worker more)))
    (placed all worker (cond repeat (Repeat, one) (cond ahead (Ahead, one) (Stored, more))))
decided all worker one more true ahead same = ap (λ (l : List Arrivals). (Repeat, l)) (sym same)
decided all worker one more false true same = ap (λ (l : List Arrivals). (Ahead, l)) (sym same)
decided all worker one more false false same = refl

taken-by : (all : List Arrivals) (bases : List ℕ) (frame : Frame)
    → taken all bases frame ≡ placed all frame.worker (taken_by (arrivals_of all frame.worker) (slice_index bases frame.worker) frame)
taken-by all bases frame =
    let one = arrivals_of all frame.worker in
    decided all frame.worker one (with_frame one frame) (is_known one.known frame.seq)
    (is_ahead one.known (slice_index bases frame.worker) frame.seq)
    (set-get_or all frame.worker nothing)

-- what a worker's part does is what the call does
taken-of : (all : List Arrivals) (bases : List ℕ) (base : ℕ) (frame : Frame) (one new : Arrivals) (answer : Taken)
    → base ≡ slice_index bases frame.worker → one ≡ arrivals_of all frame.worker
    → ((answer ≡ Memory) × (new ≡ one) × ((taken_by one base frame).0 ≡ Stored)) ⊎ (taken_by one base frame ≡ (answer, new))
    → ((answer ≡ Memory) × (set all frame.worker new ≡ all) × ((taken all bases frame).0 ≡ Stored))
    ⊎ (taken all bases frame ≡ (answer, set all frame.worker new))
taken-of all bases base frame one new answer at is (inl memory) =
    inl (
      memory.0,
      ap (λ (x : Arrivals). set all frame.worker x) (memory.1 ∙ is) ∙ set-get_or all frame.worker nothing,
      ap (λ (told : Taken × List Arrivals). told.0) (taken-by all bases frame)
          ∙ ap (λ (n : ℕ). (taken_by (arrivals_of all frame.worker) n frame).0) (sym at)
          ∙ ap (λ (x : Arrivals). (taken_by x base frame).0) (sym is) ∙ memory.2,
    )
taken-of all bases base frame one new answer at is (inr told) =
    inr (taken-by all bases frame
    ∙ ap (placed all frame.worker) (ap (λ (n : ℕ). taken_by (arrivals_of all frame.worker) n frame) (sym at)
    ∙ ap (λ (x : Arrivals). taken_by x base frame) (sym is) ∙ told))

-- where the workers that are held are those that are seen
pub taken-seen : (held all : List Arrivals) (bases : List ℕ) (base : ℕ) (frame : Frame) (one new : Arrivals) (answer : Taken)
    → base ≡ slice_index bases frame.worker → held ≡ all → frame.worker < length all
    → one ≡ get_or held frame.worker one
    → ((answer ≡ Memory) × (new ≡ one) × ((taken_by one base frame).0 ≡ Stored)) ⊎ (taken_by one base frame ≡ (answer, new))
    → ((answer ≡ Memory) × (set held frame.worker new ≡ all) × ((taken all bases frame).0 ≡ Stored))
    ⊎ (taken all bases frame ≡ (answer, set held frame.worker new))
taken-seen held all bases base frame one new answer at same within one_is told =
    let there : frame.worker < length held = omega (arith, within, ap length same) in
    subst (λ (seen : List Arrivals). ((answer ≡ Memory) × (set held frame.worker new ≡ seen) × ((taken seen bases frame).0 ≡ Stored))
    ⊎ (taken seen bases frame ≡ (answer, set held frame.worker new))) same
    (taken-of held bases base frame one new answer at (get_or_read held frame.worker one there one_is nothing) told)

-- ---- walks over the workers

-- what one worker of a walk says
pub lacking-at : (all : List Arrivals) (bases counts : List ℕ) (worker : ℕ) (one : Arrivals) (count : ℕ) → worker < length all
    → worker < length counts
    → one ≡ get_or all worker one → count ≡ get_or counts worker count
    → lacking_from worker (drop worker all) bases (drop worker counts)
    ≡ cond (nat_lt (missing_at bases worker one) count) (Some (worker, missing_at bases worker one))
    (lacking_from (worker + 1) (drop (worker + 1) all) bases (drop (worker + 1) counts))
lacking-at all bases counts worker one count within counted one_is count_is =
    ap (λ (l : List Arrivals). lacking_from worker l bases (drop worker counts))
    (drop_more all worker one within ∙ ap (λ (x : Arrivals). x ∷ drop (worker + 1) all) (sym one_is))
    ∙ ap (λ (l : List ℕ). lacking_from worker (one ∷ drop (worker + 1) all) bases l)
    (drop_more counts worker count counted ∙ ap (λ (n : ℕ). n ∷ drop (worker + 1) counts) (sym count_is))

-- it ends at this worker where that lacks a frame
pub lacking-here : (all : List Arrivals) (bases counts : List ℕ) (worker : ℕ) (one : Arrivals) (count missing : ℕ) → worker < length all
    → worker < length counts → one ≡ get_or all worker one → count ≡ get_or counts worker count → missing ≡ missing_at bases worker one
    → missing < count → lacking_from worker (drop worker all) bases (drop worker counts) ≡ Some (worker, missing)
lacking-here all bases counts worker one count missing within counted one_is count_is missing_is lacks =
    lacking-at all bases counts worker one count within counted one_is count_is
    ∙ cond-true (nat_lt (missing_at bases worker one) count) _ _
    (lt-ltb (missing_at bases worker one) count (omega (arith, missing_is, lacks)))
    ∙ ap (λ (n : ℕ). Some (worker, n)) (sym missing_is)

-- and goes on where it lacks none
pub lacking-next : (all : List Arrivals) (bases counts : List ℕ) (worker : ℕ) (one : Arrivals) (count missing : ℕ) → worker < length all
    → worker < length counts → one ≡ get_or all worker one → count ≡ get_or counts worker count → missing ≡ missing_at bases worker one
    → count ≤ missing → lacking_from worker (drop worker all) bases (drop worker counts)
    ≡ lacking_from (worker + 1) (drop (worker + 1) all) bases (drop (worker + 1) counts)
lacking-next all bases counts worker one count missing within counted one_is count_is missing_is lacks =
    lacking-at all bases counts worker one count within counted one_is count_is
    ∙ cond-false (nat_lt (missing_at bases worker one) count) _ _
    (le-ltb (missing_at bases worker one) count (omega (arith, missing_is, lacks)))

-- past the last worker, and past the last count, none is lacking
pub lacking-past : (all : List Arrivals) (bases counts : List ℕ) (worker from : ℕ) → length all ≤ worker
    → lacking_from from (drop worker all) bases counts ≡ None
lacking-past all bases counts worker from past = ap (λ (l : List Arrivals). lacking_from from l bases counts) (drop_all worker all past)

pub lacking-uncounted : (all : List Arrivals) (bases counts : List ℕ) (worker from : ℕ) → length counts ≤ worker
    → lacking_from from all bases (drop worker counts) ≡ None
lacking-uncounted all bases counts worker from past =
    ap (λ (l : List ℕ). lacking_from from all bases l) (drop_all worker counts past) ∙ none all
  where
    none : (all : List Arrivals) → lacking_from from all bases [] ≡ None
    none [] = refl
    none (one ∷ all) = refl

-- the workers before this one have gained, and the others are still to
abbrev pub gained_from : ℕ → List Arrivals → List ℕ → List Arrivals
gained_from worker all bases = take worker all ++ gained (drop worker all) (drop worker bases)

pub gained-next : (all : List Arrivals) (bases : List ℕ) (worker : ℕ) (one : Arrivals) (base : ℕ) → worker < length all
    → worker < length bases → one ≡ get_or all worker one → base ≡ get_or bases worker base
    → gained_from (worker + 1) (set all worker (known_below one base)) bases ≡ gained_from worker all bases
gained-next all bases worker one base within counted one_is base_is =
    let new = known_below one base in
    let front : take (worker + 1) (set all worker new) ≡ take worker all ++ new ∷ [] = take_more_set all worker new within in
    let back : drop (worker + 1) (set all worker new) ≡ drop (worker + 1) all = drop-set-lt (worker + 1) all worker new (omega arith) in
    let rest : gained (drop worker all) (drop worker bases) ≡ new ∷ gained (drop (worker + 1) all) (drop (worker + 1) bases) =
    ap (λ (l : List Arrivals). gained l (drop worker bases))
    (drop_more all worker one within ∙ ap (λ (x : Arrivals). x ∷ drop (worker + 1) all) (sym one_is))
    ∙ ap (λ (l : List ℕ). gained (one ∷ drop (worker + 1) all) l)
    (drop_more bases worker base counted ∙ ap (λ (n : ℕ). n ∷ drop (worker + 1) bases) (sym base_is)) in
    ap (λ (l : List Arrivals). l ++ gained (drop (worker + 1) (set all worker new)) (drop (worker + 1) bases)) front
    ∙ ap (λ (l : List Arrivals). (take worker all ++ new ∷ []) ++ gained l (drop (worker + 1) bases)) back
    ∙ append_assoc (take worker all) (new ∷ []) (gained (drop (worker + 1) all) (drop (worker + 1) bases))
    ∙ ap (λ (l : List Arrivals). take worker all ++ l) (sym rest)

none-gained : (bases : List ℕ) → gained [] bases ≡ []
none-gained [] = refl
none-gained (base ∷ bases) = refl

-- past the last worker, and past the last base, all have
pub gained-past : (all : List Arrivals) (bases : List ℕ) (worker : ℕ) → length all ≤ worker → gained_from worker all bases ≡ all
gained-past all bases worker past =
    ap (λ (l : List Arrivals). take worker all ++ gained l (drop worker bases)) (drop_all worker all past)
    ∙ ap (λ (l : List Arrivals). take worker all ++ l) (none-gained (drop worker bases))
    ∙ append-nil (take worker all) ∙ take_all worker all past

pub gained-unbased : (all : List Arrivals) (bases : List ℕ) (worker : ℕ) → length bases ≤ worker → gained_from worker all bases ≡ all
gained-unbased all bases worker past =
    ap (λ (l : List ℕ). take worker all ++ gained (drop worker all) l) (drop_all worker bases past) ∙ take-append-drop worker all

-- the workers before this one are done, and the others are still to be
abbrev pub dropped_from : ℕ → List Arrivals → List ℕ → List Arrivals
dropped_from worker all counts = take worker all ++ dropped (drop worker all) (drop worker counts)

pub dropped-next : (all : List Arrivals) (counts : List ℕ) (worker : ℕ) (one : Arrivals) (count : ℕ) → worker < length all
    → worker < length counts → one ≡ get_or all worker one → count ≡ get_or counts worker count
    → dropped_from (worker + 1) (set all worker (without_below one count)) counts ≡ dropped_from worker all counts
dropped-next all counts worker one count within counted one_is count_is =
    let new = without_below one count in
    let front : take (worker + 1) (set all worker new) ≡ take worker all ++ new ∷ [] = take_more_set all worker new within in
    let back : drop (worker + 1) (set all worker new) ≡ drop (worker + 1) all = drop-set-lt (worker + 1) all worker new (omega arith) in
    let rest : dropped (drop worker all) (drop worker counts) ≡ new ∷ dropped (drop (worker + 1) all) (drop (worker + 1) counts) =
    ap (λ (l : List Arrivals). dropped l (drop worker counts))
    (drop_more all worker one within ∙ ap (λ (x : Arrivals). x ∷ drop (worker + 1) all) (sym one_is))
    ∙ ap (λ (l : List ℕ). dropped (one ∷ drop (worker + 1) all) l)
    (drop_more counts worker count counted ∙ ap (λ (n : ℕ). n ∷ drop (worker + 1) counts) (sym count_is)) in
    ap (λ (l : List Arrivals). l ++ dropped (drop (worker + 1) (set all worker new)) (drop (worker + 1) counts)) front
    ∙ ap (λ (l : List Arrivals). (take worker all ++ new ∷ []) ++ dropped l (drop (worker + 1) counts)) back
    ∙ append_assoc (take worker all) (new ∷ []) (dropped (drop (worker + 1) all) (drop (worker + 1) counts))
    ∙ ap (λ (l : List Arrivals). take worker all ++ l) (sym rest)

-- past the last worker, and past the last count, all are done
pub dropped-past : (all : List Arrivals) (counts : List ℕ) (worker : ℕ) → length all ≤ worker → dropped_from worker all counts ≡ all
dropped-past all counts worker past =
    ap (λ (l : List Arrivals). take worker all ++ dropped l (drop worker counts)) (drop_all worker all past)
    ∙ append-nil (take worker all) ∙ take_all worker all past

pub dropped-uncounted : (all : List Arrivals) (counts : List ℕ) (worker : ℕ) → length counts ≤ worker → dropped_from worker all counts ≡ all
dropped-uncounted all counts worker past =
    ap (λ (l : List ℕ). take worker all ++ dropped (drop worker all) l) (drop_all worker counts past)
    ∙ ap (λ (l : List Arrivals). take worker all ++ l) (whole (drop worker all)) ∙ take-append-drop worker all
  where
    whole : (all : List Arrivals) → dropped all [] ≡ all
    whole [] = refl
    whole (one ∷ all) = refl
