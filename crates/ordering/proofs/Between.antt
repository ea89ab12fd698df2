-- Kept frames, one behind the other.
use Rattle.std.proofs.Common.{◌≡◌, ℕ, zero, suc, ◌+◌, ◌-◌, ◌<◌, ◌≤◌, List, [], ◌∷◌, ◌++◌, length, Option, None, Some, refl, sym, ap, ◌∙◌}
use Rattle.std.proofs.Common.{IsSome, append_assoc, arith}
use Rattle.std.specs.Option.{option_to_list}
use Rattle.update_log.specs.declared.frame.Frame.{Frame}
use Rattle.intake.specs.State.{Arrivals, arrivals_of, frame_in, frame_of}
use Rattle.intake.specs.Kept.{frames_at, frames_between}

at-split : (kept : List (ℕ × Frame)) (low m n : ℕ) → frames_at kept low (m + n) ≡ frames_at kept low m ++ frames_at kept (low + m) n
at-split kept low zero n =
    let count : 0 + n ≡ n = omega arith in
    let seq : low ≡ low + 0 = omega arith in
    ap (frames_at kept low) count ∙ ap (λ (k : ℕ). frames_at kept k n) seq
at-split kept low (suc m) n =
    let count : suc m + n ≡ suc (m + n) = omega arith in
    let seq : low + 1 + m ≡ low + suc m = omega arith in
    let first : List Frame = option_to_list (frame_in kept low) in
    ap (frames_at kept low) count
    ∙ ap (λ (fs : List Frame). first ++ fs) (at-split kept (low + 1) m n)
    ∙ sym (append_assoc first (frames_at kept (low + 1) m) (frames_at kept (low + 1 + m) n))
    ∙ ap (λ (k : ℕ). (first ++ frames_at kept (low + 1) m) ++ frames_at kept k n) seq

pub between-split : (all : List Arrivals) (worker low mid high : ℕ) → low ≤ mid → mid ≤ high
    → frames_between all worker low high ≡ frames_between all worker low mid ++ frames_between all worker mid high
between-split all worker low mid high from upto =
    let kept : List (ℕ × Frame) = (arrivals_of all worker).kept in
    let count : high - low ≡ (mid - low) + (high - mid) = omega arith in
    let seq : low + (mid - low) ≡ mid = omega arith in
    ap (frames_at kept low) count
    ∙ at-split kept low (mid - low) (high - mid)
    ∙ ap (λ (k : ℕ). frames_at kept low (mid - low) ++ frames_at kept k (high - mid)) seq

pub between-none : (all : List Arrivals) (worker low high : ℕ) → high ≤ low → frames_between all worker low high ≡ []
between-none all worker low high past =
    let count : high - low ≡ 0 = omega arith in
    ap (frames_at (arrivals_of all worker).kept low) count

pub between-first : (all : List Arrivals) (worker low high : ℕ) (frame : Frame) → low < high → frame_of all worker low ≡ Some frame
    → frames_between all worker low high ≡ frame ∷ frames_between all worker (low + 1) high
between-first all worker low high frame some there =
    let kept : List (ℕ × Frame) = (arrivals_of all worker).kept in
    let count : high - low ≡ suc (high - (low + 1)) = omega arith in
    ap (frames_at kept low) count
    ∙ ap (λ (found : Option Frame). option_to_list found ++ frames_at kept (low + 1) (high - (low + 1))) there

pub between-more : (all : List Arrivals) (worker first seq : ℕ) (frame : Frame) → first ≤ seq → frame_of all worker seq ≡ Some frame
    → frames_between all worker first (seq + 1) ≡ frames_between all worker first seq ++ frame ∷ []
between-more all worker first seq frame from there =
    let front = frames_between all worker first seq in
    between-split all worker first seq (seq + 1) from (omega arith)
    ∙ ap (λ (fs : List Frame). front ++ fs)
    (between-first all worker seq (seq + 1) frame (omega arith) there
    ∙ ap (λ (fs : List Frame). frame ∷ fs) (between-none all worker (seq + 1) (seq + 1) (omega arith)))

-- all frames, with the one at a seq
pub between-here : (all : List Arrivals) (worker first seq high : ℕ) (frame : Frame) → first ≤ seq → seq < high
    → frame_of all worker seq ≡ Some frame → frames_between all worker first high
    ≡ frames_between all worker first seq ++ frame ∷ frames_between all worker (seq + 1) high
between-here all worker first seq high frame from upto there =
    between-split all worker first seq high from (omega arith)
    ∙ ap (λ (fs : List Frame). frames_between all worker first seq ++ fs) (between-first all worker seq high frame upto there)

-- where the first is kept there is one
pub between-some : (all : List Arrivals) (worker low high : ℕ) → low < high → IsSome (frame_of all worker low)
    → 0 < length (frames_between all worker low high)
between-some all worker low high some kept = by_case (frame_of all worker low) refl kept
  where
    by_case : (found : Option Frame) → frame_of all worker low ≡ found → IsSome found → 0 < length (frames_between all worker low high)
    by_case None there is = absurd cc
    by_case (Some frame) there is = omega (arith, ap length (between-first all worker low high frame some there))
