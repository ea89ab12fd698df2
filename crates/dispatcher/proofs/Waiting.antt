-- Pieces that wait as datagrams are seen as the pieces that they come to.
use Rattle.std.proofs.Common.{◌≡◌, ℕ, zero, suc, ◌+◌, ◌-◌, ◌==◌, Bool, true, false, cond, List, [], ◌∷◌, ◌++◌, map, length}
use Rattle.std.proofs.Common.{Option, Some, None, nat_lt, inl, inr, refl, sym, ap, subst, ◌∙◌}
use Rattle.std.specs.Prelude.{slice_index, slice_set}
use Rattle.std.specs.Option.{option_map, option_to_list}
use Rattle.std.specs.BTreeMap.{insert_entry, is_at}
use Rattle.std.specs.Ordering.{match_ordering, nat_cmp}
use Rattle.std.specs.declared.cmp.Ordering.{Ordering}
use Rattle.std.specs.declared.cmp.Ordering.TheVariants.{Less, Equal, Greater}
use Rattle.update_log.specs.declared.frame.Frame.{Frame}
use Rattle.intake.specs.declared.taken.Taken.{Taken}
use Rattle.intake.specs.declared.taken.Taken.TheVariants.{Repeat, Ahead, Stored}
use Rattle.intake.specs.Kept.{frames_at, frames_between}
use Rattle.intake.specs.Known.{is_known, is_ahead}
use Rattle.intake.specs.State.{Arrivals, arrivals_of, frame_in}
use Rattle.intake.specs.Steps.{with_frame, taken, missing_at, lacking_from}
use Rattle.ordering.specs.Merging.{AreMarked}
use Rattle.dispatcher.specs.declared.gaps.Gap.{Gap}
use Rattle.dispatcher.specs.Gaps.{gaps_between, gaps_from}
use Rattle.dispatcher.specs.Images.{image_commits}
use Rattle.dispatcher.specs.Inner.Held.{piece_in, kept_in, come_in, pieces_in, commits_in}
use Rattle.dispatcher.proofs.Coming.{Takes}

-- ---- what came of a worker

of-seen : (all : List Arrivals) (worker : ℕ) → arrivals_of (pieces_in all) worker ≡ come_in (arrivals_of all worker)
of-seen [] worker = refl
of-seen (arrivals ∷ all) zero = refl
of-seen (arrivals ∷ all) (suc worker) = of-seen all worker

set-seen : (all : List Arrivals) (worker : ℕ) (arrivals : Arrivals)
    → slice_set (pieces_in all) worker (come_in arrivals) ≡ pieces_in (slice_set all worker arrivals)
set-seen [] worker arrivals = refl
set-seen (other ∷ all) zero arrivals = refl
set-seen (other ∷ all) (suc worker) arrivals = ap (λ (l : List Arrivals). come_in other ∷ l) (set-seen all worker arrivals)

pub many-seen : (all : List Arrivals) → length (pieces_in all) ≡ length all
many-seen [] = refl
many-seen (arrivals ∷ all) = ap suc (many-seen all)

-- ---- what is missing

pub lacking-seen : (worker : ℕ) (all : List Arrivals) (bases counts : List ℕ)
    → lacking_from worker (pieces_in all) bases counts ≡ lacking_from worker all bases counts
lacking-seen worker [] bases counts = refl
lacking-seen worker (arrivals ∷ all) bases [] = refl
lacking-seen worker (arrivals ∷ all) bases (count ∷ counts) =
    ap (cond (nat_lt (missing_at bases worker arrivals) count) (Some (worker, missing_at bases worker arrivals)))
    (lacking-seen (worker + 1) all bases counts)

pub gaps-seen : (stride worker : ℕ) (all : List Arrivals) (bases counts : List ℕ)
    → gaps_from stride worker (pieces_in all) bases counts ≡ gaps_from stride worker all bases counts
gaps-seen stride worker [] bases counts = refl
gaps-seen stride worker (arrivals ∷ all) bases [] = refl
gaps-seen stride worker (arrivals ∷ all) bases (count ∷ counts) =
    ap (λ (l : List Gap). gaps_between stride worker arrivals.known (slice_index bases worker) count ++ l)
    (gaps-seen stride (worker + 1) all bases counts)

-- ---- one that comes

inserted-seen : (kept : List (ℕ × Frame)) (seq : ℕ) (frame : Frame)
    → insert_entry nat_cmp (kept_in kept) seq (piece_in frame) ≡ kept_in (insert_entry nat_cmp kept seq frame)
inserted-seen [] seq frame = refl
inserted-seen (entry ∷ kept) seq frame = by (nat_cmp seq entry.0) (inserted-seen kept seq frame)
  where
    by : (order : Ordering)
        → insert_entry nat_cmp (kept_in kept) seq (piece_in frame) ≡ kept_in (insert_entry nat_cmp kept seq frame)
        → match_ordering order ((seq, piece_in frame) ∷ kept_in (entry ∷ kept)) ((entry.0, piece_in frame) ∷ kept_in kept)
        ((entry.0, piece_in entry.1) ∷ insert_entry nat_cmp (kept_in kept) seq (piece_in frame))
        ≡ kept_in (match_ordering order ((seq, frame) ∷ entry ∷ kept) ((entry.0, frame) ∷ kept)
        (entry ∷ insert_entry nat_cmp kept seq frame))
    by Less so = refl
    by Equal so = refl
    by Greater so = ap (λ (l : List (ℕ × Frame)). (entry.0, piece_in entry.1) ∷ l) so

-- what an intake makes of a frame, by whether it is known or too far ahead; and as it is seen
abbrev makes : Bool → Bool → (all stored : List Arrivals) → Taken × List Arrivals
makes known ahead all stored = cond known (Repeat, all) (cond ahead (Ahead, all) (Stored, stored))

abbrev pub seen_as : Taken × List Arrivals → Taken × List Arrivals
seen_as told = (told.0, pieces_in told.1)

makes-seen : (all stored seen : List Arrivals) (known ahead : Bool) → seen ≡ pieces_in stored
    → makes known ahead (pieces_in all) seen ≡ seen_as (makes known ahead all stored)
makes-seen all stored seen true ahead is = refl
makes-seen all stored seen false true is = refl
makes-seen all stored seen false false is = ap (λ (l : List Arrivals). makes false false all l) is

module _ (all : List Arrivals) (bases : List ℕ) (frame : Frame) where
  abbrev takes-as : Arrivals → Taken × List Arrivals
  takes-as arrivals =
      makes (is_known arrivals.known frame.seq) (is_ahead arrivals.known (slice_index bases frame.worker) frame.seq) (pieces_in all)
      (slice_set (pieces_in all) frame.worker (with_frame arrivals (piece_in frame)))

  stored-seen : slice_set (pieces_in all) frame.worker (with_frame (come_in (arrivals_of all frame.worker)) (piece_in frame))
      ≡ pieces_in (slice_set all frame.worker (with_frame (arrivals_of all frame.worker) frame))
  stored-seen =
      ap (λ (kept : List (ℕ × Frame)). slice_set (pieces_in all) frame.worker
      (record { known = (with_frame (arrivals_of all frame.worker) frame).known; kept = kept }))
      (inserted-seen (arrivals_of all frame.worker).kept frame.seq frame)
      ∙ set-seen all frame.worker (with_frame (arrivals_of all frame.worker) frame)

  -- where it is kept as it waits, it is seen as what it comes to
  pub taken-seen : taken (pieces_in all) bases (piece_in frame) ≡ seen_as (taken all bases frame)
  taken-seen =
      ap takes-as (of-seen all frame.worker)
      ∙ makes-seen all (slice_set all frame.worker (with_frame (arrivals_of all frame.worker) frame))
      (slice_set (pieces_in all) frame.worker (with_frame (come_in (arrivals_of all frame.worker)) (piece_in frame)))
      (is_known (arrivals_of all frame.worker).known frame.seq)
      (is_ahead (arrivals_of all frame.worker).known (slice_index bases frame.worker) frame.seq) stored-seen

pub takes-seen : (all : List Arrivals) (bases : List ℕ) (frame : Frame) (answer : Taken) (new : List Arrivals)
    → Takes all bases frame answer new → Takes (pieces_in all) bases (piece_in frame) answer (pieces_in new)
takes-seen all bases frame answer new (inl memory) =
    inl (
      memory.0,
      ap pieces_in memory.1,
      ap (λ (told : Taken × List Arrivals). told.0) (taken-seen all bases frame) ∙ memory.2,
    )
takes-seen all bases frame answer new (inr took) =
    inr (taken-seen all bases frame ∙ ap seen_as took)

-- ---- those that are kept

frame-seen : (kept : List (ℕ × Frame)) (seq : ℕ) → frame_in (kept_in kept) seq ≡ option_map piece_in (frame_in kept seq)
frame-seen [] seq = refl
frame-seen (entry ∷ kept) seq = by (is_at (nat_cmp seq) entry.0) (frame-seen kept seq)
  where
    by : (here : Bool) → frame_in (kept_in kept) seq ≡ option_map piece_in (frame_in kept seq)
        → cond here (Some (piece_in entry.1)) (frame_in (kept_in kept) seq)
        ≡ option_map piece_in (cond here (Some entry.1) (frame_in kept seq))
    by true so = refl
    by false so = so

frames-at-seen : (kept : List (ℕ × Frame)) (first count : ℕ)
    → frames_at (kept_in kept) first count ≡ map piece_in (frames_at kept first count)
frames-at-seen kept first zero = refl
frames-at-seen kept first (suc count) =
    ap (λ (found : Option Frame). option_to_list found ++ frames_at (kept_in kept) (first + 1) count) (frame-seen kept first)
    ∙ by (frame_in kept first) (frames-at-seen kept (first + 1) count)
  where
    by : (found : Option Frame) → frames_at (kept_in kept) (first + 1) count ≡ map piece_in (frames_at kept (first + 1) count)
        → option_to_list (option_map piece_in found) ++ frames_at (kept_in kept) (first + 1) count
        ≡ map piece_in (option_to_list found ++ frames_at kept (first + 1) count)
    by None so = so
    by (Some frame) so = ap (λ (l : List Frame). piece_in frame ∷ l) so

pub frames-seen : (all : List Arrivals) (worker low high : ℕ)
    → frames_between (pieces_in all) worker low high ≡ map piece_in (frames_between all worker low high)
frames-seen all worker low high =
    ap (λ (arrivals : Arrivals). frames_at arrivals.kept low (high - low)) (of-seen all worker)
    ∙ frames-at-seen (arrivals_of all worker).kept low (high - low)

-- ---- and marked

many-frames : (frames : List Frame) → length (map piece_in frames) ≡ length frames
many-frames [] = refl
many-frames (frame ∷ frames) = ap suc (many-frames frames)

marked-as : (frames : List Frame) → AreMarked frames → AreMarked (map piece_in frames)
marked-as [] marked = tt
marked-as (frame ∷ frames) marked =
    (marked.0 ∙ ap (λ (n : ℕ). n == 0) (sym (many-frames frames)), marked-as frames marked.1)

marked-was : (frames : List Frame) → AreMarked (map piece_in frames) → AreMarked frames
marked-was [] marked = tt
marked-was (frame ∷ frames) marked =
    (marked.0 ∙ ap (λ (n : ℕ). n == 0) (many-frames frames), marked-was frames marked.1)

pub marked-seen : (all : List Arrivals) (pieces : ℕ) → AreMarked (frames_between all 0 0 pieces)
    → AreMarked (frames_between (pieces_in all) 0 0 pieces)
marked-seen all pieces marked =
    subst (λ (frames : List Frame). AreMarked frames) (sym (frames-seen all 0 0 pieces)) (marked-as (frames_between all 0 0 pieces) marked)

pub marked-kept : (all : List Arrivals) (pieces : ℕ) → AreMarked (frames_between (pieces_in all) 0 0 pieces)
    → AreMarked (frames_between all 0 0 pieces)
marked-kept all pieces marked =
    marked-was (frames_between all 0 0 pieces) (subst (λ (frames : List Frame). AreMarked frames) (frames-seen all 0 0 pieces) marked)

-- ---- as commits

pub commits-seen : (all : List Arrivals) (pieces : ℕ)
    → image_commits (frames_between (pieces_in all) 0 0 pieces) ≡ commits_in (frames_between all 0 0 pieces)
commits-seen all pieces = ap image_commits (frames-seen all 0 0 pieces)
