-- The pieces that came of an image, one after the other.
use Rattle.std.proofs.Common.{◌≡◌, ℕ, zero, suc, ◌+◌, ◌-◌, ◌<◌, ◌≤◌, ◌==◌, List, [], ◌∷◌, ◌++◌, length, Option, Some, None}
use Rattle.std.proofs.Common.{refl, sym, ap, subst, ◌∙◌, arith}
use Rattle.std.specs.Prelude.{IsSome}
use Rattle.std.specs.Option.{option_to_list}
use Rattle.std.proofs.lemmas.Bool.{false≢true}
use Rattle.std.proofs.lemmas.Bool.Decides.{nat_tests}
use Rattle.std.proofs.lemmas.List.{append_assoc, append-nil, length-append}
use Rattle.rows.specs.declared.commit.Commit.{Commit}
use Rattle.update_log.specs.declared.frame.Frame.{Frame}
use Rattle.intake.specs.Kept.{AreKept, frames_at, frames_between}
use Rattle.intake.specs.Laws.{NoneLackingIsComplete, ReleasesLeaveOthers}
use Rattle.intake.specs.State.{Arrivals, arrivals_of, frame_in, frame_of}
use Rattle.intake.specs.Steps.{lacking, released}
use Rattle.ordering.specs.Merging.{AreMarked}
use Rattle.dispatcher.specs.Inner.Held.{AreKeptPieces, waiting_entries, commits_in}
use Rattle.dispatcher.proofs.Standing.{all-kept}

-- where none is missing, each is kept
pub pieces-there : NoneLackingIsComplete → (all : List Arrivals) (pieces : ℕ) → AreKeptPieces all → lacking all [] (pieces ∷ []) ≡ None
    → AreKept all 0 0 pieces
pieces-there law all pieces are none =
    all-kept law all [] (pieces ∷ []) (sym are.one) none [] [] are.kept (λ worker. omega arith) (λ worker. omega arith) 0

-- ---- from a number on

found-some : (found : Option Frame) → IsSome found → (frame : Frame) × (found ≡ Some frame)
found-some None h = absurd (false≢true h)
found-some (Some frame) h = (frame, refl)

frames-same : (kept other : List (ℕ × Frame)) (first count : ℕ)
    → ((seq : ℕ) → first ≤ seq → frame_in kept seq ≡ frame_in other seq) → frames_at kept first count ≡ frames_at other first count
frames-same kept other first zero same = refl
frames-same kept other first (suc count) same =
    ap (λ (found : Option Frame). option_to_list found ++ frames_at kept (first + 1) count) (same first (omega arith))
    ∙ ap (λ (l : List Frame). option_to_list (frame_in other first) ++ l)
    (frames-same kept other (first + 1) count (λ seq above. same seq (omega arith)))

frames-here : (kept : List (ℕ × Frame)) (first end : ℕ) (piece : Frame) → first < end → frame_in kept first ≡ Some piece
    → frames_at kept first (end - first) ≡ piece ∷ frames_at kept (first + 1) (end - (first + 1))
frames-here kept first end piece below is =
    let count : end - first ≡ suc (end - (first + 1)) = omega arith in
    ap (frames_at kept first) count
    ∙ ap (λ (found : Option Frame). option_to_list found ++ frames_at kept (first + 1) (end - (first + 1))) is

frames-count : (kept : List (ℕ × Frame)) (first count : ℕ)
    → ((seq : ℕ) → first ≤ seq → seq < first + count → IsSome (frame_in kept seq)) → length (frames_at kept first count) ≡ count
frames-count kept first zero there = refl
frames-count kept first (suc count) there =
    let found = found-some (frame_in kept first) (there first (omega arith) (omega arith)) in
    ap (λ (found : Option Frame). length (option_to_list found ++ frames_at kept (first + 1) count)) found.1
    ∙ ap suc (frames-count kept (first + 1) count (λ seq above below. there seq (omega arith) (omega arith)))

-- ---- marked

-- those from a number on, as they are kept
abbrev pub rest_of : List Arrivals → ℕ → ℕ → List Frame
rest_of all first pieces = frames_at (arrivals_of all 0).kept first (pieces - first)

abbrev pub IsMarkedFrom : List Arrivals → ℕ → ℕ → Type 0
IsMarkedFrom all first pieces =
    (AreMarked (rest_of all first pieces) → AreMarked (frames_between all 0 0 pieces))
    × (AreMarked (frames_between all 0 0 pieces) → AreMarked (rest_of all first pieces))

last-is : (first pieces rest : ℕ) → first < pieces → rest ≡ pieces - (first + 1) → ((first + 1) == pieces) ≡ (rest == 0)
last-is first pieces rest below is = grind (arith, nat_tests)

module _ (all : List Arrivals) (first pieces : ℕ) (piece : Frame) (below : first < pieces) (there : AreKept all 0 0 pieces)
    (is : frame_of all 0 first ≡ Some piece) where
  rest-is : rest_of all first pieces ≡ piece ∷ rest_of all (first + 1) pieces
  rest-is = frames-here (arrivals_of all 0).kept first pieces piece below is

  marked-is : ((first + 1) == pieces) ≡ (length (rest_of all (first + 1) pieces) == 0)
  marked-is =
      last-is first pieces (length (rest_of all (first + 1) pieces)) below
      (frames-count (arrivals_of all 0).kept (first + 1) (pieces - (first + 1))
      (λ seq above under. there seq (omega arith) (omega arith)))

  -- one more
  pub marked-more : piece.last ≡ ((first + 1) == pieces) → IsMarkedFrom all first pieces → IsMarkedFrom all (first + 1) pieces
  marked-more own so = (
    λ rest. so.0 (subst (λ (frames : List Frame). AreMarked frames) (sym rest-is) (own ∙ marked-is, rest)),
    λ whole. (subst (λ (frames : List Frame). AreMarked frames) rest-is (so.1 whole)).1,
  )

  -- or one that is not as it should be
  pub not-marked : (piece.last ≡ ((first + 1) == pieces) → ⊥) → IsMarkedFrom all first pieces
      → AreMarked (frames_between all 0 0 pieces) → ⊥
  not-marked apart so whole =
      apart ((subst (λ (frames : List Frame). AreMarked frames) rest-is (so.1 whole)).0 ∙ sym marked-is)

-- at the beginning and at the end
pub marked-begins : (all : List Arrivals) (pieces : ℕ) → IsMarkedFrom all 0 pieces
marked-begins all pieces = (λ rest. rest, λ whole. whole)

pub marked-ends : (all : List Arrivals) (first pieces : ℕ) → pieces ≤ first → IsMarkedFrom all first pieces
    → AreMarked (frames_between all 0 0 pieces)
marked-ends all first pieces past so =
    let none : pieces - first ≡ 0 = omega arith in
    so.0 (subst (λ (count : ℕ). AreMarked (frames_at (arrivals_of all 0).kept first count)) (sym none) tt)

-- ---- moved

-- the pieces before a number are moved, and the others are kept as they were
pub record AreMovedTo (whole all : List Arrivals) (pieces first : ℕ) (commits : List Commit) : Type 0 where
  pub workers : length all ≡ length whole
  pub many : length commits ≡ first
  pub moved : commits ++ commits_in (rest_of all first pieces) ≡ commits_in (frames_between whole 0 0 pieces)
  pub there : (seq : ℕ) → first ≤ seq → seq < pieces → IsSome (frame_of all 0 seq)

pub moved-begins : (all : List Arrivals) (pieces : ℕ) (commits : List Commit) → commits ≡ [] → AreKept all 0 0 pieces
    → AreMovedTo all all pieces 0 commits
moved-begins all pieces commits none there =
    subst (AreMovedTo all all pieces 0) (sym none)
    (record { workers = refl; many = refl; moved = refl; there = λ seq above below. there seq (omega arith) below })

-- one more is moved
pub moved-more : ReleasesLeaveOthers → (whole all new : List Arrivals) (pieces first : ℕ) (commits more : List Commit) (piece : Frame)
    → AreMovedTo whole all pieces first commits → first < pieces → frame_of all 0 first ≡ Some piece → new ≡ released all 0 first
    → length new ≡ length all → more ≡ commits ++ record { worker = 0; entries = waiting_entries piece.entries } ∷ []
    → AreMovedTo whole new pieces (first + 1) more
moved-more law whole all new pieces first commits more piece so below is left workers pushed =
    let others : (seq : ℕ) → first + 1 ≤ seq → frame_of new 0 seq ≡ frame_of all 0 seq =
    λ seq above. ap (λ (all : List Arrivals). frame_of all 0 seq) left ∙ law all 0 first seq (λ e. omega (arith, e, above)) in
    record {
      workers = workers ∙ so.workers;
      many =
          ap length pushed
          ∙ length-append commits (record { worker = 0; entries = waiting_entries piece.entries } ∷ [])
          ∙ ap (λ (n : ℕ). n + 1) so.many;
      moved =
          ap (λ (l : List Commit). l ++ commits_in (rest_of new (first + 1) pieces)) pushed
          ∙ append_assoc commits (record { worker = 0; entries = waiting_entries piece.entries } ∷ [])
          (commits_in (rest_of new (first + 1) pieces))
          ∙ ap (λ (frames : List Frame). commits ++ record { worker = 0; entries = waiting_entries piece.entries } ∷ commits_in frames)
          (frames-same (arrivals_of new 0).kept (arrivals_of all 0).kept (first + 1) (pieces - (first + 1)) others)
          ∙ ap (λ (frames : List Frame). commits ++ commits_in frames)
          (sym (frames-here (arrivals_of all 0).kept first pieces piece below is))
          ∙ so.moved;
      there = λ seq above under. subst (λ (found : Option Frame). IsSome found) (sym (others seq above)) (so.there seq (omega arith) under);
    }

pub moved-ends : (whole all : List Arrivals) (pieces first : ℕ) (commits : List Commit) → AreMovedTo whole all pieces first commits
    → pieces ≤ first → commits ≡ commits_in (frames_between whole 0 0 pieces)
moved-ends whole all pieces first commits so past =
    let none : pieces - first ≡ 0 = omega arith in
    sym (append-nil commits)
    ∙ ap (λ (count : ℕ). commits ++ commits_in (frames_at (arrivals_of all 0).kept first count)) (sym none) ∙ so.moved
