-- Streams as they are kept: what is read of one, and what all are once one has changed.
use Rattle.std.proofs.Common.{◌≡◌, ℕ, zero, suc, ◌<◌, ◌≤◌, List, [], ◌∷◌, ◌++◌, length, map, get_or, refl, sym, ap, ◌∙◌, arith}
use Rattle.std.specs.Prelude.{slice_get, slice_set, unwrap_or}
use Rattle.update_log.specs.declared.span.Span.{Span}
use Rattle.update_log.specs.Inner.Kept.{Kept}
use Rattle.update_log.specs.Streams.{stream_at}

abbrev pub spans_in : List Kept → List (List Span)
spans_in all = map (λ (kept : Kept). kept.spans) all

abbrev pub rooms_in : List Kept → List ℕ
rooms_in all = map (λ (kept : Kept). kept.room) all

pub spans-length : (all : List Kept) → length (spans_in all) ≡ length all
spans-length [] = refl
spans-length (kept ∷ all) = ap suc (spans-length all)

-- the stream of a worker that is there, as it is read
pub stream-read : (all : List Kept) (worker : ℕ) (kept : Kept) → worker < length all → kept ≡ get_or all worker kept
    → stream_at (spans_in all) worker ≡ kept.spans
stream-read [] worker kept h e = absurd (omega arith)
stream-read (first ∷ all) zero kept h e = ap (λ (k : Kept). k.spans) (sym e)
stream-read (first ∷ all) (suc worker) kept h e = stream-read all worker kept (omega arith) e

-- and of one that is not
pub stream-past : (all : List Kept) (worker : ℕ) → length all ≤ worker → stream_at (spans_in all) worker ≡ []
stream-past [] worker h = refl
stream-past (first ∷ all) zero h = absurd (omega arith)
stream-past (first ∷ all) (suc worker) h = stream-past all worker (omega arith)

-- streams without frames, and one more
pub stream-more : (all : List Kept) (one : Kept) → one.spans ≡ [] → ((worker : ℕ) → stream_at (spans_in all) worker ≡ [])
    → (worker : ℕ) → stream_at (spans_in (all ++ one ∷ [])) worker ≡ []
stream-more [] one empty none zero = empty
stream-more [] one empty none (suc worker) = refl
stream-more (first ∷ all) one empty none zero = none zero
stream-more (first ∷ all) one empty none (suc worker) = stream-more all one empty (λ other. none (suc other)) worker

-- all streams once one was replaced, and its room
pub spans-set : (all : List Kept) (worker : ℕ) (now : Kept)
    → spans_in (slice_set all worker now) ≡ slice_set (spans_in all) worker now.spans
spans-set [] worker now = refl
spans-set (first ∷ all) zero now = refl
spans-set (first ∷ all) (suc worker) now = ap (λ (rest : List (List Span)). first.spans ∷ rest) (spans-set all worker now)

pub spans-stay : (all : List Kept) (worker : ℕ) (was now : Kept) → was ≡ get_or all worker was → now.spans ≡ was.spans
    → spans_in (slice_set all worker now) ≡ spans_in all
spans-stay [] worker was now is same = refl
spans-stay (first ∷ all) zero was now is same =
    ap (λ (spans : List Span). spans ∷ spans_in all) (same ∙ ap (λ (k : Kept). k.spans) is)
spans-stay (first ∷ all) (suc worker) was now is same =
    ap (λ (rest : List (List Span)). first.spans ∷ rest) (spans-stay all worker was now is same)

pub room-set : (all : List Kept) (worker : ℕ) (now : Kept) → worker < length all
    → unwrap_or (slice_get (rooms_in (slice_set all worker now)) worker) 0 ≡ now.room
room-set [] worker now h = absurd (omega arith)
room-set (first ∷ all) zero now h = refl
room-set (first ∷ all) (suc worker) now h = room-set all worker now (omega arith)
