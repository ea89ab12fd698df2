-- A row of packets, packet by packet.
use Rattle.std.proofs.Common.{◌≡◌, refl, ap, sym, ◌∙◌, arith, ℕ, zero, suc, ◌+◌, ◌^◌, ◌<◌, ◌≤◌, ◌++◌, List, [], ◌∷◌, map, take, drop}
use Rattle.std.proofs.Common.{Option, None, Some, Bool, true, false, nat_lt, if◌then◌else◌}
use Rattle.std.specs.List.{slice_get}
use Rattle.std.specs.Option.{option_map}
use Rattle.std.proofs.lemmas.List.{map-append, take_more}
use Rattle.std.proofs.lemmas.Bool.{le-ltb}
use Rattle.std.proofs.lemmas.Option.{none-some, slice_get_within, get_or_from_slice_get, slice_get-map}
use Rattle.update_log.specs.declared.frame.Frame as frames
use Rattle.update_log.specs.Streams.{stream_of}
use Rattle.wire.specs.Spelling.{frame_spelling}
use Rattle.primary.specs.Journaling.{AreNumbered}
use Rattle.primary.specs.Sending.{low_of, pushed}
use Rattle.primary.specs.State.{Primary}
use Rattle.desk.specs.Answers.{packet_at, row_of}
use Rattle.desk.proofs.Readable.{numbered_front}

get-drop : {A : Type 0} (n i : ℕ) (xs : List A) → slice_get (drop n xs) i ≡ slice_get xs (n + i)
get-drop zero i xs = let e : i ≡ 0 + i = omega arith in ap (slice_get xs) e
get-drop (suc n) i [] = refl
get-drop (suc n) i (x ∷ xs) = let e : suc (n + i) ≡ suc n + i = omega arith in get-drop n i xs ∙ ap (slice_get (x ∷ xs)) e

-- one more is taken, if there is one
take-one : {A : Type 0} (i : ℕ) (xs : List A) (x : A) → slice_get xs i ≡ Some x → take (i + 1) xs ≡ take i xs ++ x ∷ []
take-one i xs x is =
    take_more xs i x (slice_get_within xs i x is) ∙ ap (λ y. take i xs ++ y ∷ []) (get_or_from_slice_get xs i x x is)

-- no more is taken, if there is none
take-none : {A : Type 0} (i n : ℕ) (xs : List A) → slice_get xs i ≡ None → i ≤ n → take i xs ≡ take n xs
take-none zero zero xs is le = refl
take-none zero (suc n) [] is le = refl
take-none zero (suc n) (x ∷ xs) is le = absurd (none-some x (sym is))
take-none (suc i) zero xs is le = absurd (omega (arith, le))
take-none (suc i) (suc n) [] is le = refl
take-none (suc i) (suc n) (x ∷ xs) is le = ap (λ ys. x ∷ ys) (take-none i n xs is (omega (arith, le)))

-- a packet that is pushed is that of a frame of the stream
pushed_there : (p : Primary) (worker seq : ℕ) (packet : List ℕ) → pushed p worker seq ≡ Some packet
    → packet_at p.durable worker seq ≡ Some packet
pushed_there p worker seq packet is = by (nat_lt seq (low_of p worker)) is
  where
    by : (dropped : Bool) → (if dropped then None else packet_at p.durable worker seq) ≡ Some packet
        → packet_at p.durable worker seq ≡ Some packet
    by true h = absurd (none-some packet h)
    by false h = h

-- from the first frame on that is kept, all that the stream has is pushed
pushed_kept : (p : Primary) (worker seq : ℕ) → low_of p worker ≤ seq
    → pushed p worker seq ≡ packet_at p.durable worker seq
pushed_kept p worker seq kept =
    ap (λ (dropped : Bool). if dropped then None else packet_at p.durable worker seq) (le-ltb seq (low_of p worker) kept)

-- a packet that is pushed adds to the row
pub row_more : (p : Primary) (worker from i : ℕ) (packet : List ℕ) → pushed p worker (from + i) ≡ Some packet
    → row_of p.durable worker from (i + 1) ≡ row_of p.durable worker from i ++ packet ∷ []
row_more p worker from i packet is =
    by (slice_get (stream_of p.durable worker) (from + i)) refl (pushed_there p worker (from + i) packet is)
  where
    rest : List frames.Frame
    rest = drop from (stream_of p.durable worker)

    by : (found : Option frames.Frame) → slice_get (stream_of p.durable worker) (from + i) ≡ found
        → option_map frame_spelling found ≡ Some packet
        → row_of p.durable worker from (i + 1) ≡ row_of p.durable worker from i ++ packet ∷ []
    by None e h = absurd (none-some packet h)
    by (Some frame) e h =
        let spelled : frame_spelling frame ≡ packet = cc h in
        ap (map frame_spelling) (take-one i rest frame (get-drop from i (stream_of p.durable worker) ∙ e))
        ∙ (map-append frame_spelling (take i rest) (frame ∷ []) ∙ ap (λ last. row_of p.durable worker from i ++ last ∷ []) spelled)

-- where none is pushed the row is whole
pub row_ends : (p : Primary) (worker from i most : ℕ) → low_of p worker ≤ from → pushed p worker (from + i) ≡ None → i ≤ most
    → row_of p.durable worker from i ≡ row_of p.durable worker from most
row_ends p worker from i most kept is le =
    by (slice_get (stream_of p.durable worker) (from + i)) refl (sym (pushed_kept p worker (from + i) (omega (arith, kept))) ∙ is)
  where
    by : (found : Option frames.Frame) → slice_get (stream_of p.durable worker) (from + i) ≡ found
        → option_map frame_spelling found ≡ None → row_of p.durable worker from i ≡ row_of p.durable worker from most
    by None e h =
        ap (map frame_spelling)
        (take-none i most (drop from (stream_of p.durable worker)) (get-drop from i (stream_of p.durable worker) ∙ e) le)
    by (Some frame) e h = absurd (none-some (frame_spelling frame) (sym h))

get-take : {A : Type 0} (i n : ℕ) (xs : List A) → i < n → slice_get (take n xs) i ≡ slice_get xs i
get-take i zero xs lt = absurd (omega (arith, lt))
get-take i (suc n) [] lt = refl
get-take zero (suc n) (x ∷ xs) lt = refl
get-take (suc i) (suc n) (x ∷ xs) lt = get-take i n xs (omega (arith, lt))

-- each packet of a row is that of its seq, and behind the last one there is none
pub row_each : (p : Primary) (worker from most i : ℕ) → i < most
    → slice_get (row_of p.durable worker from most) i ≡ packet_at p.durable worker (from + i)
row_each p worker from most i lt =
    let stream = stream_of p.durable worker in
    slice_get-map frame_spelling (take most (drop from stream)) i
    ∙ ap (option_map frame_spelling) (get-take i most (drop from stream) lt ∙ get-drop from i stream)

-- a packet that is pushed has a seq below the greatest 64-bit number
pub pushed_below : (p : Primary) (worker seq : ℕ) (packet : List ℕ) → pushed p worker seq ≡ Some packet
    → AreNumbered (p.durable ++ p.pending) → seq + 1 < 2 ^ 64
pushed_below p worker seq packet is numbered =
    by (slice_get (stream_of p.durable worker) seq) refl (pushed_there p worker seq packet is)
  where
    by : (found : Option frames.Frame) → slice_get (stream_of p.durable worker) seq ≡ found
        → option_map frame_spelling found ≡ Some packet → seq + 1 < 2 ^ 64
    by None e h = absurd (none-some packet h)
    by (Some frame) e h =
        let below = (numbered_front p.durable p.pending numbered).frames_below worker in
        let within = slice_get_within (stream_of p.durable worker) seq frame e in
        omega (arith, below, within)
