-- The frames of the durable list, by seq, and those that a Want is answered.
use Rattle.std.proofs.Common.{◌≡◌, ◌+◌, ◌-◌, ◌<◌, ◌≤◌, ℕ, List, [], ◌∷◌, ◌++◌, length, map, take, drop, get_or, slice_get}
use Rattle.std.proofs.Common.{Option, None, Some, Bool, true, false, cond, max, nat_lt, refl, sym, ap, ◌∙◌, arith, inl, inr, ◌⊎◌}
use Rattle.std.proofs.Common.{Result, Ok, Err}
use Rattle.std.specs.Prelude.{OnErr}
use Rattle.std.specs.Option.{option_map}
use Rattle.std.proofs.Math.ListN.{drop_of_length-le}
use Rattle.std.proofs.lemmas.Bool.{cases_lt, lt-ltb}
use Rattle.std.proofs.lemmas.List.{map_more, take_all, drop-take, drop-drop, get_or-drop, length-drop, length-map, length-take}
use Rattle.std.proofs.lemmas.Option.{slice_get_past, slice_get-get_or, get_or_from_slice_get}
use Rattle.rows.specs.declared.commit.Commit.{Commit}
use Rattle.update_log.specs.declared.frame.Frame.{Frame}
use Rattle.update_log.specs.Limits.{want_frames_max}
use Rattle.update_log.specs.Streams.{stream_of, frame_count}
use Rattle.wire.specs.declared.out.Out.{Out}
use Rattle.wire.specs.Spelling.{frame_spelling}
use Rattle.primary.specs.Sending.{frame_to}
use Rattle.primary.proofs.Behind.{kept-get}
use Rattle.primary.proofs.Streams.{stream-front, front-get}

-- none, whether or not it is kept
pub none-anyway : {X : Type 0} (dropped : Bool) (found : Option X) → None ≡ found → None ≡ cond dropped None found
none-anyway true found e = refl
none-anyway false found e = e

-- none behind the last
pub packet-past : (commits : List Commit) (durable worker seq low : ℕ) → frame_count commits worker durable ≤ seq
    → None ≡ cond (nat_lt seq low) None (option_map frame_spelling (slice_get (stream_of (take durable commits) worker) seq))
packet-past commits durable worker seq low past =
    none-anyway (nat_lt seq low) (option_map frame_spelling (slice_get (stream_of (take durable commits) worker) seq))
    (ap (option_map frame_spelling) (sym (slice_get_past (stream_of (take durable commits) worker) seq past)))

-- one that was found is kept
pub found-kept : (seq low : ℕ) (frame : Frame) (found : Option Frame) → Some frame ≡ cond (nat_lt seq low) None found
    → (low ≤ seq) × (Some frame ≡ found)
found-kept seq low frame found e = elim (cases_lt seq low) [
  | inl below ↦
      let none : Some frame ≡ None = e ∙ ap (λ b. cond b None found) (lt-ltb seq low below) in
      absurd cc
  | inr kept ↦ (kept, e ∙ kept-get seq low found kept)
]

-- below that it is that of all commits
pub frame-there : (commits : List Commit) (durable worker seq : ℕ) (found : Option Frame) → seq < frame_count commits worker durable
    → found ≡ slice_get (stream_of commits worker) seq → found ≡ slice_get (stream_of (take durable commits) worker) seq
frame-there commits durable worker seq found below e =
    e ∙ front-get (stream_of (take durable commits) worker) (stream_of commits worker) seq (stream-front worker durable commits) below

-- so there is one
pub frame-some : (commits : List Commit) (durable worker seq : ℕ) → seq < frame_count commits worker durable
    → None ≡ slice_get (stream_of commits worker) seq → ⊥
frame-some commits durable worker seq below e =
    let stream = stream_of (take durable commits) worker in
    let none = frame-there commits durable worker seq None below e in
    by stream below none
  where
    by : (stream : List Frame) → seq < length stream → None ≡ slice_get stream seq → ⊥
    by [] h e = absurd (omega arith)
    by (frame ∷ frames) h e =
        let some = slice_get-get_or (frame ∷ frames) seq frame h in cc

-- one frame more
pub wanted-more : (stream : List Frame) (replica from seq : ℕ) (frame : Frame) (outs after : List Out) (out : Out) → from ≤ seq
    → seq < length stream
    → Some frame ≡ slice_get stream seq
    → out ≡ frame_to replica frame
    → after ≡ outs ++ out ∷ []
    → outs ≡ map (frame_to replica) (take (seq - from) (drop from stream))
    → after ≡ map (frame_to replica) (take (seq + 1 - from) (drop from stream))
wanted-more stream replica from seq frame outs after out low below found is_out pushed so_far =
    let behind = drop from stream in
    let i = seq - from in
    let within : i < length behind = omega (arith, length-drop from stream) in
    let here : get_or behind i frame ≡ frame =
    get_or-drop from stream i frame ∙ ap (λ n. get_or stream n frame) (omega arith)
    ∙ get_or_from_slice_get stream seq frame frame (sym found) in
    let next : seq + 1 - from ≡ i + 1 = omega arith in
    pushed
    ∙ ap (λ o. outs ++ o ∷ []) (is_out ∙ ap (frame_to replica) (sym here))
    ∙ ap (λ os. os ++ frame_to replica (get_or behind i frame) ∷ []) so_far
    ∙ sym (map_more (frame_to replica) behind i frame within)
    ∙ ap (λ n. map (frame_to replica) (take n behind)) (sym next)

-- the same beginning: as many, or all
pub take-same : {X : Type 0} (xs : List X) (n m : ℕ) → (n ≡ m) ⊎ ((length xs ≤ n) × (length xs ≤ m)) → take n xs ≡ take m xs
take-same xs n m (inl same) = ap (λ k. take k xs) same
take-same xs n m (inr whole) = take_all n xs whole.0 ∙ sym (take_all m xs whole.1)

-- those from a seq on that are kept are those from the first kept one on
pub wanted-start : (stream : List Frame) (from low start : ℕ) → start ≡ max low from
    → drop (low - from) (take want_frames_max (drop from stream)) ≡ take (from + want_frames_max - start) (drop start stream)
wanted-start stream from low start first = elim (cases_lt want_frames_max (low - from)) [
  | inl none ↦
      let few = take want_frames_max (drop from stream) in
      let zero_left : from + want_frames_max - start ≡ 0 = omega (arith, first) in
      drop_of_length-le few (omega (arith, length-take want_frames_max (drop from stream)))
      ∙ ap (λ n. take n (drop start stream)) (sym zero_left)
  | inr some ↦
      let left = want_frames_max - (low - from) in
      let parts : want_frames_max ≡ low - from + left = omega (arith, some) in
      let there : from + (low - from) ≡ start = omega (arith, first) in
      let many : left ≡ from + want_frames_max - start = omega (arith, first, some) in
      ap (λ n. drop (low - from) (take n (drop from stream))) parts
      ∙ drop-take (low - from) left (drop from stream)
      ∙ ap (take left) (drop-drop (low - from) from stream ∙ ap (λ n. drop n stream) there)
      ∙ ap (λ n. take n (drop start stream)) many
]

-- and all of them: 16 from the seq on that is named, or those that there are
pub wanted-all : (stream : List Frame) (replica from low start seq : ℕ) (outs : List Out) → start ≡ max low from
    → ((seq - start ≡ from + want_frames_max - start) ⊎ ((length stream ≤ seq) × (length stream ≤ from + want_frames_max)))
    → outs ≡ map (frame_to replica) (take (seq - start) (drop start stream))
    → outs ≡ map (frame_to replica) (drop (low - from) (take want_frames_max (drop from stream)))
wanted-all stream replica from low start seq outs first whole so_far =
    let behind = drop start stream in
    so_far
    ∙ ap (map (frame_to replica))
    (take-same behind (seq - start) (from + want_frames_max - start) (elim whole [
      | inl same ↦ inl same
      | inr few ↦ inr (omega (arith, length-drop start stream), omega (arith, length-drop start stream))
    ]) ∙ sym (wanted-start stream from low start first))

-- where there is a kept frame from there on, there is one wanted
pub wanted-some : (stream : List Frame) (replica from low start : ℕ) → start ≡ max low from → start < length stream
    → start < from + want_frames_max
    → 0 < length (map (frame_to replica) (drop (low - from) (take want_frames_max (drop from stream))))
wanted-some stream replica from low start first h near =
    let behind = drop start stream in
    let left = from + want_frames_max - start in
    omega (
      arith,
      length-map (drop (low - from) (take want_frames_max (drop from stream))) (frame_to replica),
      ap length (wanted-start stream from low start first),
      length-take left behind,
      length-drop start stream,
    )

-- what holds in any case holds where a call fails
pub on-err : {T E : Type 0} (P : Type 0) (result : Result T E) → P → OnErr result P
on-err P (Ok value) holds = tt
on-err P (Err fault) holds = holds
