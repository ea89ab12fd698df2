-- Pieces joined end to end, as a loop adds them up and as it writes them into a buffer.
use Rattle.std.proofs.Common.{◌≡◌, ℕ, ◌+◌, ◌-◌, ◌<◌, ◌≤◌, List, [], ◌∷◌, ◌++◌, length, get_or, take, drop, sym, ap, ◌∙◌, append_assoc}
use Rattle.std.proofs.Common.{length-append, arith}
use Rattle.std.specs.List.{flat_map}
use Rattle.std.proofs.lemmas.List.{append-nil, take_more, take-append-drop, take_at, drop_at, drop_all, drop-drop, take_rest, length-drop}
use Rattle.std.proofs.lemmas.List.Concat.{flat_map-append}
use borrow.Rule.Slice.PartMut.{put_mid}

pub joined_more : {X : Type 0} (f : X → List ℕ) (xs : List X) (i : ℕ) (x : X) → i < length xs → x ≡ get_or xs i x
    → flat_map f (take (i + 1) xs) ≡ flat_map f (take i xs) ++ f x
joined_more f xs i x lt is =
    ap (flat_map f) (take_more xs i x lt) ∙ flat_map-append f (take i xs) (get_or xs i x ∷ [])
    ∙ ap (λ (t : List ℕ). flat_map f (take i xs) ++ t) (append-nil (f (get_or xs i x)) ∙ ap f (sym is))

pub joined_within : {X : Type 0} (f : X → List ℕ) (xs : List X) (i : ℕ) → length (flat_map f (take i xs)) ≤ length (flat_map f xs)
joined_within f xs i =
    let whole : flat_map f xs ≡ flat_map f (take i xs) ++ flat_map f (drop i xs) =
    ap (flat_map f) (sym (take-append-drop i xs)) ∙ flat_map-append f (take i xs) (drop i xs) in
    rw whole (omega (arith, length-append (flat_map f (take i xs)) (flat_map f (drop i xs))))

-- there is room for the next piece
pub joined_room : {X : Type 0} (f : X → List ℕ) (xs : List X) (i : ℕ) (x : X) → i < length xs → x ≡ get_or xs i x
    → length (flat_map f (take i xs)) + length (f x) ≤ length (flat_map f xs)
joined_room f xs i x lt is =
    let more = ap length (joined_more f xs i x lt is) in
    omega (arith, more, joined_within f xs (i + 1), length-append (flat_map f (take i xs)) (f x))

-- a piece written behind those before it
pub written_more : (front piece old buffer new : List ℕ) (at len : ℕ) → at ≡ length front → at ≤ length old → buffer ≡ front ++ drop at old
    → new ≡ piece ++ drop len (take (length buffer - at) (drop at buffer))
    → put_mid at (length buffer - at) buffer new ≡ (front ++ piece) ++ drop (at + len) old
written_more front piece old buffer new at len is_at within so_far wrote =
    let before : take at buffer ≡ front = ap (take at) so_far ∙ take_at front (drop at old) at (sym is_at) in
    let behind : drop at buffer ≡ drop at old = ap (drop at) so_far ∙ drop_at front (drop at old) at (sym is_at) in
    let none : drop (length buffer - at) (drop at buffer) ≡ [] =
    drop_all (length buffer - at) (drop at buffer) (omega (arith, length-drop at buffer)) in
    let piece_is : new ≡ piece ++ drop (at + len) old =
    wrote ∙ ap (λ (t : List ℕ). piece ++ drop len t) (take_rest buffer at ∙ behind)
    ∙ ap (λ (t : List ℕ). piece ++ t) (drop-drop len at old) in
    ap (λ (t : List ℕ). t ++ (new ++ drop (length buffer - at) (drop at buffer))) before
    ∙ ap (λ (t : List ℕ). front ++ (new ++ t)) none
    ∙ ap (λ (t : List ℕ). front ++ t) (append-nil new ∙ piece_is)
    ∙ sym (append_assoc front piece (drop (at + len) old))
