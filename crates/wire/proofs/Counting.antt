-- The counts of a Head: read one after the other, what is read is spelled so, and what is spelled so is read.
use Rattle.std.proofs.Common.{◌≡◌, ℕ, zero, suc, ◌+◌, ◌-◌, ◌*◌, ◌^◌, ◌<◌, ◌≤◌, List, [], ◌∷◌, ◌++◌, length, get_or, take, drop}
use Rattle.std.proofs.Common.{refl, sym, ap, ◌∙◌, append_assoc, length-drop, arith}
use Rattle.std.specs.List.{flat_map, AllByRecursion}
use Rattle.std.proofs.lemmas.List.{nil_from_length, get_or-drop, drop-drop, take_more, length-take-le}
use Rattle.byteorder.specs.Endian.{big_bytes, big_number}
use Rattle.byteorder.specs.Numbers.{big_number-reads_back}
use Rattle.rows.specs.Laws.{NumbersAreSpelled, NumbersAreBelow}
use Rattle.rows.specs.Spelling.{AreBytes}
use Rattle.wire.specs.Reading.{counts_at}
use Rattle.wire.specs.Spelling.{in_turn}

-- one step of a loop
pub counted_more : (front : List ℕ) (workers i : ℕ) (bytes all : List ℕ) → i < workers → front ++ counts_at (workers - i) bytes ≡ all
    → (front ++ big_number 8 bytes ∷ []) ++ counts_at (workers - (i + 1)) (drop 16 bytes) ≡ all
counted_more front workers i bytes all lt so_far =
    let k : workers - i ≡ suc (workers - (i + 1)) = omega arith in
    append_assoc front (big_number 8 bytes ∷ []) (counts_at (workers - (i + 1)) (drop 16 bytes)) ∙ rw k at so_far

-- eight bytes and sixteen are behind each other in either order
pub either_order : (bytes : List ℕ) → drop 16 (drop 8 bytes) ≡ drop 8 (drop 16 bytes)
either_order bytes = drop-drop 16 8 bytes ∙ sym (drop-drop 8 16 bytes)

-- bytes behind others are bytes
pub AreBytes-drop : (n : ℕ) (bytes : List ℕ) → AreBytes bytes → AreBytes (drop n bytes)
AreBytes-drop n bytes h i = rw get_or-drop (h (n + i))

-- ---- counts in turn

in_turn-push : (lows counts : List ℕ) (low count : ℕ) → length lows ≡ length counts
    → in_turn (lows ++ low ∷ []) (counts ++ count ∷ []) ≡ (in_turn lows counts ++ low ∷ []) ++ count ∷ []
in_turn-push [] [] low count same = refl
in_turn-push [] (other ∷ counts) low count same = absurd (omega (arith, same))
in_turn-push (other ∷ lows) [] low count same = absurd (omega (arith, same))
in_turn-push (first ∷ lows) (other ∷ counts) low count same =
    ap (λ (t : List ℕ). first ∷ other ∷ t) (in_turn-push lows counts low count (omega (arith, same)))

-- those of one worker more
pub in_turn-more : (lows counts : List ℕ) (worker : ℕ) → worker < length lows → worker < length counts
    → in_turn (take (worker + 1) lows) (take (worker + 1) counts)
    ≡ (in_turn (take worker lows) (take worker counts) ++ get_or lows worker 0 ∷ []) ++ get_or counts worker 0 ∷ []
in_turn-more lows counts worker within counted =
    let below : worker ≤ length lows = omega arith in
    let beneath : worker ≤ length counts = omega arith in
    let same : length (take worker lows) ≡ length (take worker counts) =
    length-take-le worker lows below ∙ sym (length-take-le worker counts beneath) in
    ap (λ (t : List ℕ). in_turn t (take (worker + 1) counts)) (take_more lows worker 0 within)
    ∙ ap (λ (t : List ℕ). in_turn (take worker lows ++ get_or lows worker 0 ∷ []) t) (take_more counts worker 0 counted)
    ∙ in_turn-push (take worker lows) (take worker counts) (get_or lows worker 0) (get_or counts worker 0) same

pub length-in_turn : (lows counts : List ℕ) → length lows ≡ length counts → length (in_turn lows counts) ≡ 2 * length counts
length-in_turn [] [] same = refl
length-in_turn [] (count ∷ counts) same = absurd (omega (arith, same))
length-in_turn (low ∷ lows) [] same = absurd (omega (arith, same))
length-in_turn (low ∷ lows) (count ∷ counts) same =
    let rest = length-in_turn lows counts (omega (arith, same)) in
    omega arith

-- ---- what is read is spelled so

module _ (cut : NumbersAreSpelled) (below : NumbersAreBelow) where
  pub counts_at-below : (workers : ℕ) (bytes : List ℕ) → AreBytes bytes
      → AllByRecursion (λ count. count < 2 ^ 64) (counts_at workers bytes)
  counts_at-below zero bytes fits = tt
  counts_at-below (suc workers) bytes fits =
      (below 8 0 bytes fits, counts_at-below workers (drop 16 bytes) (AreBytes-drop 16 bytes fits))

  pub counts_at-spelled : (workers : ℕ) (bytes : List ℕ) → AreBytes bytes → length bytes ≡ 16 * workers
      → flat_map (big_bytes 8) (in_turn (counts_at workers bytes) (counts_at workers (drop 8 bytes))) ≡ bytes
  counts_at-spelled zero bytes fits len = sym (nil_from_length bytes (omega arith))
  counts_at-spelled (suc workers) bytes fits len =
      let behind = drop 16 bytes in
      let lows = counts_at workers behind in
      let rest : flat_map (big_bytes 8) (in_turn lows (counts_at workers (drop 8 behind))) ≡ behind =
      counts_at-spelled workers behind (AreBytes-drop 16 bytes fits) (omega (arith, length-drop 16 bytes)) in
      let others : flat_map (big_bytes 8) (in_turn lows (counts_at workers (drop 16 (drop 8 bytes)))) ≡ behind =
      ap (λ (t : List ℕ). flat_map (big_bytes 8) (in_turn lows (counts_at workers t))) (either_order bytes) ∙ rest in
      let at_8 : big_bytes 8 (big_number 8 (drop 8 bytes)) ++ behind ≡ drop 8 bytes = cut 8 8 bytes (omega arith) fits in
      let at_0 : big_bytes 8 (big_number 8 bytes) ++ drop 8 bytes ≡ bytes = cut 8 0 bytes (omega arith) fits in
      ap (λ (t : List ℕ). big_bytes 8 (big_number 8 bytes) ++ (big_bytes 8 (big_number 8 (drop 8 bytes)) ++ t)) others
      ∙ ap (λ (t : List ℕ). big_bytes 8 (big_number 8 bytes) ++ t) at_8 ∙ at_0

pub length-counts_at : (workers : ℕ) (bytes : List ℕ) → length (counts_at workers bytes) ≡ workers
length-counts_at zero bytes = refl
length-counts_at (suc workers) bytes = ap suc (length-counts_at workers (drop 16 bytes))

-- ---- what is spelled so is read

pub lows_at-again : (lows counts : List ℕ) → length lows ≡ length counts → AllByRecursion (λ low. low < 2 ^ 64) lows
    → counts_at (length counts) (flat_map (big_bytes 8) (in_turn lows counts)) ≡ lows
lows_at-again [] [] same fits = refl
lows_at-again [] (count ∷ counts) same fits = absurd (omega (arith, same))
lows_at-again (low ∷ lows) [] same fits = absurd (omega (arith, same))
lows_at-again (low ∷ lows) (count ∷ counts) same fits =
    let behind = flat_map (big_bytes 8) (in_turn lows counts) in
    ap (λ (n : ℕ). n ∷ counts_at (length counts) behind) (big_number-reads_back 8 low (big_bytes 8 count ++ behind) fits.0)
    ∙ ap (λ (t : List ℕ). low ∷ t) (lows_at-again lows counts (omega (arith, same)) fits.1)

pub counts_at-again : (lows counts : List ℕ) → length lows ≡ length counts → AllByRecursion (λ count. count < 2 ^ 64) counts
    → counts_at (length counts) (drop 8 (flat_map (big_bytes 8) (in_turn lows counts))) ≡ counts
counts_at-again [] [] same fits = refl
counts_at-again [] (count ∷ counts) same fits = absurd (omega (arith, same))
counts_at-again (low ∷ lows) [] same fits = absurd (omega (arith, same))
counts_at-again (low ∷ lows) (count ∷ counts) same fits =
    let behind = flat_map (big_bytes 8) (in_turn lows counts) in
    ap (λ (n : ℕ). n ∷ counts_at (length counts) (drop 8 behind)) (big_number-reads_back 8 count behind fits.0)
    ∙ ap (λ (t : List ℕ). count ∷ t) (counts_at-again lows counts (omega (arith, same)) fits.1)
