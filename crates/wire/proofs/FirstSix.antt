-- What bytes read as where their first six pass each test.
use Rattle.std.proofs.Common.{◌≡◌, ℕ, ◌≤◌, false, cond, eqb, ltb, not, ◌||◌, List, [], ◌∷◌, length, get_or, take, drop}
use Rattle.std.proofs.Common.{Err, refl, ap, ◌∙◌}
use Rattle.std.specs.Option.{ok_or}
use Rattle.std.proofs.lemmas.Bool.{cond-false, le-ltb, eq-eqb, not_from_true, or_from}
use Rattle.byteorder.specs.Endian.{big_number}
use Rattle.rows.specs.declared.limits.TheConstants.{DATAGRAM_MAX}
use Rattle.wire.specs.declared.faults.WireFault.TheVariants.{Short, Magic, Version, Kind, Length, Body}
use Rattle.wire.specs.Reading.{reading, is_unknown, body_at}

-- the first number, and the third, of bytes of which the first six are kept
pub first_number : (bytes : List ℕ) → big_number 2 (take 6 bytes) ≡ big_number 2 bytes
first_number [] = refl
first_number (a ∷ []) = refl
first_number (a ∷ b ∷ bytes) = refl

pub third_number : (bytes : List ℕ) → big_number 2 (drop 4 (take 6 bytes)) ≡ big_number 2 (drop 4 bytes)
third_number [] = refl
third_number (a ∷ []) = refl
third_number (a ∷ b ∷ []) = refl
third_number (a ∷ b ∷ c ∷ []) = refl
third_number (a ∷ b ∷ c ∷ d ∷ []) = refl
third_number (a ∷ b ∷ c ∷ d ∷ e ∷ []) = refl
third_number (a ∷ b ∷ c ∷ d ∷ e ∷ f ∷ bytes) = refl

pub reading-of : (bytes : List ℕ) (kind : ℕ) → 6 ≤ length bytes → big_number 2 bytes ≡ 0x4244 → get_or bytes 2 0 ≡ 3
    → get_or bytes 3 0 ≡ kind
    → is_unknown kind ≡ false
    → big_number 2 (drop 4 bytes) ≡ length bytes → length bytes ≤ DATAGRAM_MAX
    → reading bytes ≡ ok_or (body_at kind (drop 6 bytes)) Body
reading-of bytes kind long magic version kind_is known total few =
    let unknown = is_unknown (get_or bytes 3 0) in
    let refused = not (eqb (big_number 2 (drop 4 bytes)) (length bytes)) || ltb DATAGRAM_MAX (length bytes) in
    let r5 = ok_or (body_at (get_or bytes 3 0) (drop 6 bytes)) Body in
    let r4 = cond refused (Err Length) r5 in
    let r3 = cond unknown (Err Kind) r4 in
    let r2 = cond (not (eqb (get_or bytes 2 0) 3)) (Err Version) r3 in
    let r1 = cond (not (eqb (big_number 2 bytes) 0x4244)) (Err Magic) r2 in
    let is_known : unknown ≡ false = ap is_unknown kind_is ∙ known in
    cond-false (ltb (length bytes) 6) (Err Short) r1 (le-ltb (length bytes) 6 long)
    ∙ cond-false (not (eqb (big_number 2 bytes) 0x4244)) (Err Magic) r2
    (not_from_true (eqb (big_number 2 bytes) 0x4244) (eq-eqb (big_number 2 bytes) 0x4244 magic))
    ∙ cond-false (not (eqb (get_or bytes 2 0) 3)) (Err Version) r3
    (not_from_true (eqb (get_or bytes 2 0) 3) (eq-eqb (get_or bytes 2 0) 3 version))
    ∙ cond-false unknown (Err Kind) r4 is_known
    ∙ cond-false refused (Err Length) r5
    (or_from (not (eqb (big_number 2 (drop 4 bytes)) (length bytes))) (ltb DATAGRAM_MAX (length bytes))
    (not_from_true (eqb (big_number 2 (drop 4 bytes)) (length bytes)) (eq-eqb (big_number 2 (drop 4 bytes)) (length bytes) total))
    (le-ltb DATAGRAM_MAX (length bytes) few))
    ∙ ap (λ (n : ℕ). ok_or (body_at n (drop 6 bytes)) Body) kind_is
