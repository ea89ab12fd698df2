-- Numbers and bytes at the front of bytes: what is read there is spelled so.
use Rattle.std.proofs.Common.{◌≡◌, ℕ, zero, suc, ◌+◌, ◌*◌, ◌/◌, ◌%◌, ◌^◌, ◌<◌, ◌≤◌, List, [], ◌∷◌, ◌++◌, length, get_or}
use Rattle.std.proofs.Common.{take, drop, refl, sym, ap, ◌∙◌, arith, inl, inr}
use Rattle.std.specs.Int.{byte_at}
use Rattle.std.proofs.lemmas.Bool.{cases_lt}
use Rattle.std.proofs.lemmas.List.{length-take, length-take-le, length-drop, get_or-take, get_or-drop, get_or_past, take-append-drop}
use Rattle.std.proofs.lemmas.List.{drop-drop, drop_more, append-nil}
use Rattle.std.proofs.lemmas.Nat.{div-mul-add, mod-mul-add}
use Rattle.std.proofs.Math.Nat.{mod-lt}
use Rattle.byteorder.specs.Endian.{big_bytes, big_number}
use Rattle.byteorder.specs.Numbers.{big_from-cons, big_from-take, big_from-lt, big_number-reads_back, length-bytes_high_first}
use Rattle.rows.specs.Laws.{NumbersAreSpelled, NumbersAreBelow}
use Rattle.rows.specs.Spelling.{AreBytes}

pub AreBytes-drop : (n : ℕ) (bytes : List ℕ) → AreBytes bytes → AreBytes (drop n bytes)
AreBytes-drop n bytes h i = rw get_or-drop (h (n + i))

pub AreBytes-take : (n : ℕ) (bytes : List ℕ) → AreBytes bytes → AreBytes (take n bytes)
AreBytes-take n bytes h i =
    elim (cases_lt i n) [
      | inl lt ↦ rw (get_or-take n bytes i 0 lt) (h i)
      | inr le ↦ rw (get_or_past (take n bytes) i 0 (omega (arith, length-take n bytes))) (omega arith)
    ]

-- two lists of n bytes with the same number are equal
same_bytes : (n : ℕ) (bytes others : List ℕ) → length bytes ≡ n → length others ≡ n → AreBytes bytes → AreBytes others
    → big_number n bytes ≡ big_number n others → bytes ≡ others
same_bytes zero [] [] long long' fits fits' same = refl
same_bytes zero (byte ∷ bytes) others long long' fits fits' same = absurd (omega arith)
same_bytes zero [] (other ∷ others) long long' fits fits' same = absurd (omega arith)
same_bytes (suc n) [] others long long' fits fits' same = absurd (omega arith)
same_bytes (suc n) (byte ∷ bytes) [] long long' fits fits' same = absurd (omega arith)
same_bytes (suc n) (byte ∷ bytes) (other ∷ others) long long' fits fits' same =
    let below = big_from-lt 0 n bytes (λ i. fits (suc i)) in
    let below' = big_from-lt 0 n others (λ i. fits' (suc i)) in
    let joined : byte * 256 ^ n + big_number n bytes ≡ other * 256 ^ n + big_number n others =
    ap (λ (t : ℕ). byte * 256 ^ n + t) (sym (big_from-cons 0 n byte bytes)) ∙ same
    ∙ ap (λ (t : ℕ). other * 256 ^ n + t) (big_from-cons 0 n other others) in
    let first : byte ≡ other =
    sym (div-mul-add byte (256 ^ n) (big_number n bytes) below) ∙ ap (λ (t : ℕ). t / 256 ^ n) joined
    ∙ div-mul-add other (256 ^ n) (big_number n others) below' in
    let rest : big_number n bytes ≡ big_number n others =
    sym (mod-mul-add byte (256 ^ n) (big_number n bytes) below) ∙ ap (λ (t : ℕ). t % 256 ^ n) joined
    ∙ mod-mul-add other (256 ^ n) (big_number n others) below' in
    let behind = same_bytes n bytes others (omega arith) (omega arith) (λ i. fits (suc i)) (λ i. fits' (suc i)) rest in
    λ i. first i ∷ behind i

-- the bytes of a number are bytes
byte-below : (k x : ℕ) → byte_at k x < 256
byte-below zero x = mod-lt x (omega arith)
byte-below (suc k) x = mod-lt (x / 256 ^ suc k) (omega arith)

pub AreBytes-big : (n x : ℕ) → AreBytes (big_bytes n x)
AreBytes-big zero x i = omega arith
AreBytes-big (suc n) x zero = byte-below n x
AreBytes-big (suc n) x (suc i) = AreBytes-big n x i

-- the bytes of the number at the front are the bytes there
front : (n : ℕ) (bytes : List ℕ) → n ≤ length bytes → AreBytes bytes → big_bytes n (big_number n bytes) ≡ take n bytes
front n bytes long fits =
    let number = big_number n bytes in
    same_bytes n (big_bytes n number) (take n bytes) (length-bytes_high_first n number) (length-take-le n bytes long)
    (AreBytes-big n number) (AreBytes-take n bytes fits)
    (ap (big_number n) (sym (append-nil (big_bytes n number)))
    ∙ big_number-reads_back n number [] (big_from-lt 0 n bytes fits) ∙ sym (big_from-take 0 n n bytes (omega arith)))

-- a number at offset k, and what stands behind it
pub cut : NumbersAreSpelled
cut n k bytes long fits =
    ap (λ (t : List ℕ). t ++ drop (k + n) bytes) (front n (drop k bytes) (omega (arith, length-drop k bytes)) (AreBytes-drop k bytes fits))
    ∙ ap (λ (t : List ℕ). take n (drop k bytes) ++ t) (sym (drop-drop n k bytes)) ∙ take-append-drop n (drop k bytes)

-- a byte at offset k, and what stands behind it
pub cut_1 : (k : ℕ) (bytes : List ℕ) → k + 1 ≤ length bytes → get_or bytes k 0 ∷ drop (k + 1) bytes ≡ drop k bytes
cut_1 k bytes long = sym (drop_more bytes k 0 (omega arith))

-- a number that is read fits
pub number_fits : NumbersAreBelow
number_fits n k bytes fits = big_from-lt 0 n (drop k bytes) (AreBytes-drop k bytes fits)
