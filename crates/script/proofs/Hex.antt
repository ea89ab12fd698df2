-- Bytes in hexadecimal, and the digits that are them.
use Rattle.std.proofs.Common.{◌≡◌, ℕ, zero, suc, ◌+◌, ◌-◌, ◌*◌, ◌/◌, ◌%◌, ◌<◌, ◌≤◌, List, [], ◌∷◌, ◌++◌, length, take}
use Rattle.std.proofs.Common.{drop, set, get_or, ◌==◌}
use Rattle.std.proofs.Common.{Bool, true, false, cond, Option, None, Some, refl, sym, ap, ◌∙◌, subst, arith, nat_lt, nat_le, ◌&&◌}
use Rattle.std.proofs.Common.{append_assoc, append-nil, codes}
use Rattle.std.specs.Str.{bytes_eq}
use Rattle.std.proofs.Common.{lit<, length-take-le}
use Rattle.std.proofs.lemmas.Bool.{ltb-true, lt-ltb, leb-true, le-leb}
use Rattle.std.proofs.lemmas.Bool.Decides.{nat_tests}
use Rattle.std.proofs.lemmas.List.{take_more_set, drop_all}
use Rattle.std.proofs.Math.Seq.{drop-cons}
use Rattle.std.specs.Fmt.{digit_glyph}
use Rattle.rows.specs.Limits.{octets_max}
use Rattle.rows.specs.Spelling.{AreBytes}
use Rattle.rows.specs.Text.{hex_text}
use Rattle.script.specs.EventText.{bytes_text}
use Rattle.script.specs.Inner.WordReading.{both, made, two, digit_of, byte_of, bytes_of_digits, hex_of, of_octets_size, octets_of}
use Rattle.script.proofs.Numbers.{words_same}

-- the parts of what two of them made
pub both-some : {A B C : Type 0} (first : Option A) (second : Option B) (make : A → B → C) (c : C) → both first second make ≡ Some c
    → (a : A) × (b : B) × (first ≡ Some a) × (second ≡ Some b) × (make a b ≡ c)
both-some None second make c h = absurd (cc)
both-some (Some a) None make c h = absurd (cc)
both-some (Some a) (Some b) make c h = (a, b, refl, refl, cc)

pub two-some : {A B : Type 0} (first : Option A) (second : Option B) (c : A × B) → two first second ≡ Some c
    → (first ≡ Some c.0) × (second ≡ Some c.1)
two-some None second c h = absurd (cc)
two-some (Some a) None c h = absurd (cc)
two-some {A = A} {B = B} (Some a) (Some b) c h =
    let same : (a, b) ≡ c = cc in
    (ap (λ (p : A × B). Some p.0) same, ap (λ (p : A × B). Some p.1) same)

pub made-some : {A B : Type 0} (make : A → B) (part : Option A) (b : B) → made make part ≡ Some b
    → (a : A) × (part ≡ Some a) × (make a ≡ b)
made-some make None b h = absurd (cc)
made-some make (Some a) b h = (a, refl, cc)

-- how many digits bytes have
pub bytes_of-length : (digits bytes : List ℕ) → bytes_of_digits digits ≡ Some bytes → length digits ≡ 2 * length bytes
bytes_of-length [] bytes h =
    let same : [] ≡ bytes = cc in
    let P : List ℕ → Type 0 = λ made. 0 ≡ 2 * length made in
    subst P same refl
bytes_of-length (high ∷ []) bytes h = absurd (cc)
bytes_of-length (high ∷ low ∷ digits) bytes h =
    let p = both-some (byte_of high low) (bytes_of_digits digits) (λ byte rest. byte ∷ rest) bytes h in
    let few : length digits ≡ 2 * length p.1 = bytes_of-length digits p.1 p.3 in
    let P : List ℕ → Type 0 = λ made. length (high ∷ low ∷ digits) ≡ 2 * length made in
    subst P p.4 (omega arith)

-- two digits, and those behind them
pair_at : (digits : List ℕ) (i : ℕ) → 2 * i + 1 < length digits
    → drop (2 * i) digits ≡ get_or digits (2 * i) 0 ∷ get_or digits (2 * i + 1) 0 ∷ drop (2 * (i + 1)) digits
pair_at digits i h =
    let first = drop-cons digits (2 * i) 0 (omega arith) in
    let second = drop-cons digits (suc (2 * i)) 0 (omega arith) in
    let one : suc (2 * i) ≡ 2 * i + 1 = omega arith in
    let next : suc (2 * i + 1) ≡ 2 * (i + 1) = omega arith in
    cc

-- the bytes so far, and those of the digits that are left, are the bytes of all
abbrev pub onto : List ℕ → Option (List ℕ) → Option (List ℕ)
onto front rest = made (λ (bytes : List ℕ). front ++ bytes) rest

pub onto-none : (rest : Option (List ℕ)) → onto [] rest ≡ rest
onto-none None = refl
onto-none (Some bytes) = refl

pub hex-more : (digits front : List ℕ) (i byte : ℕ) → 2 * i + 1 < length digits
    → byte_of (get_or digits (2 * i) 0) (get_or digits (2 * i + 1) 0) ≡ Some byte
    → onto front (bytes_of_digits (drop (2 * i) digits)) ≡ onto (front ++ byte ∷ []) (bytes_of_digits (drop (2 * (i + 1)) digits))
hex-more digits front i byte within is = rw (pair_at digits i within) (rw is (by (bytes_of_digits (drop (2 * (i + 1)) digits))))
  where
    by : (rest : Option (List ℕ)) → onto front (both (Some byte) rest (λ first more. first ∷ more)) ≡ onto (front ++ byte ∷ []) rest
    by None = refl
    by (Some rest) = ap (λ (all : List ℕ). Some all) (sym (append_assoc front (byte ∷ []) rest))

pub hex-step : (digits bytes : List ℕ) (i byte : ℕ) → 2 * i + 1 < length digits → i < length bytes
    → byte_of (get_or digits (2 * i) 0) (get_or digits (2 * i + 1) 0) ≡ Some byte
    → onto (take i bytes) (bytes_of_digits (drop (2 * i) digits)) ≡ onto (take (i + 1) (set bytes i byte))
    (bytes_of_digits (drop (2 * (i + 1)) digits))
hex-step digits bytes i byte within room is =
    rw (take_more_set bytes i byte room) (hex-more digits (take i bytes) i byte within is)

pub hex-stop : (digits : List ℕ) (front : List ℕ) (i : ℕ) → 2 * i + 1 < length digits
    → byte_of (get_or digits (2 * i) 0) (get_or digits (2 * i + 1) 0) ≡ None → onto front (bytes_of_digits (drop (2 * i) digits)) ≡ None
hex-stop digits front i within none = rw (pair_at digits i within) (rw none refl)

-- no octets of a wrong number of digits
pub octets-none : (digits : List ℕ) → ((count : ℕ) → 0 < count → count ≤ octets_max → length digits ≡ 2 * count → ⊥)
    → octets_of digits ≡ None
unfolding octets_of
octets-none digits none = by (bytes_of_digits digits) refl
  where
    few : (bytes : List ℕ) (some fits : Bool) → bytes_of_digits digits ≡ Some bytes → nat_lt 0 (length bytes) ≡ some
        → nat_le (length bytes) octets_max ≡ fits → cond (some && fits) (Some bytes) None ≡ None
    few bytes true true e a b =
        absurd (none (length bytes) (ltb-true 0 (length bytes) a) (leb-true (length bytes) octets_max b) (bytes_of-length digits bytes e))
    few bytes true false e a b = refl
    few bytes false fits e a b = refl

    by : (found : Option (List ℕ)) → bytes_of_digits digits ≡ found → of_octets_size found ≡ None
    by None e = refl
    by (Some bytes) e = few bytes _ _ e refl refl

pub octets-of : (digits bytes : List ℕ) → bytes_of_digits digits ≡ Some bytes → 0 < length bytes → length bytes ≤ octets_max
    → octets_of digits ≡ Some bytes
unfolding octets_of
octets-of digits bytes e some few = rw e (rw (lt-ltb 0 (length bytes) some) (rw (le-leb (length bytes) octets_max few) refl))

pub octets-broken : (digits : List ℕ) → bytes_of_digits digits ≡ None → octets_of digits ≡ None
unfolding octets_of
octets-broken digits e = rw e refl

-- a digit, and what it stands for
digit_of-hex : (d : ℕ) → d < 16 → digit_of (digit_glyph false d) ≡ Some d
digit_of-hex d h = by (nat_lt d 10) refl
  where
    by : (low : Bool) → nat_lt d 10 ≡ low → digit_of (cond low (48 + d) (87 + d)) ≡ Some d
    by true e =
        let small : d < 10 = ltb-true d 10 e in
        let exact : (48 + d) - 48 ≡ d = omega arith in
        rw (le-leb 48 (48 + d) (omega arith)) (rw (le-leb (48 + d) 57 (omega arith)) (ap (λ (n : ℕ). Some n) exact))
    by false e = grind (arith, nat_tests)

digit_of-some : (byte d : ℕ) → digit_of byte ≡ Some d → (d < 16) × (digit_glyph false d ≡ byte)
digit_of-some byte d h = grind (arith, nat_tests)

byte_of-text : (byte : ℕ) → byte < 256 → byte_of (digit_glyph false (byte / 16)) (digit_glyph false (byte % 16)) ≡ Some byte
unfolding byte_of
byte_of-text byte h =
    let whole : byte / 16 * 16 + byte % 16 ≡ byte = omega arith in
    rw (digit_of-hex (byte / 16) (omega arith)) (rw (digit_of-hex (byte % 16) (omega arith)) (ap (λ (n : ℕ). Some n) whole))

byte_of-some : (high low byte : ℕ) → byte_of high low ≡ Some byte
    → (byte < 256) × (digit_glyph false (byte / 16) ≡ high) × (digit_glyph false (byte % 16) ≡ low)
unfolding byte_of
byte_of-some high low byte h =
    let p = both-some (digit_of high) (digit_of low) (λ first second. first * 16 + second) byte h in
    let a = digit_of-some high p.0 p.2 in
    let b = digit_of-some low p.1 p.3 in
    let whole : p.0 * 16 + p.1 ≡ byte = p.4 in
    let front : byte / 16 ≡ p.0 = omega arith in
    let back : byte % 16 ≡ p.1 = omega arith in
    (omega arith, ap (digit_glyph false) front ∙ a.1, ap (digit_glyph false) back ∙ b.1)

-- the bytes of what they are written as
bytes_of-text : (bytes : List ℕ) → AreBytes bytes → bytes_of_digits (hex_text bytes) ≡ Some bytes
bytes_of-text [] are = refl
bytes_of-text (byte ∷ bytes) are =
    rw (byte_of-text byte (are 0)) (rw (bytes_of-text bytes (λ i. are (suc i))) refl)

bytes_of-some : (digits bytes : List ℕ) → bytes_of_digits digits ≡ Some bytes → AreBytes bytes × (hex_text bytes ≡ digits)
bytes_of-some [] bytes h =
    let same : [] ≡ bytes = cc in
    let P : List ℕ → Type 0 = λ made. AreBytes made × (hex_text made ≡ []) in
    subst P same (λ i. lit< tt, refl)
bytes_of-some (high ∷ []) bytes h = absurd (cc)
bytes_of-some (high ∷ low ∷ digits) bytes h =
    let p = both-some (byte_of high low) (bytes_of_digits digits) (λ byte rest. byte ∷ rest) bytes h in
    let front = byte_of-some high low p.0 p.2 in
    let rest = bytes_of-some digits p.1 p.3 in
    let P : List ℕ → Type 0 = λ made. AreBytes made × (hex_text made ≡ high ∷ low ∷ digits) in
    let are : AreBytes (p.0 ∷ p.1) = bytes_more p.0 p.1 front.0 rest.0 in
    subst P p.4 (are, written p.0 p.1 high low digits front.1 front.2 rest.1)
  where
    bytes_more : (byte : ℕ) (more : List ℕ) → byte < 256 → AreBytes more → AreBytes (byte ∷ more)
    bytes_more byte more small are zero = small
    bytes_more byte more small are (suc i) = are i

    written : (byte : ℕ) (more : List ℕ) (high low : ℕ) (digits : List ℕ) → digit_glyph false (byte / 16) ≡ high
        → digit_glyph false (byte % 16) ≡ low → hex_text more ≡ digits → hex_text (byte ∷ more) ≡ high ∷ low ∷ digits
    written byte more high low digits a b c = rw a (rw b (rw c refl))

-- bytes by themselves, and what they are written as
pub hex_of-text : (bytes : List ℕ) → AreBytes bytes → hex_of (bytes_text bytes) ≡ Some bytes
unfolding hex_of
hex_of-text [] are = refl
hex_of-text (byte ∷ bytes) are = by (bytes_eq (hex_text (byte ∷ bytes)) (codes "-")) refl
  where
    by : (is : Bool) → bytes_eq (hex_text (byte ∷ bytes)) (codes "-") ≡ is
        → cond is (Some []) (bytes_of_digits (hex_text (byte ∷ bytes))) ≡ Some (byte ∷ bytes)
    by true e =
        let counts : suc (suc (length (hex_text bytes))) ≡ 1 =
        ap (λ (word : List ℕ). length word) (words_same (hex_text (byte ∷ bytes)) (codes "-") e) in
        absurd (omega arith)
    by false e = bytes_of-text (byte ∷ bytes) are

pub hex_of-some : (word bytes : List ℕ) → hex_of word ≡ Some bytes → AreBytes bytes × (bytes_text bytes ≡ word)
unfolding hex_of
hex_of-some [] bytes h = absurd (cc)
hex_of-some (first ∷ rest) bytes h = by (bytes_eq (first ∷ rest) (codes "-")) refl h
  where
    written : (made : List ℕ) → hex_text made ≡ first ∷ rest → bytes_text made ≡ first ∷ rest
    written [] e = cc
    written (byte ∷ more) e = e

    by : (is : Bool) → bytes_eq (first ∷ rest) (codes "-") ≡ is → cond is (Some []) (bytes_of_digits (first ∷ rest)) ≡ Some bytes
        → AreBytes bytes × (bytes_text bytes ≡ first ∷ rest)
    by true e k =
        let same : [] ≡ bytes = cc in
        let P : List ℕ → Type 0 = λ made. AreBytes made × (bytes_text made ≡ first ∷ rest) in
        subst P same (λ i. lit< tt, sym (words_same (first ∷ rest) (codes "-") e))
    by false e k =
        let s = bytes_of-some (first ∷ rest) bytes k in
        (s.0, written bytes s.1)

-- `-` is no byte
pub hex-dash : (word : List ℕ) → bytes_eq word (codes "-") ≡ true → hex_of word ≡ Some []
unfolding hex_of
hex-dash [] e = cc
hex-dash (first ∷ rest) e = rw e refl

-- another word is pairs of digits
pub hex-pairs : (word : List ℕ) → (length word == 0) ≡ false → bytes_eq word (codes "-") ≡ false → hex_of word ≡ bytes_of_digits word
unfolding hex_of
hex-pairs [] some e = cc
hex-pairs (first ∷ rest) some e = rw e refl

-- a word of an odd number of digits, or of none, is no bytes
pub hex-odd : (word : List ℕ) → bytes_eq word (codes "-") ≡ false → ((count : ℕ) → 0 < count → length word ≡ 2 * count → ⊥)
    → hex_of word ≡ None
unfolding hex_of
hex-odd [] e odd = refl
hex-odd (first ∷ rest) e odd = rw e (by (bytes_of_digits (first ∷ rest)) refl)
  where
    by : (found : Option (List ℕ)) → bytes_of_digits (first ∷ rest) ≡ found → found ≡ None
    by None f = refl
    by (Some bytes) f =
        let even : length (first ∷ rest) ≡ 2 * length bytes = bytes_of-length (first ∷ rest) bytes f in
        absurd (odd (length bytes) (omega arith) even)

-- all digits were read
pub hex-made : (digits bytes : List ℕ) (len : ℕ) → length digits ≡ 2 * len
    → bytes_of_digits digits ≡ onto bytes (bytes_of_digits (drop (2 * len) digits)) → bytes_of_digits digits ≡ Some bytes
hex-made digits bytes len even made =
    let gone : drop (2 * len) digits ≡ [] = drop_all (2 * len) digits (omega arith) in
    made ∙ ap (λ (rest : List ℕ). onto bytes (bytes_of_digits rest)) gone ∙ ap (λ (whole : List ℕ). Some whole) (append-nil bytes)

-- octets and their digits
pub octets_of-text : (bytes : List ℕ) → (0 < length bytes) × (length bytes ≤ octets_max) × AreBytes bytes
    → octets_of (hex_text bytes) ≡ Some bytes
octets_of-text bytes good = octets-of (hex_text bytes) bytes (bytes_of-text bytes good.2) good.0 good.1

pub octets_of-some : (digits bytes : List ℕ) → octets_of digits ≡ Some bytes
    → ((0 < length bytes) × (length bytes ≤ octets_max) × AreBytes bytes) × (hex_text bytes ≡ digits)
unfolding octets_of
octets_of-some digits bytes h = by (bytes_of_digits digits) refl h
  where
    few : (found : List ℕ) (some fits : Bool) → bytes_of_digits digits ≡ Some found → nat_lt 0 (length found) ≡ some
        → nat_le (length found) octets_max ≡ fits → cond (some && fits) (Some found) None ≡ Some bytes
        → ((0 < length bytes) × (length bytes ≤ octets_max) × AreBytes bytes) × (hex_text bytes ≡ digits)
    few found true true e a b k =
        let same : found ≡ bytes = cc in
        let s = bytes_of-some digits found e in
        let P : List ℕ → Type 0 = λ made. ((0 < length made) × (length made ≤ octets_max) × AreBytes made) × (hex_text made ≡ digits) in
        subst P same ((ltb-true 0 (length found) a, leb-true (length found) octets_max b, s.0), s.1)
    few found true false e a b k = absurd (cc)
    few found false fits e a b k = absurd (cc)

    by : (found : Option (List ℕ)) → bytes_of_digits digits ≡ found → of_octets_size found ≡ Some bytes
        → ((0 < length bytes) × (length bytes ≤ octets_max) × AreBytes bytes) × (hex_text bytes ≡ digits)
    by None e k = absurd (cc)
    by (Some found) e k = few found _ _ e refl refl k

-- all digits were read
pub octets-made : (digits bytes : List ℕ) (len : ℕ) → length digits ≡ 2 * len → 0 < len → len ≤ 64 → length bytes ≡ 64
    → bytes_of_digits digits ≡ onto (take len bytes) (bytes_of_digits (drop (2 * len) digits))
    → cond (nat_lt 64 (length (take len bytes))) None (Some (take len bytes)) ≡ octets_of digits
octets-made digits bytes len even some few room made =
    let gone : drop (2 * len) digits ≡ [] = drop_all (2 * len) digits (omega arith) in
    let all : bytes_of_digits digits ≡ Some (take len bytes) =
    made ∙ ap (λ (rest : List ℕ). onto (take len bytes) (bytes_of_digits rest)) gone
    ∙ ap (λ (whole : List ℕ). Some whole) (append-nil (take len bytes)) in
    let count : length (take len bytes) ≡ len = length-take-le len bytes (omega arith) in
    let small : nat_lt 64 (length (take len bytes)) ≡ false = grind (arith, nat_tests) in
    rw small (sym (octets-of digits (take len bytes) all (omega arith) (omega arith)))
