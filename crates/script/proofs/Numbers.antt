-- Numbers in decimal, and the words that are them.
use Rattle.std.proofs.Common.{◌≡◌, ◌≢◌, ℕ, zero, suc, ◌<◌, ◌≤◌, ◌^◌, List, [], ◌∷◌, drop, Bool, true, false, cond}
use Rattle.std.proofs.Common.{◌&&◌}
use Rattle.std.proofs.Common.{Option, None, Some, ℤ, pos, negsuc, refl, sym, ap, ◌∙◌, subst, arith, MatchOption, decimal, nat_lt}
use Rattle.std.proofs.Common.{FitsSigned, slice_index, ◌==◌, ◌⊎◌, inl}
use Rattle.std.specs.Int.{w64, IsInRange}
use Rattle.std.specs.Fmt.{signed_decimal}
use Rattle.std.specs.Str.{bytes_eq}
use Rattle.std.specs.Str.Parse.{digits_value}
use Rattle.std.proofs.lemmas.Bool.{ltb-true, lt-ltb, eqb-true}
use Rattle.std.proofs.lemmas.Bool.Decides.{nat_tests}
use Rattle.std.proofs.lemmas.Fmt.{decimal_is_IsNumeral}
use Rattle.std.proofs.lemmas.Str.Parse.{digit_at}
use Rattle.std.proofs.lemmas.Slice.Eq.{bytes_eq-Decides}
use Rattle.script.specs.Inner.WordReading.{number_of, below_of, under, int_of, negative, positive}

-- equal words pass the test, and only they
pub words_eq : (xs : List ℕ) → bytes_eq xs xs ≡ true
words_eq xs = (bytes_eq-Decides xs xs).1 refl

pub words_same : (xs ys : List ℕ) → bytes_eq xs ys ≡ true → xs ≡ ys
words_same xs ys h = (bytes_eq-Decides xs ys).0 h

-- the number of what it is written as
pub number_of-decimal : (n : ℕ) → n < 2 ^ 64 → number_of (decimal n) ≡ Some n
unfolding number_of
number_of-decimal n h =
    let e : digits_value 10 (decimal n) ≡ n = (decimal_is_IsNumeral n h).1 in
    rw e (rw (lt-ltb n (2 ^ 64) h) (rw (words_eq (decimal n)) refl))

chosen : (value : ℕ) (small same : Bool) (n : ℕ) → cond (small && same) (Some value) None ≡ Some n
    → (small ≡ true) × (same ≡ true) × (value ≡ n)
chosen value true true n h = (refl, refl, cc)
chosen value true false n h = absurd (cc)
chosen value false true n h = absurd (cc)
chosen value false false n h = absurd (cc)

-- what is read as a number is written so
pub number_of-some : (word : List ℕ) (n : ℕ) → number_of word ≡ Some n → (n < 2 ^ 64) × (decimal n ≡ word)
unfolding number_of
number_of-some word n h =
    let value = digits_value 10 word in
    let k : (nat_lt value (2 ^ 64) ≡ true) × (bytes_eq (decimal value) word ≡ true) × (value ≡ n) = chosen value _ _ n h in
    let small : value < 2 ^ 64 = ltb-true value (2 ^ 64) k.0 in
    let same : value ≡ n = k.2 in
    (omega arith, ap decimal (sym same) ∙ words_same (decimal value) word k.1)

-- the number of a word that is its text
pub number-written : (n : ℕ) (word : List ℕ) → n < 2 ^ 64 → bytes_eq (decimal n) word ≡ true → Some n ≡ number_of word
number-written n word small h = sym (ap number_of (sym (words_same (decimal n) word h)) ∙ number_of-decimal n small)

-- a word of which no number is the text has none
pub number-none : (word : List ℕ) → ((n : ℕ) → n < 2 ^ 64 → decimal n ≡ word → ⊥) → None ≡ number_of word
number-none word none = by (number_of word) refl
  where
    by : (found : Option ℕ) → number_of word ≡ found → None ≡ found
    by None e = refl
    by (Some n) e = absurd (none n (number_of-some word n e).0 (number_of-some word n e).1)

-- below a limit
pub below_of-decimal : (limit n : ℕ) → n < limit → n < 2 ^ 64 → below_of limit (decimal n) ≡ Some n
unfolding below_of
below_of-decimal limit n small h = rw (number_of-decimal n h) (rw (lt-ltb n limit small) refl)

under-some : (limit : ℕ) (number : Option ℕ) (n : ℕ) → under limit number ≡ Some n → (n < limit) × (number ≡ Some n)
under-some limit None n h = absurd (cc)
under-some limit (Some m) n h = by (nat_lt m limit) refl h
  where
    by : (small : Bool) → nat_lt m limit ≡ small → cond small (Some m) None ≡ Some n → (n < limit) × (Some m ≡ Some n)
    by true e k =
        let below : m < limit = ltb-true m limit e in
        let same : m ≡ n = cc in
        (omega arith, k)
    by false e k = absurd (cc)

pub below_of-some : (limit : ℕ) (word : List ℕ) (n : ℕ) → below_of limit word ≡ Some n → (n < limit) × (decimal n ≡ word)
unfolding below_of
below_of-some limit word n h =
    let k : (n < limit) × (number_of word ≡ Some n) = under-some limit (number_of word) n h in
    (k.0, (number_of-some word n k.1).1)

-- no digit is another sign
no_digit : (c x : ℕ) → IsInRange 48 57 x → (c < 48) ⊎ (57 < c) → (x == c) ≡ false
no_digit c x (low, high) other = grind (arith, nat_tests)

pub first-decimal : (c n : ℕ) → n < 2 ^ 64 → (c < 48) ⊎ (57 < c) → (slice_index (decimal n) 0 == c) ≡ false
first-decimal c n h other =
    let are = (decimal_is_IsNumeral n h).0 in
    no_digit c (slice_index (decimal n) 0) (digit_at (decimal n) 0 are.1 are.0) other

-- the signed number of what it is written as
pub int_of-signed : (z : ℤ) → FitsSigned w64 z → int_of (signed_decimal z) ≡ Some z
unfolding int_of
int_of-signed (pos n) h =
    let small : n < 2 ^ 63 = h.sfits in
    rw (first-decimal 45 n (omega arith) (inl (omega arith)))
    (rw (number_of-decimal n (omega arith)) (rw (lt-ltb n (2 ^ 63) small) refl))
int_of-signed (negsuc n) h =
    let small : n < 2 ^ 63 = h.sfits in
    rw (number_of-decimal (suc n) (omega arith)) (rw (lt-ltb n (2 ^ 63) small) refl)

negative-some : (number : Option ℕ) (z : ℤ) → negative number ≡ Some z
    → (n : ℕ) × (number ≡ Some (suc n)) × (n < 2 ^ 63) × (negsuc n ≡ z)
negative-some None z h = absurd (cc)
negative-some (Some zero) z h = absurd (cc)
negative-some (Some (suc n)) z h = by (nat_lt n (2 ^ 63)) refl h
  where
    by : (small : Bool) → nat_lt n (2 ^ 63) ≡ small → cond small (Some (negsuc n)) None ≡ Some z
        → (m : ℕ) × (Some (suc n) ≡ Some (suc m)) × (m < 2 ^ 63) × (negsuc m ≡ z)
    by true e k = (n, refl, ltb-true n (2 ^ 63) e, cc)
    by false e k = absurd (cc)

positive-some : (number : Option ℕ) (z : ℤ) → positive number ≡ Some z
    → (n : ℕ) × (number ≡ Some n) × (n < 2 ^ 63) × (pos n ≡ z)
positive-some None z h = absurd (cc)
positive-some (Some n) z h = by (nat_lt n (2 ^ 63)) refl h
  where
    by : (small : Bool) → nat_lt n (2 ^ 63) ≡ small → cond small (Some (pos n)) None ≡ Some z
        → (m : ℕ) × (Some n ≡ Some m) × (m < 2 ^ 63) × (pos m ≡ z)
    by true e k = (n, refl, ltb-true n (2 ^ 63) e, cc)
    by false e k = absurd (cc)

-- a word that begins with this byte
pub first-is : (c : ℕ) (word : List ℕ) → 0 < c → (slice_index word 0 == c) ≡ true → c ∷ drop 1 word ≡ word
first-is c [] some h = absurd (omega (arith, eqb-true 0 c h))
first-is c (x ∷ word) some h = ap (λ (first : ℕ). first ∷ word) (sym (eqb-true x c h))

-- what is read as a signed number is written so
pub int_of-some : (word : List ℕ) (z : ℤ) → int_of word ≡ Some z → FitsSigned w64 z × (signed_decimal z ≡ word)
unfolding int_of
int_of-some word z h = by (slice_index word 0 == 45) refl h
  where
    by : (minus : Bool) → (slice_index word 0 == 45) ≡ minus
        → cond minus (negative (number_of (drop 1 word))) (positive (number_of word)) ≡ Some z
        → FitsSigned w64 z × (signed_decimal z ≡ word)
    by true e k =
        let p = negative-some (number_of (drop 1 word)) z k in
        let fits : FitsSigned w64 (negsuc p.0) = record { sfits = p.2 } in
        let written : signed_decimal (negsuc p.0) ≡ word =
        ap (λ (rest : List ℕ). 45 ∷ rest) (number_of-some (drop 1 word) (suc p.0) p.1).1 ∙ first-is 45 word (omega arith) e in
        let Q : ℤ → Type 0 = λ y. FitsSigned w64 y × (signed_decimal y ≡ word) in
        subst Q p.3 (fits, written)
    by false e k =
        let p = positive-some (number_of word) z k in
        let fits : FitsSigned w64 (pos p.0) = record { sfits = p.2 } in
        let Q : ℤ → Type 0 = λ y. FitsSigned w64 y × (signed_decimal y ≡ word) in
        subst Q p.3 (fits, (number_of-some word p.0 p.1).1)

-- the signed number of a word that is its text
pub int-written : (z : ℤ) (word : List ℕ) → FitsSigned w64 z → bytes_eq (signed_decimal z) word ≡ true → Some z ≡ int_of word
int-written z word fits h = sym (ap int_of (sym (words_same (signed_decimal z) word h)) ∙ int_of-signed z fits)

-- a word of which no signed number is the text has none
pub int-none : (word : List ℕ) → ((z : ℤ) → FitsSigned w64 z → signed_decimal z ≡ word → ⊥) → None ≡ int_of word
int-none word none = by (int_of word) refl
  where
    by : (found : Option ℤ) → int_of word ≡ found → None ≡ found
    by None e = refl
    by (Some z) e = absurd (none z (int_of-some word z e).0 (int_of-some word z e).1)

-- the number below a limit of a word, where there is one
pub below-exact : (limit : ℕ) (word : List ℕ) (found : Option ℕ) → limit ≤ 2 ^ 64 → found ≡ below_of limit word
    → MatchOption found ((n : ℕ) → n < limit → decimal n ≢ word) (λ n. (n < limit) × (decimal n ≡ word))
below-exact limit word None few e = λ n small is.
    let read : below_of limit word ≡ Some n = ap (below_of limit) (sym is) ∙ below_of-decimal limit n small (omega arith) in
    cc
below-exact limit word (Some n) few e = below_of-some limit word n (sym e)
