-- Values, and the words that are them.
use Rattle.std.proofs.Common.{◌≡◌, ℕ, ◌<◌, ◌^◌, List, [], ◌∷◌, map, drop, Bool, true, false, cond, Option, None, Some, ℤ, pos}
use Rattle.std.proofs.Common.{negsuc}
use Rattle.std.proofs.Common.{refl, sym, ap, ◌∙◌, subst, arith, FitsSigned, slice_index, ◌==◌, inr, ◌++◌, MatchOption}
use Rattle.std.specs.Int.{w64}
use Rattle.std.specs.Fmt.{signed_decimal}
use Rattle.std.specs.List.{AllByRecursion}
use Rattle.rows.specs.declared.value.Value.{Value}
use Rattle.rows.specs.declared.value.Value.TheVariants.{Int, Octets}
use Rattle.rows.specs.Text.{value_text}
use Rattle.script.specs.Values.{HasWord}
use Rattle.script.specs.Inner.WordReading.{made, octets_of, int_of, value_of, values_in_words}
use Rattle.script.proofs.Numbers.{first-decimal, first-is, int_of-signed, int_of-some}
use Rattle.script.proofs.Hex.{both-some, made-some, octets_of-text, octets_of-some}

first-signed : (z : ℤ) → FitsSigned w64 z → (slice_index (signed_decimal z) 0 == 120) ≡ false
first-signed (pos n) fits =
    let small : n < 2 ^ 63 = fits.sfits in
    first-decimal 120 n (omega arith) (inr (omega arith))
first-signed (negsuc n) fits = refl

-- the value of what it is written as
pub value_of-text : (value : Value) → HasWord value → value_of (value_text value) ≡ Some value
unfolding value_of
value_of-text (Int z) fits = rw (first-signed z fits) (rw (int_of-signed z fits) refl)
value_of-text (Octets bytes) good = rw (octets_of-text bytes good) refl

-- what is read as a value is written so
pub value_of-some : (word : List ℕ) (value : Value) → value_of word ≡ Some value → HasWord value × (value_text value ≡ word)
unfolding value_of
value_of-some word value h = by (slice_index word 0 == 120) refl h
  where
    by : (x : Bool) → (slice_index word 0 == 120) ≡ x → cond x (made Octets (octets_of (drop 1 word))) (made Int (int_of word)) ≡ Some value
        → HasWord value × (value_text value ≡ word)
    by true e k =
        let p = made-some Octets (octets_of (drop 1 word)) value k in
        let s = octets_of-some (drop 1 word) p.0 p.1 in
        let P : Value → Type 0 = λ v. HasWord v × (value_text v ≡ word) in
        subst P p.2 (s.0, ap (λ (rest : List ℕ). 120 ∷ rest) s.1 ∙ first-is 120 word (omega arith) e)
    by false e k =
        let p = made-some Int (int_of word) value k in
        let P : Value → Type 0 = λ v. HasWord v × (value_text v ≡ word) in
        subst P p.2 (int_of-some word p.0 p.1)

-- a word that is no value's
pub value_of-none : (word : List ℕ) → value_of word ≡ None → (value : Value) → HasWord value → value_text value ≡ word → ⊥
value_of-none word none value good e =
    let read : value_of word ≡ Some value = ap value_of (sym e) ∙ value_of-text value good in
    cc

-- the value of a word, where there is one
pub value-exact : (word : List ℕ) (found : Option Value) → found ≡ value_of word
    → MatchOption found ((value : Value) → HasWord value → value_text value ≡ word → ⊥) (λ value. HasWord value × (value_text value ≡ word))
value-exact word None e = value_of-none word (sym e)
value-exact word (Some value) e = value_of-some word value (sym e)

-- one word is not that of two values
pub value-once : (one other : Value) → HasWord one → HasWord other → value_text one ≡ value_text other → one ≡ other
value-once one other a b e =
    let first : value_of (value_text one) ≡ Some one = value_of-text one a in
    let second : value_of (value_text other) ≡ Some other = value_of-text other b in
    let same : value_of (value_text one) ≡ value_of (value_text other) = ap value_of e in
    cc

-- the values of what they are written as
pub values_of-text : (values : List Value) → AllByRecursion HasWord values → values_in_words (map value_text values) ≡ Some values
values_of-text [] good = refl
values_of-text (value ∷ values) good = rw (value_of-text value good.0) (rw (values_of-text values good.1) refl)

pub values_of-some : (words : List (List ℕ)) (values : List Value) → values_in_words words ≡ Some values
    → AllByRecursion HasWord values × (map value_text values ≡ words)
values_of-some [] values h =
    let same : [] ≡ values = cc in
    let P : List Value → Type 0 = λ made. AllByRecursion HasWord made × (map value_text made ≡ []) in
    subst P same (tt, refl)
values_of-some (word ∷ words) values h =
    let p = both-some (value_of word) (values_in_words words) (λ value rest. value ∷ rest) values h in
    let first = value_of-some word p.0 p.2 in
    let rest = values_of-some words p.1 p.3 in
    let P : List Value → Type 0 = λ made. AllByRecursion HasWord made × (map value_text made ≡ word ∷ words) in
    subst P p.4 ((first.0, rest.0), joined p.0 p.1 word words first.1 rest.1)
  where
    joined : (value : Value) (more : List Value) (word : List ℕ) (words : List (List ℕ)) → value_text value ≡ word
        → map value_text more ≡ words → value_text value ∷ map value_text more ≡ word ∷ words
    joined value more word words a b = rw b (ap (λ (first : List ℕ). first ∷ words) a)

-- the values so far, and those that are left
abbrev pub behind : List Value → Option (List Value) → Option (List Value)
behind front rest = made (λ (values : List Value). front ++ values) rest
