-- Words without spaces: numbers and names. Each number has one.
use Rattle.std.proofs.Common.{◌<◌, ◌≡◌, ℕ, zero, suc, ◌^◌, ◌≤◌, ◌==◌, nat_le, not, true, false, List, [], ◌∷◌, decimal}
use Rattle.std.proofs.Common.{sym, ap, ◌∙◌, arith}
use Rattle.std.specs.List.{list_all}
use Rattle.std.specs.Str.{IsAscii, IsUtf8}
use Rattle.std.specs.Str.Parse.{AllDigits, digits_value}
use Rattle.std.proofs.lemmas.Bool.{and_parts, leb-true, ne_eqb, not-true}
use Rattle.std.proofs.lemmas.Bool.Decides.{nat_tests}
use Rattle.std.proofs.lemmas.List.Elements.{All-nil, All-cons}
use Rattle.std.proofs.lemmas.Fmt.{decimal_is_IsNumeral}
use Rattle.std.proofs.lemmas.Str.{IsUtf8-from_ascii}
use Rattle.std.proofs.lemmas.Str.Parse.{digit_from_value}
use Rattle.script.specs.Text.{is_name, is_letter, is_name_byte}
use Rattle.script.proofs.WordSplitting.{IsPlain}

abbrev pub IsNoSpace : ℕ → Type 0
IsNoSpace byte = (byte == 32) ≡ false

-- a word that is written out
pub plain-by-test : (word : List ℕ) → list_all (λ byte. not (byte == 32)) word ≡ true → IsPlain word
plain-by-test [] are = All-nil IsNoSpace
plain-by-test (byte ∷ word) are =
    let both = and_parts (not (byte == 32)) (list_all (λ byte. not (byte == 32)) word) are in
    All-cons IsNoSpace byte word (not-true (byte == 32) both.0) (plain-by-test word both.1)

digits-plain : (digits : List ℕ) → AllDigits 10 digits → IsPlain digits
digits-plain [] are = All-nil IsNoSpace
digits-plain (digit ∷ digits) are =
    let within = digit_from_value digit are.0 in
    All-cons IsNoSpace digit digits (ne_eqb digit 32 (λ same. omega arith)) (digits-plain digits are.1)

pub decimal-plain : (number : ℕ) → number < 2 ^ 64 → IsPlain (decimal number)
decimal-plain number small = digits-plain (decimal number) (decimal_is_IsNumeral number small).0.1

-- numbers with one text are one
pub decimal-same : (a b : ℕ) → a < 2 ^ 64 → b < 2 ^ 64 → decimal a ≡ decimal b → a ≡ b
decimal-same a b a_small b_small same =
    sym (decimal_is_IsNumeral a a_small).1 ∙ ap (digits_value 10) same ∙ (decimal_is_IsNumeral b b_small).1

letter-no-space : (byte : ℕ) → is_letter byte ≡ true → IsNoSpace byte
letter-no-space byte is =
    let low : 97 ≤ byte = leb-true 97 byte (and_parts (nat_le 97 byte) (nat_le byte 122) is).0 in
    ne_eqb byte 32 (λ same. omega arith)

name-byte-no-space : (byte : ℕ) → is_name_byte byte ≡ true → IsNoSpace byte
name-byte-no-space byte is = grind (arith, nat_tests)

name-rest-plain : (rest : List ℕ) → list_all is_name_byte rest ≡ true → IsPlain rest
name-rest-plain [] are = All-nil IsNoSpace
name-rest-plain (byte ∷ rest) are =
    let both = and_parts (is_name_byte byte) (list_all is_name_byte rest) are in
    All-cons IsNoSpace byte rest (name-byte-no-space byte both.0) (name-rest-plain rest both.1)

pub name-plain : (name : List ℕ) → is_name name ≡ true → IsPlain name
name-plain [] is = cc
name-plain (first ∷ rest) is =
    let both = and_parts _ (list_all is_name_byte rest) is in
    All-cons IsNoSpace first rest (letter-no-space first (and_parts (is_letter first) _ both.0).0) (name-rest-plain rest both.1)

ascii-cons : (byte : ℕ) (bytes : List ℕ) → byte < 128 → IsAscii bytes → IsAscii (byte ∷ bytes)
ascii-cons byte bytes low are zero = low
ascii-cons byte bytes low are (suc i) = are i

name-rest-ascii : (rest : List ℕ) → list_all is_name_byte rest ≡ true → IsAscii rest
name-rest-ascii [] are = λ i. omega arith
name-rest-ascii (byte ∷ rest) are =
    let both = and_parts (is_name_byte byte) (list_all is_name_byte rest) are in
    ascii-cons byte rest (low byte both.0) (name-rest-ascii rest both.1)
  where
    low : (byte : ℕ) → is_name_byte byte ≡ true → byte < 128
    low byte is = grind (arith, nat_tests)

-- a name is text
pub name-text : (name : List ℕ) → is_name name ≡ true → IsUtf8 name
name-text [] is = cc
name-text (first ∷ rest) is =
    let both = and_parts _ (list_all is_name_byte rest) is in
    let letter = and_parts (is_letter first) _ both.0 in
    let high : first ≤ 122 = leb-true first 122 (and_parts (nat_le 97 first) (nat_le first 122) letter.0).1 in
    IsUtf8-from_ascii (first ∷ rest) (ascii-cons first rest (omega arith) (name-rest-ascii rest both.1))
