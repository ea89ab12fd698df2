-- How a line falls into words.
use Rattle.std.proofs.Common.{suc, ◌<◌, ◌+◌, ◌≡◌, ℕ, ◌≤◌, ◌==◌, nat_lt, Bool, true, false, cond, not, List, [], ◌∷◌, length}
use Rattle.std.proofs.Common.{take, position}
use Rattle.std.proofs.Common.{None, Some, refl, sym, ap, ◌∙◌, arith}
use Rattle.std.specs.List.{slice_split, onto_first, position_or_len, before_first, All, AllByRecursion}
use Rattle.std.proofs.lemmas.Bool.{ltb-false}
use Rattle.std.proofs.lemmas.Option.{cond_some}
use Rattle.std.proofs.lemmas.List.{take_all}
use Rattle.std.proofs.lemmas.List.Splits.{slice_split_none, slice_split_at}
use Rattle.std.proofs.lemmas.List.Splits.{join_with_byte-slice_split}
use Rattle.rows.specs.Text.{words_text}

-- where nothing parts a list, it is the one part
pub one-part : (parts : ℕ → Bool) (xs : List ℕ) → length xs ≤ position_or_len parts xs → slice_split parts xs ≡ xs ∷ []
one-part parts [] none = refl
one-part parts (x ∷ xs) none = by_first (parts x) (one-part parts xs) none
  where
    by_first : (found : Bool) → (length xs ≤ position_or_len parts xs → slice_split parts xs ≡ xs ∷ [])
        → length (x ∷ xs) ≤ cond (not found) (1 + position_or_len parts xs) 0
        → cond found ([] ∷ slice_split parts xs) (onto_first x (slice_split parts xs)) ≡ (x ∷ xs) ∷ []
    by_first true behind none = absurd (omega arith)
    by_first false behind none = ap (onto_first x) (behind (omega arith))

pub not_found : (found : Bool) (at : ℕ) → None ≡ cond found (Some at) None → found ≡ false
not_found true at is = cc
not_found false at is = refl

abbrev pub parts_words : ℕ → Bool
parts_words byte = byte == 32

-- a word has no space
abbrev pub IsPlain : List ℕ → Type 0
IsPlain word = All (λ byte. parts_words byte ≡ false) word

-- a line of words without spaces falls into these words again
pub split-words : (words : List (List ℕ)) → 0 < length words → AllByRecursion IsPlain words
    → slice_split parts_words (words_text words) ≡ words
split-words [] some plain = absurd (omega arith)
split-words (word ∷ []) some plain = slice_split_none parts_words word plain.0
split-words (word ∷ next ∷ words) some plain =
    slice_split_at parts_words word 32 (words_text (next ∷ words)) plain.0 refl
    ∙ ap (λ (rest : List (List ℕ)). word ∷ rest) (split-words (next ∷ words) (omega arith) plain.1)

-- the words into which a line falls are these, where it is their line
pub words-of-line : (line : List ℕ) (words others : List (List ℕ)) → words ≡ slice_split parts_words line → 0 < length others
    → AllByRecursion IsPlain others → words_text others ≡ line → words ≡ others
words-of-line line words others split some plain is = split ∙ ap (slice_split parts_words) (sym is) ∙ split-words others some plain

-- and a line is that of the words into which it falls
pub line-of-words : (line : List ℕ) (words others : List (List ℕ)) → words ≡ slice_split parts_words line → words ≡ others
    → words_text others ≡ line
line-of-words line words others split is = ap words_text (sym is ∙ split) ∙ join_with_byte-slice_split 32 line

-- the first word of a line ends at its first space, or where the line does
pub first-word-at : (line : List ℕ) (end : ℕ) → Some end ≡ position parts_words line → take end line ≡ before_first parts_words line
first-word-at line end is =
    let found = cond_some (nat_lt (position_or_len parts_words line) (length line)) (position_or_len parts_words line) end (sym is) in
    ap (λ (at : ℕ). take at line) (sym found.1)

pub first-word-all : (line : List ℕ) → None ≡ position parts_words line → line ≡ before_first parts_words line
first-word-all line is =
    sym (take_all (position_or_len parts_words line) line (ltb-false _ _ (not_found _ (position_or_len parts_words line) is)))

-- the first part of a line is its first word
pub split-first : (line : List ℕ)
    → (rest : List (List ℕ)) × (slice_split parts_words line ≡ before_first parts_words line ∷ rest)
split-first [] = ([], refl)
split-first (byte ∷ line) = by (parts_words byte) refl (split-first line)
  where
    by : (is : Bool) → (parts_words byte) ≡ is
        → (rest : List (List ℕ)) × (slice_split parts_words line ≡ before_first parts_words line ∷ rest)
        → (rest : List (List ℕ)) × (cond is ([] ∷ slice_split parts_words line) (onto_first byte (slice_split parts_words line))
        ≡ take (cond (not is) (1 + position_or_len parts_words line) 0) (byte ∷ line) ∷ rest)
    by true e p = (slice_split parts_words line, refl)
    by false e p =
        let count = position_or_len parts_words line in
        let one : suc count ≡ 1 + count = omega arith in (
          p.0,
          ap (λ (parts : List (List ℕ)). onto_first byte parts) p.1
              ∙ ap (λ (n : ℕ). take n (byte ∷ line) ∷ p.0) one,
        )

-- the words of a line
abbrev pub line_words : List ℕ → List (List ℕ)
line_words line = slice_split (λ byte. byte == 32) line
