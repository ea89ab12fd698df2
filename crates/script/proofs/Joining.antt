-- Words one behind the other, piece by piece.
use Rattle.std.proofs.Common.{◌≡◌, ℕ, ◌+◌, ◌<◌, List, [], ◌∷◌, ◌++◌, length, map, take, get_or, sym, ap, ◌∙◌, append_assoc}
use Rattle.std.proofs.Common.{append-nil}
use Rattle.std.proofs.lemmas.List.{map-append, take_more}
use Rattle.std.proofs.lemmas.List.Concat.{flat_map-append}
use Rattle.rows.specs.Text.{words_text}
use Rattle.script.specs.Inner.Lines.{tail_text}

-- the words behind the first stand each behind a space
pub words-text : (first : List ℕ) (words : List (List ℕ)) → words_text (first ∷ words) ≡ first ++ tail_text words
words-text first [] = sym (append-nil first)
words-text first (word ∷ words) = ap (λ (rest : List ℕ). first ++ (32 ∷ rest)) (words-text word words)

-- words, and more behind them
pub words-more : (first : List ℕ) (words more : List (List ℕ)) → words_text (first ∷ words) ++ tail_text more
    ≡ words_text (first ∷ (words ++ more))
words-more first words more =
    ap (λ (text : List ℕ). text ++ tail_text more) (words-text first words) ∙ append_assoc first (tail_text words) (tail_text more)
    ∙ ap (λ (rest : List ℕ). first ++ rest) (sym (flat_map-append (λ (word : List ℕ). 32 ∷ word) words more))
    ∙ sym (words-text first (words ++ more))

-- one word more stands behind a space
pub tail-more : {A : Type 0} (word : A → List ℕ) (text before : List ℕ) (items : List A) (at : ℕ) (d : A) → at < length items
    → before ≡ text ++ tail_text (map word (take at items))
    → (before ++ 32 ∷ []) ++ word (get_or items at d) ≡ text ++ tail_text (map word (take (at + 1) items))
tail-more {A} word text before items at d within so_far =
    let last = word (get_or items at d) in
    let front = map word (take at items) in
    append_assoc before (32 ∷ []) last ∙ ap (λ (l : List ℕ). l ++ 32 ∷ last) so_far
    ∙ ap (λ (l : List ℕ). (text ++ tail_text front) ++ 32 ∷ l) (sym (append-nil last))
    ∙ append_assoc text (tail_text front) (tail_text (last ∷ []))
    ∙ ap (λ (l : List ℕ). text ++ l) (sym (flat_map-append (λ (word : List ℕ). 32 ∷ word) front (last ∷ [])))
    ∙ ap (λ (words : List (List ℕ)). text ++ tail_text words) (sym (map-append word (take at items) (get_or items at d ∷ [])))
    ∙ ap (λ (all : List A). text ++ tail_text (map word all)) (sym (take_more items at d within))
