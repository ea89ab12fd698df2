-- Words that are lent, by their places.
use Rattle.std.proofs.Common.{◌≡◌, ℕ, ◌-◌, ◌≤◌, List, [], ◌∷◌, length, get_or, take, drop, refl, ap, ◌∙◌, sym, codes, arith, Bor}
use Rattle.std.proofs.lemmas.List.{take_all, length-map}
use Rattle.script.specs.Inner.SettingWords.{texts}

-- two words
pub pair-of : (words : List (Bor (List ℕ))) (d : Bor (List ℕ)) → length words ≡ 2
    → texts words ≡ (get_or words 0 d).now ∷ (get_or words 1 d).now ∷ []
pair-of [] d two = absurd (omega arith)
pair-of (first ∷ []) d two = absurd (omega arith)
pair-of (first ∷ second ∷ []) d two = refl
pair-of (first ∷ second ∷ third ∷ words) d two = absurd (omega arith)

-- two words at least
pub front-of : (words : List (Bor (List ℕ))) (d : Bor (List ℕ)) → 2 ≤ length words
    → texts words ≡ (get_or words 0 d).now ∷ (get_or words 1 d).now ∷ texts (take (length words - 2) (drop 2 words))
front-of [] d some = absurd (omega arith)
front-of (first ∷ []) d some = absurd (omega arith)
front-of (first ∷ second ∷ words) d some =
    ap (λ (rest : List (Bor (List ℕ))). first.now ∷ second.now ∷ texts rest)
    (sym (take_all (length (first ∷ second ∷ words) - 2) words (omega arith)))

pub not-two : (words : List (Bor (List ℕ))) (name word : List ℕ) → ¬ (length words ≡ 2) → texts words ≡ name ∷ word ∷ [] → ⊥
not-two words name word differs same = differs (sym (length-map words (λ word. word.now)) ∙ ap length same)

pub other-name : (words : List (Bor (List ℕ))) (d : Bor (List ℕ)) (name word : List ℕ) → ¬ ((get_or words 0 d).now ≡ name)
    → texts words ≡ name ∷ word ∷ [] → ⊥
other-name [] d name word differs same = cc
other-name (first ∷ words) d name word differs same = differs (let is : first.now ≡ name = cc in is)

-- words that begin with that of a table
pub table-of : (words : List (Bor (List ℕ))) (d : Bor (List ℕ)) (name bytes : List ℕ) → 2 ≤ length words → (get_or words 0 d).now ≡ bytes
    → bytes ≡ codes "table" → name ≡ (get_or words 1 d).now
    → texts words ≡ codes "table" ∷ name ∷ texts (take (length words - 2) (drop 2 words))
table-of words d name bytes some first table second =
    let rest : List (List ℕ) = texts (take (length words - 2) (drop 2 words)) in
    front-of words d some ∙ ap (λ (word : List ℕ). word ∷ (get_or words 1 d).now ∷ rest) (first ∙ table)
    ∙ ap (λ (word : List ℕ). codes "table" ∷ word ∷ rest) (sym second)
