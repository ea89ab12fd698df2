-- Texts that are made piece by piece.
use Rattle.std.proofs.Common.{◌≡◌, ℕ, ◌+◌, ◌<◌, List, [], ◌∷◌, ◌++◌, length, map, take, get_or, refl, sym, ap, ◌∙◌, arith}
use Rattle.std.proofs.Common.{append_assoc}
use Rattle.std.proofs.lemmas.List.{append-nil, length-map, length-take-le, map_more}
use Rattle.rows.specs.Text.{words_text}
use Rattle.queries.specs.declared.field.Field.{Field}
use Rattle.queries.specs.Report.{field_text}

-- words with one more behind them
join-push : (words : List (List ℕ)) (first word : List ℕ)
    → words_text ((first ∷ words) ++ word ∷ []) ≡ words_text (first ∷ words) ++ (32 ∷ word)
join-push [] first word = refl
join-push (next ∷ words) first word =
    ap (λ rest. first ++ (32 ∷ rest)) (join-push words next word)
    ∙ sym (append_assoc first (32 ∷ words_text (next ∷ words)) (32 ∷ word))

join-behind : (words : List (List ℕ)) (word : List ℕ) → 0 < length words
    → words_text (words ++ word ∷ []) ≡ words_text words ++ (32 ∷ word)
join-behind [] word some = absurd (omega arith)
join-behind (first ∷ words) word some = join-push words first word

abbrev fields_text : List Field → List ℕ
fields_text fields = words_text (map field_text fields)

-- a text with the first field
pub text-first : (fields : List Field) (i : ℕ) (d : Field) (before text after : List ℕ) → i ≡ 0 → i < length fields
    → text ≡ before ++ fields_text (take i fields) → after ≡ text ++ field_text (get_or fields i d)
    → after ≡ before ++ fields_text (take (i + 1) fields)
text-first fields i d before text after first lt is adds =
    let one : fields_text (take (i + 1) fields) ≡ field_text (get_or fields i d) =
    ap words_text (map_more field_text fields i d lt)
    ∙ ap (λ i. words_text (map field_text (take i fields) ++ field_text (get_or fields i d) ∷ [])) first
    ∙ ap (λ i. field_text (get_or fields i d)) (sym first) in
    let none : text ≡ before = is ∙ ap (λ i. before ++ fields_text (take i fields)) first ∙ append-nil before in
    adds ∙ (λ j. none j ++ sym one j)

-- a text with one field more, behind a space
pub text-behind : (fields : List Field) (i : ℕ) (d : Field) (before text spaced after : List ℕ) → 0 < i → i < length fields
    → text ≡ before ++ fields_text (take i fields) → spaced ≡ text ++ 32 ∷ [] → after ≡ spaced ++ field_text (get_or fields i d)
    → after ≡ before ++ fields_text (take (i + 1) fields)
text-behind fields i d before text spaced after some lt is spaces adds =
    let word = field_text (get_or fields i d) in
    let words = map field_text (take i fields) in
    let there : 0 < length words =
    omega (arith, length-map (take i fields) field_text, length-take-le i fields (omega arith)) in
    let more : fields_text (take (i + 1) fields) ≡ fields_text (take i fields) ++ (32 ∷ word) =
    ap words_text (map_more field_text fields i d lt) ∙ join-behind words word there in
    adds
    ∙ ap (λ spaced. spaced ++ word) (spaces ∙ ap (λ text. text ++ 32 ∷ []) is)
    ∙ append_assoc (before ++ fields_text (take i fields)) (32 ∷ []) word
    ∙ append_assoc before (fields_text (take i fields)) (32 ∷ word)
    ∙ ap (λ line. before ++ line) (sym more)
