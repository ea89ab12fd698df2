-- How a text falls into lines.
use Rattle.std.proofs.Common.{◌<◌, ◌+◌, ◌-◌, ◌≡◌, ℕ, ◌==◌, nat_lt, Bool, List, [], ◌∷◌, length}
use Rattle.std.proofs.Common.{take, drop, position}
use Rattle.std.proofs.Common.{None, Some, refl, sym, ap, ◌∙◌, arith}
use Rattle.std.specs.List.{slice_split, position_or_len, before_first, after_first}
use Rattle.std.proofs.lemmas.Bool.{ltb-true, ltb-false}
use Rattle.std.proofs.lemmas.Option.{cond_some}
use Rattle.std.proofs.lemmas.List.{take_rest}
use Rattle.std.proofs.lemmas.List.Splits.{slice_split_first, length-slice_split}
use Rattle.script.proofs.WordSplitting.{one-part, not_found}
use Rattle.script.specs.Scripts.{lines_of, without_empty_end}

abbrev ends_line : ℕ → Bool
ends_line byte = byte == 10

-- a line that others follow stands before them
behind : (line : List ℕ) (parts : List (List ℕ)) → 0 < length parts → without_empty_end (line ∷ parts) ≡ line ∷ without_empty_end parts
behind line [] some = absurd (omega arith)
behind [] (part ∷ parts) some = refl
behind (byte ∷ line) (part ∷ parts) some = refl

first-line : (text : List ℕ) → position_or_len ends_line text < length text
    → lines_of text ≡ before_first ends_line text ∷ lines_of (after_first ends_line text)
first-line text found =
    ap without_empty_end (slice_split_first ends_line text 0 found)
    ∙ behind (before_first ends_line text) (slice_split ends_line (after_first ends_line text))
    (omega (arith, length-slice_split ends_line (after_first ends_line text)))

-- a text with an end of a line: what stands before it is its first line, and what stands behind it has the others
pub first-line-at : (text : List ℕ) (end : ℕ) → Some end ≡ position ends_line text
    → lines_of text ≡ take end text ∷ lines_of (take (length text - (end + 1)) (drop (end + 1) text))
first-line-at text end is =
    let found = cond_some (nat_lt (position_or_len ends_line text) (length text)) (position_or_len ends_line text) end (sym is) in
    first-line text (ltb-true _ _ found.0)
    ∙ ap (λ (at : ℕ). take at text ∷ lines_of (drop (at + 1) text)) found.1
    ∙ ap (λ (rest : List ℕ). take end text ∷ lines_of rest) (sym (take_rest text (end + 1)))

-- a text without an end of a line is one line
pub last-line-at : (text : List ℕ) → 0 < length text → None ≡ position ends_line text → lines_of text ≡ text ∷ []
last-line-at [] some is = absurd (omega arith)
last-line-at (byte ∷ bytes) some is =
    ap without_empty_end (one-part ends_line (byte ∷ bytes) (ltb-false _ _ (not_found _ (position_or_len ends_line (byte ∷ bytes)) is)))
