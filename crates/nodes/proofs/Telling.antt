-- Lines of answers, told one after the other.
use Rattle.std.proofs.Common.{◌≡◌, refl, ap, sym, ◌∙◌, arith, ℕ, ◌+◌, ◌<◌, ◌≤◌, List, [], ◌∷◌, ◌++◌, length, take, get_or}
use Rattle.std.specs.Prelude.{map}
use Rattle.std.proofs.lemmas.List.{append-nil, append_assoc, length-take-le, length-map, map-append, take_all, take-map}
use Rattle.std.proofs.Math.Seq.{take-suc}
use Rattle.std.proofs.Math.Numerals.{suc-eq-add-one}
use Rattle.sockets.specs.declared.job_answer.JobAnswer.{JobAnswer}
use Rattle.nodes.specs.declared.waiting.Place.{Place}
use Rattle.requests.specs.AnswerLines.{answer_line}
use Rattle.nodes.specs.Lines.{answer_lines, number_of}

-- one line more, behind those of as many numbers as answers
pub lines-more : (numbers : List ℕ) (answers : List JobAnswer) (number : ℕ) (answer : JobAnswer) → length numbers ≡ length answers
    → answer_lines (numbers ++ number ∷ []) (answers ++ answer ∷ []) ≡ answer_lines numbers answers ++ answer_line number answer
lines-more [] [] number answer is = append-nil (answer_line number answer)
lines-more [] (first ∷ answers) number answer is = absurd (omega (arith, is))
lines-more (one ∷ numbers) [] number answer is = absurd (omega (arith, is))
lines-more (one ∷ numbers) (first ∷ answers) number answer is =
    ap (λ rest. answer_line one first ++ rest) (lines-more numbers answers number answer (omega (arith, is)))
    ∙ sym (append_assoc (answer_line one first) (answer_lines numbers answers) (answer_line number answer))

-- numbers past the answers tell nothing
pub lines-taken : (numbers : List ℕ) (answers : List JobAnswer)
    → answer_lines (take (length answers) numbers) answers ≡ answer_lines numbers answers
lines-taken numbers [] = refl
lines-taken [] (first ∷ answers) = refl
lines-taken (one ∷ numbers) (first ∷ answers) = ap (λ rest. answer_line one first ++ rest) (lines-taken numbers answers)

-- the line of the place and the answer at an index, behind those before it
pub told-next : (places : List Place) (answers : List JobAnswer) (i : ℕ) (p : Place) (d : JobAnswer)
    → i < length answers → i < length places
    → answer_lines (map number_of (take (i + 1) places)) (take (i + 1) answers)
    ≡ answer_lines (map number_of (take i places)) (take i answers) ++ answer_line (get_or places i p).number (get_or answers i d)
told-next places answers i p d lt lt' =
    let place = get_or places i p in
    let answer = get_or answers i d in
    let more-places : take (i + 1) places ≡ take i places ++ place ∷ [] =
    ap (λ n. take n places) (sym (suc-eq-add-one i)) ∙ take-suc places i p lt' in
    let more-answers : take (i + 1) answers ≡ take i answers ++ answer ∷ [] =
    ap (λ n. take n answers) (sym (suc-eq-add-one i)) ∙ take-suc answers i d lt in
    let as-long : length (map number_of (take i places)) ≡ length (take i answers) =
    length-map (take i places) number_of
    ∙ (length-take-le i places (omega (arith, lt')) ∙ sym (length-take-le i answers (omega (arith, lt)))) in
    ap (λ ps. answer_lines (map number_of ps) (take (i + 1) answers)) more-places
    ∙ (ap (answer_lines (map number_of (take i places ++ place ∷ []))) more-answers
    ∙ (ap (λ ns. answer_lines ns (take i answers ++ answer ∷ [])) (map-append number_of (take i places) (place ∷ []))
    ∙ lines-more (map number_of (take i places)) (take i answers) place.number answer as-long))

-- the lines of all answers are those of as many places
pub told-all : (places : List Place) (answers : List JobAnswer) (i : ℕ) → length answers ≤ i → i ≤ length answers
    → answer_lines (map number_of (take i places)) (take i answers) ≡ answer_lines (map number_of places) answers
told-all places answers i le ge =
    let long : i ≡ length answers = omega (arith, le, ge) in
    ap (answer_lines (map number_of (take i places))) (take_all i answers le)
    ∙ (ap (λ n. answer_lines (map number_of (take n places)) answers) long
    ∙ (ap (λ ns. answer_lines ns answers) (sym (take-map number_of (length answers) places))
    ∙ lines-taken (map number_of places) answers))
