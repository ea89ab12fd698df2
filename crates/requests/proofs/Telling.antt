-- Lines of answers, told one after the other.
use Rattle.std.proofs.Common.{◌≡◌, ap, sym, ◌∙◌, arith, ℕ, suc, ◌+◌, ◌<◌, List, [], ◌∷◌, ◌++◌, length, take, get_or}
use Rattle.std.proofs.lemmas.List.{append-nil, append_assoc, length-take-le}
use Rattle.std.proofs.Math.Seq.{take-suc}
use Rattle.std.proofs.Math.Numerals.{suc-eq-add-one}
use Rattle.sockets.specs.declared.job_answer.JobAnswer.{JobAnswer}
use Rattle.requests.specs.AnswerLines.{answer_line, numbered_lines}

-- one line more, behind those of numbers that count from one on
pub numbered-more : (first : ℕ) (answers : List JobAnswer) (answer : JobAnswer)
    → numbered_lines first (answers ++ answer ∷ []) ≡ numbered_lines first answers ++ answer_line (first + length answers) answer
numbered-more first [] answer =
    append-nil (answer_line first answer)
    ∙ (let same : first ≡ first + 0 = omega arith in ap (λ n. answer_line n answer) same)
numbered-more first (one ∷ answers) answer =
    ap (λ rest. answer_line first one ++ rest)
    (numbered-more (first + 1) answers answer
    ∙ (let behind : first + 1 + length answers ≡ first + suc (length answers) = omega arith in
    ap (λ n. numbered_lines (first + 1) answers ++ answer_line n answer) behind))
    ∙ sym (append_assoc (answer_line first one) (numbered_lines (first + 1) answers) (answer_line (first + suc (length answers)) answer))

pub numbered-next : (answers : List JobAnswer) (i : ℕ) (d : JobAnswer) → i < length answers
    → numbered_lines 0 (take (i + 1) answers) ≡ numbered_lines 0 (take i answers) ++ answer_line i (get_or answers i d)
numbered-next answers i d lt =
    let answer = get_or answers i d in
    let more : take (i + 1) answers ≡ take i answers ++ answer ∷ [] =
    ap (λ n. take n answers) (sym (suc-eq-add-one i)) ∙ take-suc answers i d lt in
    let long = length-take-le i answers (omega (arith, lt)) in
    let number : 0 + length (take i answers) ≡ i = omega (arith, long) in
    ap (numbered_lines 0) more
    ∙ (numbered-more 0 (take i answers) answer ∙ ap (λ n. numbered_lines 0 (take i answers) ++ answer_line n answer) number)
