-- The parts of a report, in the order in which they are read.
use Rattle.std.proofs.Common.{◌≡◌, ℕ, suc, ◌+◌, ◌-◌, ◌<◌, ◌≤◌, List, [], ◌∷◌, ◌++◌, length, take, drop, get_or, map, codes, decimal}
use Rattle.std.proofs.Common.{sym, ap, ◌∙◌, arith}
use Rattle.std.proofs.lemmas.List.{append_assoc, length-append, length-take-le, append-nil, drop_all}
use Rattle.std.proofs.Math.Seq.{drop-cons, take-suc, take-append_seam, drop-append_seam}
use Rattle.rows.specs.Text.{words_text}
use Rattle.queries.specs.declared.field.Field.{Field}
use Rattle.queries.specs.Report.{field_text, query_text, queries_text, report_text}
use Rattle.reports.specs.Inner.Pieces.{fields_line, lines_text, query_head}

-- the first lines, as they are read
pub report-form : (version : ℕ) (answers : List (List (List Field)))
    → report_text version answers
    ≡ codes "version " ++ (decimal version ++ 32 ∷ (codes "queries " ++ (decimal (length answers) ++ 10 ∷ queries_text 0 answers)))
report-form version answers = simp append_assoc

pub query-form : (index : ℕ) (lines : List (List Field)) (back : List ℕ)
    → query_text index lines ++ back
    ≡ codes "query " ++ (decimal index ++ 32 ∷ (codes "rows " ++ (decimal (length lines) ++ 10 ∷ (lines_text lines ++ back))))
query-form index lines back = simp append_assoc

-- no more queries and lines than bytes
pub queries-within : (first : ℕ) (answers : List (List (List Field))) → length answers ≤ length (queries_text first answers)
queries-within first [] = omega arith
queries-within first (answer ∷ answers) =
    let rest = queries-within (first + 1) answers in
    let long = length-append (query_text first answer) (queries_text (first + 1) answers) in
    let some : 0 < length (query_text first answer) = omega arith in
    omega arith

pub lines-within : (lines : List (List Field)) → length lines ≤ length (lines_text lines)
lines-within [] = omega arith
lines-within (fields ∷ lines) =
    let rest = lines-within lines in
    let long = length-append (fields_line fields) (lines_text lines) in
    let line = length-append (words_text (map field_text fields)) (10 ∷ []) in
    omega arith

pub report-within : (version : ℕ) (answers : List (List (List Field))) (report : List ℕ) → report ≡ report_text version answers
    → length answers ≤ length report
report-within version answers report is =
    let some = queries-within 0 answers in
    let whole = ap length is in
    omega (arith, simp length-append at whole)

pub query-within : (index : ℕ) (lines : List (List Field)) (back text : List ℕ) → text ≡ query_text index lines ++ back
    → length lines ≤ length text
query-within index lines back text is =
    let some = lines-within lines in
    let whole = ap length is in
    omega (arith, simp length-append at whole)

-- what is left begins with the next line, and with the next query
pub lines-left : (lines : List (List Field)) (i : ℕ) → i < length lines
    → lines_text (drop i lines) ≡ words_text (map field_text (get_or lines i [])) ++ 10 ∷ lines_text (drop (i + 1) lines)
lines-left lines i lt =
    let next : drop i lines ≡ get_or lines i [] ∷ drop (i + 1) lines =
    drop-cons lines i [] lt ∙ (let one : suc i ≡ i + 1 = omega arith in ap (λ (n : ℕ). get_or lines i [] ∷ drop n lines) one) in
    ap lines_text next ∙ append_assoc (words_text (map field_text (get_or lines i []))) (10 ∷ []) (lines_text (drop (i + 1) lines))

pub lines-next : (lines : List (List Field)) (back : List ℕ) (i : ℕ) → i < length lines
    → lines_text (drop i lines) ++ back
    ≡ words_text (map field_text (get_or lines i [])) ++ 10 ∷ (lines_text (drop (i + 1) lines) ++ back)
lines-next lines back i lt =
    ap (λ (rest : List ℕ). rest ++ back) (lines-left lines i lt)
    ∙ append_assoc (words_text (map field_text (get_or lines i []))) (10 ∷ lines_text (drop (i + 1) lines)) back

pub queries-next : (first : ℕ) (answers : List (List (List Field))) (i : ℕ) → i < length answers
    → queries_text (first + i) (drop i answers)
    ≡ query_text (first + i) (get_or answers i []) ++ queries_text (first + (i + 1)) (drop (i + 1) answers)
queries-next first answers i lt =
    let next : drop i answers ≡ get_or answers i [] ∷ drop (i + 1) answers =
    drop-cons answers i [] lt
    ∙ (let one : suc i ≡ i + 1 = omega arith in ap (λ (k : ℕ). get_or answers i [] ∷ drop k answers) one) in
    ap (queries_text (first + i)) next
    ∙ (let number : first + i + 1 ≡ first + (i + 1) = omega arith in
    ap (λ (n : ℕ). query_text (first + i) (get_or answers i []) ++ queries_text n (drop (i + 1) answers)) number)

-- behind all lines
pub lines-end : (lines : List (List Field)) (back rest : List ℕ) (i count : ℕ) → length lines ≡ count → count ≤ i
    → rest ≡ lines_text (drop i lines) ++ back → rest ≡ back
lines-end lines back rest i count long over is =
    is ∙ ap (λ (left : List (List Field)). lines_text left ++ back) (drop_all i lines (omega arith))

-- lines and what is behind them, where the text is split by the length of that
pub lines-split : (lines back text rest : List ℕ) (mid : ℕ) → text ≡ lines ++ back → rest ≡ back → mid ≡ length text - length rest
    → (take mid text ≡ lines) × (drop mid text ≡ back)
lines-split lines back text rest mid is left middle =
    let whole = ap length is ∙ length-append lines back in
    let behind = ap length left in
    let at : mid ≡ length lines = omega arith in (
      ap (λ (n : ℕ). take n text) at ∙ ap (take (length lines)) is ∙ take-append_seam lines back,
      ap (λ (n : ℕ). drop n text) at ∙ ap (drop (length lines)) is ∙ drop-append_seam lines back,
    )

-- one query more, behind those of numbers that count from the first on
queries-push : (first : ℕ) (answers : List (List (List Field))) (answer : List (List Field))
    → queries_text first (answers ++ answer ∷ []) ≡ queries_text first answers ++ query_text (first + length answers) answer
queries-push first [] answer =
    append-nil (query_text first answer)
    ∙ (let same : first ≡ first + 0 = omega arith in ap (λ (n : ℕ). query_text n answer) same)
queries-push first (one ∷ answers) answer =
    ap (λ (rest : List ℕ). query_text first one ++ rest)
    (queries-push (first + 1) answers answer
    ∙ (let behind : first + 1 + length answers ≡ first + suc (length answers) = omega arith in
    ap (λ (n : ℕ). queries_text (first + 1) answers ++ query_text n answer) behind))
    ∙ sym (append_assoc (query_text first one) (queries_text (first + 1) answers) (query_text (first + suc (length answers)) answer))

pub queries-more : (answers : List (List (List Field))) (i : ℕ) → i < length answers
    → queries_text 0 (take (i + 1) answers) ≡ queries_text 0 (take i answers) ++ query_text i (get_or answers i [])
queries-more answers i lt =
    let answer = get_or answers i [] in
    let more : take (i + 1) answers ≡ take i answers ++ answer ∷ [] =
    (let one : i + 1 ≡ suc i = omega arith in ap (λ (n : ℕ). take n answers) one) ∙ take-suc answers i [] lt in
    let long = length-take-le i answers (omega (arith, lt)) in
    let number : 0 + length (take i answers) ≡ i = omega (arith, long) in
    ap (queries_text 0) more
    ∙ (queries-push 0 (take i answers) answer ∙ ap (λ (n : ℕ). queries_text 0 (take i answers) ++ query_text n answer) number)

-- a text with the part of one query more
pub queries-written : (answers : List (List (List Field))) (i count : ℕ) (before text after lines : List ℕ) → i < length answers
    → text ≡ before ++ queries_text 0 (take i answers) → count ≡ length (get_or answers i []) → lines ≡ lines_text (get_or answers i [])
    → after ≡ text ++ (query_head i count ++ lines) → after ≡ before ++ queries_text 0 (take (i + 1) answers)
queries-written answers i count before text after lines lt is long are adds =
    adds
    ∙ ap (λ (n : ℕ). text ++ (query_head i n ++ lines)) long
    ∙ ap (λ (body : List ℕ). text ++ (query_head i (length (get_or answers i [])) ++ body)) are
    ∙ ap (λ (front : List ℕ). front ++ query_text i (get_or answers i [])) is
    ∙ append_assoc before (queries_text 0 (take i answers)) (query_text i (get_or answers i []))
    ∙ ap (λ (parts : List ℕ). before ++ parts) (sym (queries-more answers i lt))
