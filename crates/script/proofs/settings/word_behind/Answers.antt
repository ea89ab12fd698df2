-- The words are two, of which the first is the name.
use Rattle.std.proofs.Common.{ℕ, List, [], ◌∷◌, get_or, Bor, ap, ◌∙◌, arith}
use Rattle.std.proofs.lemmas.Bool.{both_ways}
use Rattle.std.proofs.lemmas.Bool.Decides.{Decides-eqb}
use Rattle.std.proofs.lemmas.Slice.Eq.{slice_eq-Decides}
use Rattle.script.proofs.LentWords.{pair-of, not-two, other-name}
use Rattle.script.proofs.settings.word_behind.Goals as goal

pub returns-then-words-ne2 : goal.returns-then-words-ne2
returns-then-words-ne2 c = λ word same. not-two c.args.words.now c.args.name.now word c.if-words-ne2.true same

pub returns-then-eq : goal.returns-then-eq
returns-then-eq c =
    let none : Bor (List ℕ) = record { ref_ptr = (0, 0); now = [] } in
    let decides = slice_eq-Decides Decides-eqb (get_or c.args.words.now 0 none).now c.args.name.now c.eq.result c.eq.ensures in
    pair-of c.args.words.now none (omega arith)
    ∙ ap (λ (first : List ℕ). first ∷ (get_or c.args.words.now 1 none).now ∷ []) (decides.0 c.if-eq.true)

pub returns-else-eq : goal.returns-else-eq
returns-else-eq c = λ word same.
    let none : Bor (List ℕ) = record { ref_ptr = (0, 0); now = [] } in
    let decides = slice_eq-Decides Decides-eqb (get_or c.args.words.now 0 none).now c.args.name.now c.eq.result c.eq.ensures in
    other-name c.args.words.now none c.args.name.now word (λ is. both_ways c.eq.result c.if-eq.false (decides.1 is)) same
