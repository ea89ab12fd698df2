-- The number behind the name is no count, and no other number has its text.
use Rattle.std.proofs.Common.{◌≡◌, decimal, ◌∙◌, arith}
use Rattle.script.proofs.Plain.{decimal-same}
use Rattle.script.proofs.settings.count_of.Goals as goal

pub returns-then-count-eq0 : goal.returns-then-count-eq0
returns-then-count-eq0 c = λ count is same.
    let read = c.in_ok-word_behind.ensures in
    let word = c.in_ok-count.ensures.exact in
    let behind : c.in_ok-word_behind.field-0.now ≡ decimal count = cc in
    let texts : decimal c.in_ok-count.count ≡ decimal count = word.1 ∙ behind in
    let one : c.in_ok-count.count ≡ count = decimal-same c.in_ok-count.count count (omega (arith, word.0)) (omega (arith, is.1)) texts in
    let bad = c.then-count-eq0.either in
    omega (arith, one, is.0, is.1, bad)
