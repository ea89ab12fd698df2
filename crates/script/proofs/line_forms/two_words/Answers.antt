-- The words by their places.
use Rattle.std.proofs.Common.{arith}
use Rattle.script.proofs.Arity.{two-at, two-none}
use Rattle.script.proofs.line_forms.two_words.Goals as goal

pub returns-then-words-ne2 : goal.returns-then-words-ne2
returns-then-words-ne2 c = two-none c.args.words.now (λ h. omega arith)

pub returns : goal.returns
returns c = two-at c.args.words.now _ _ (omega arith)
