-- The words by their places.
use Rattle.std.proofs.Common.{arith}
use Rattle.script.proofs.Arity.{four-at, four-none}
use Rattle.script.proofs.line_forms.four_words.Goals as goal

pub returns-then-words-ne4 : goal.returns-then-words-ne4
returns-then-words-ne4 c = four-none c.args.words.now (λ h. omega arith)

pub returns : goal.returns
returns c = four-at c.args.words.now _ _ _ _ (omega arith)
