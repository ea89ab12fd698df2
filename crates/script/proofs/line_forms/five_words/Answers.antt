-- The words by their places.
use Rattle.std.proofs.Common.{arith}
use Rattle.script.proofs.Arity.{five-at, five-none}
use Rattle.script.proofs.line_forms.five_words.Goals as goal

pub returns-then-words-ne5 : goal.returns-then-words-ne5
returns-then-words-ne5 c = five-none c.args.words.now (λ h. omega arith)

pub returns : goal.returns
returns c = five-at c.args.words.now _ _ _ _ _ (omega arith)
