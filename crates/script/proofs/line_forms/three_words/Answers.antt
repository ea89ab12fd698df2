-- The words by their places.
use Rattle.std.proofs.Common.{arith}
use Rattle.script.proofs.Arity.{three-at, three-none}
use Rattle.script.proofs.line_forms.three_words.Goals as goal

pub returns-then-words-ne3 : goal.returns-then-words-ne3
returns-then-words-ne3 c = three-none c.args.words.now (λ h. omega arith)

pub returns : goal.returns
returns c = three-at c.args.words.now _ _ _ (omega arith)
