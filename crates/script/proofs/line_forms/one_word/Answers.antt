-- The words by their places.
use Rattle.std.proofs.Common.{arith}
use Rattle.script.proofs.Arity.{one-at, one-none}
use Rattle.script.proofs.line_forms.one_word.Goals as goal

pub returns-then-words-ne1 : goal.returns-then-words-ne1
returns-then-words-ne1 c = one-none c.args.words.now (λ h. omega arith)

pub returns : goal.returns
returns c = one-at c.args.words.now _ (omega arith)
