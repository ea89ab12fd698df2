-- The words by their places.
use Rattle.std.proofs.Common.{arith}
use Rattle.script.proofs.Arity.{more-at, more-none}
use Rattle.script.proofs.line_forms.three_words_and_more.Goals as goal

pub returns-then-words-lt4 : goal.returns-then-words-lt4
returns-then-words-lt4 c = more-none c.args.words.now (omega arith)

pub returns : goal.returns
returns c = rw c.split_at.ensures.back (more-at c.args.words.now _ _ _ (omega arith))
