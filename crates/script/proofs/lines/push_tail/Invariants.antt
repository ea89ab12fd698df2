-- The words so far are written.
use Rattle.std.proofs.Common.{◌≡◌, ◌++◌, map, take}
use Rattle.script.specs.Inner.Lines.{word_text, tail_text}
use Rattle.script.proofs.lines.push_tail.Given as goal

abbrev pub invariant-loop-word : goal.invariant-loop-word
invariant-loop-word l = l.text.items ≡ l.fn.text.items ++ tail_text (map word_text (take l.word-index l.words))
