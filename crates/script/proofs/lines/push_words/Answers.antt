-- What was written is the first word and the others behind spaces.
use Rattle.std.proofs.Common.{map, arith}
use Rattle.std.proofs.lemmas.Grind.{common_steps}
use Rattle.script.specs.Inner.Lines.{word_text}
use Rattle.script.proofs.Joining.{words-text}
use Rattle.script.proofs.lines.push_words.Goals as goal

pub returns : goal.returns
returns c =
    let e = words-text c.args.first.now (map word_text c.args.words.now) in
    grind (arith, common_steps)
