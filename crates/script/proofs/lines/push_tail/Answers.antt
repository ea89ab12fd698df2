-- A word more is written behind a space.
use Rattle.std.proofs.Common.{List, ℕ, [], ◌∷◌, ◌++◌, ap, ◌∙◌, arith}
use Rattle.script.specs.Inner.Lines.{word_text}
use Rattle.script.specs.declared.lines.Word.{Word}
use Rattle.script.proofs.Joining.{tail-more}
use Rattle.script.proofs.lines.push_tail.Goals as goal

pub loop-word-preserved : goal.loop-word-preserved
loop-word-preserved c =
    let word = c.word-item.result in
    let before = c.loop-word.text.items in
    c.in_ok-push_word.ensures ∙ ap (λ (front : List ℕ). front ++ word_text word) c.in_ok-push.ensures.items
    ∙ ap (λ (it : Word). (before ++ 32 ∷ []) ++ word_text it) c.word-item.is
    ∙ tail-more word_text c.args.text.now.items before c.args.words.now c.loop-word.word-index word (omega arith)
    c.loop-word.invariant
