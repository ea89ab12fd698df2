-- A value more is written behind a space.
use Rattle.std.proofs.Common.{List, ℕ, [], ◌∷◌, ◌++◌, ap, ◌∙◌, arith}
use Rattle.rows.specs.declared.value.Value.{Value}
use Rattle.rows.specs.Text.{value_text}
use Rattle.script.proofs.Joining.{tail-more}
use Rattle.script.proofs.lines.push_values.Goals as goal

pub loop-value-preserved : goal.loop-value-preserved
loop-value-preserved c =
    let value = c.value-item.result in
    let before = c.loop-value.text.items in
    c.in_ok-append_value.ensures.ok ∙ ap (λ (front : List ℕ). front ++ value_text value) c.in_ok-push.ensures.items
    ∙ ap (λ (it : Value). (before ++ 32 ∷ []) ++ value_text it) c.value-item.is
    ∙ tail-more value_text c.args.text.now.items before c.args.values.now c.loop-value.value-index value (omega arith)
    c.loop-value.invariant
