-- One field more, behind a space where it is not the first.
use Rattle.std.proofs.Common.{◌++◌, get_or, ap, ◌∙◌, arith}
use Rattle.queries.specs.Report.{field_text}
use Rattle.queries.proofs.Texts.{text-first, text-behind}
use Rattle.queries.proofs.reporting.append_line.Goals as goal
use Rattle.queries.proofs.reporting.append_line.Goals.{then-index-ne0+in_ok-push, else-index-ne0}

pub loop-index-preserved : goal.loop-index-preserved
loop-index-preserved c =
    let field = c.index-fields-index.result in
    let spaced = c.if-index-ne0.text.items in
    let added = c.in_ok-append_field.ensures ∙ ap (λ f. spaced ++ field_text f) c.index-fields-index.is in
    elim c.if-index-ne0.branch [
      | then-index-ne0+in_ok-push w ↦
          text-behind c.args.fields.now c.loop-index.index field c.args.text.now.items c.loop-index.text.items spaced
          c.append_field.new.text.items (omega arith) c.loop-index-test.true c.loop-index.invariant
          (ap (λ text. text.items) w.text-is ∙ w.in_ok-push.ensures.items) added
      | else-index-ne0 w ↦
          text-first c.args.fields.now c.loop-index.index field c.args.text.now.items c.loop-index.text.items
          c.append_field.new.text.items w.if-index-ne0.false c.loop-index-test.true c.loop-index.invariant
          (added ∙ ap (λ text. text.items ++ field_text (get_or c.args.fields.now c.loop-index.index field)) w.text-is)
    ]
