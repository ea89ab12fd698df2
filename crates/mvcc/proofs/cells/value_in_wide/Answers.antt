-- The columns end within the row's own bytes.
use Rattle.std.proofs.Common.{length, drop, slice_get, sym, ap, ◌∙◌, arith}
use Rattle.mvcc.proofs.Blanks.{values-front}
use Rattle.mvcc.proofs.cells.value_in_wide.Goals as goal

pub returns-then-width_of_row-bytes : goal.returns-then-width_of_row-bytes
returns-then-width_of_row-bytes c =
    let bytes = c.args.bytes.now in
    c.value_in_row.ensures
    ∙ sym (ap (λ values. slice_get values c.args.column)
    (values-front c.columns_are_of_their_width.ensures.value c.args.kinds.now bytes (drop (length bytes) c.args.blank.now)
    (omega (arith, c.width_of_row.ensures, c.if-width_of_row-bytes.true))))
