-- The value of a column stands behind the columns before it.
use Rattle.std.proofs.Common.{◌≡◌, length, slice_get, take, drop, Some, None, sym, ap, ◌∙◌, refl, arith}
use Rattle.std.specs.Option.{option_map}
use Rattle.std.proofs.lemmas.Bool.{ltb-true, ltb-false}
use Rattle.std.proofs.lemmas.List.{length-drop}
use Rattle.std.proofs.lemmas.Option.{slice_get_read, slice_get_past}
use Rattle.rows.specs.Shape.{row_width}
use Rattle.rows.specs.Values.{value_of}
use Rattle.mvcc.proofs.ColumnPlaces.{value-at, column-within}
use Rattle.mvcc.proofs.cells.value_in_row.Goals as goal

pub returns-in_err-kind : goal.returns-in_err-kind
returns-in_err-kind c =
    let kinds = c.args.kinds.now in
    let none : slice_get kinds c.args.column ≡ None =
    slice_get_past kinds c.args.column (ltb-false _ _ (sym c.in_err-kind.ensures.lookup.0)) in
    c.from_residual.ensures ∙ sym (value-at kinds c.args.bytes.now c.args.column ∙ ap (option_map _) none)

pub first_value-requires-clause-wide : goal.first_value-requires-clause-wide
first_value-requires-clause-wide c =
    let kinds = c.args.kinds.now in
    let kind = c.in_ok-kind.field-0.now in
    let some : slice_get kinds c.args.column ≡ Some kind =
    slice_get_read kinds (length kinds) c.args.column kind refl
    (ltb-true _ _ (sym c.in_ok-kind.ensures.lookup.0)) c.in_ok-kind.ensures.lookup.1 in
    let within = column-within kinds c.args.column kind some in
    let width = c.width_of_row.ensures ∙ ap row_width c.split_at.ensures.front in
    omega (arith, within, width, ap length c.split_at-2.ensures.back, length-drop c.width_of_row.result c.args.bytes.now, c.requires.wide)

pub returns : goal.returns
returns c =
    let kinds = c.args.kinds.now in
    let kind = c.in_ok-kind.field-0.now in
    let some : slice_get kinds c.args.column ≡ Some kind =
    slice_get_read kinds (length kinds) c.args.column kind refl
    (ltb-true _ _ (sym c.in_ok-kind.ensures.lookup.0)) c.in_ok-kind.ensures.lookup.1 in
    let width = c.width_of_row.ensures ∙ ap row_width c.split_at.ensures.front in
    ap Some (c.first_value.ensures ∙ ap (value_of kind) (c.split_at-2.ensures.back ∙ ap (λ n. drop n c.args.bytes.now) width))
    ∙ sym (value-at kinds c.args.bytes.now c.args.column
    ∙ ap (option_map (λ kind. value_of kind (drop (row_width (take c.args.column kinds)) c.args.bytes.now))) some)
