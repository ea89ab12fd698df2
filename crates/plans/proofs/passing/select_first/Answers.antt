-- All positions are those of cells.
use Rattle.std.proofs.Common.{length, sym, ap, subst, ◌∙◌}
use Rattle.std.specs.List.{range_with_len}
use Rattle.plans.specs.Inner.Picked.{ArePlaces}
use Rattle.plans.specs.Inner.Cells.{values_of}
use Rattle.plans.proofs.Selections.{places-range}
use Rattle.plans.proofs.passing.select_first.Goals as goal

pub select_cells-requires : goal.select_cells-requires
select_cells-requires c =
    let count = length (values_of c.args.cells.now) in
    subst (ArePlaces count) (sym (c.as_slice.ensures.value ∙ c.in_ok-all.ensures ∙ ap (range_with_len 0) c.len.ensures))
    (places-range count)
