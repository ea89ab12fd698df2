use Rattle.std.proofs.Common.{[], ap, ◌∙◌}
use Rattle.apply.proofs.Built.{table-none}
use Rattle.apply.proofs.block.Block.new.Goals as goal

pub invariant_of-result : goal.invariant_of-result
invariant_of-result c =
    let is = (table-none c.new.result.items c.in_ok-empty_columns.field-0.items c.new.ensures.items
    c.in_ok-empty_columns.ensures.cells).0 in
    record { cells = is.cells; rise = is.rise }

pub returns : goal.returns
returns c =
    (table-none c.new.result.items c.in_ok-empty_columns.field-0.items c.new.ensures.items c.in_ok-empty_columns.ensures.cells).1
    ∙ ap (λ kinds. record { kinds = kinds; rows = [] }) c.in_ok-empty_columns.ensures.kinds
