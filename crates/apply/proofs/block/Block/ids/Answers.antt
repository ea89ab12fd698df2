use Rattle.std.proofs.Common.{sym, ◌∙◌}
use Rattle.apply.proofs.Built.{IsTable, table-keys}
use Rattle.apply.proofs.block.Block.ids.Goals as goal

pub returns-clause-value : goal.returns-clause-value
returns-clause-value c =
    let is : IsTable c.self.inside.ids.items c.self.inside.columns.items =
    record { cells = c.self.invariant.cells; rise = c.self.invariant.rise } in
    rw (← c.self.view_is) (c.as_slice.ensures.value ∙ sym (table-keys c.self.inside.ids.items c.self.inside.columns.items is))
