use Rattle.std.proofs.Common.{rules, ◌≡◌, length, sym, ◌∙◌}
use Rattle.apply.proofs.Built.{IsTable, table-length}
use Rattle.apply.proofs.block.Block.len.Goals as goal

pub returns : goal.returns
returns c =
    let is : IsTable c.self.inside.ids.items c.self.inside.columns.items =
    record { cells = c.self.invariant.cells; rise = c.self.invariant.rise } in
    let many : c.len.result ≡ length c.self.inside.ids.items = search rules in
    rw (← c.self.view_is) (many ∙ sym (table-length c.self.inside.ids.items c.self.inside.columns.items is))
