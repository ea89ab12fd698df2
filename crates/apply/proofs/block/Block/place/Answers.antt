use Rattle.std.proofs.Common.{length, nat_lt, sym, ap, ◌∙◌, arith}
use Rattle.std.specs.List.{prefix_len}
use Rattle.apply.proofs.Built.{IsTable, table-length, table-sorted, table-place}
use Rattle.apply.proofs.block.Block.place.Goals as goal

pub place_of-requires : goal.place_of-requires
place_of-requires c =
    let is : IsTable c.self.inside.ids.items c.self.inside.columns.items =
    record { cells = c.self.invariant.cells; rise = c.self.invariant.rise } in
    rw c.as_slice.ensures.value (table-sorted c.self.inside.ids.items c.self.inside.columns.items is)

pub returns-clause-value : goal.returns-clause-value
returns-clause-value c =
    let is : IsTable c.self.inside.ids.items c.self.inside.columns.items =
    record { cells = c.self.invariant.cells; rise = c.self.invariant.rise } in
    rw (← c.self.view_is) (c.place_of.ensures.value ∙ ap (prefix_len (λ id. nat_lt id c.args.row)) c.as_slice.ensures.value
    ∙ sym (table-place c.self.inside.ids.items c.self.inside.columns.items is c.args.row))

pub returns-clause-within : goal.returns-clause-within
returns-clause-within c =
    let is : IsTable c.self.inside.ids.items c.self.inside.columns.items =
    record { cells = c.self.invariant.cells; rise = c.self.invariant.rise } in
    let many = table-length c.self.inside.ids.items c.self.inside.columns.items is in
    let same = ap length c.as_slice.ensures.value in
    rw (← c.self.view_is) (omega (arith, many, same, c.place_of.ensures.within))
