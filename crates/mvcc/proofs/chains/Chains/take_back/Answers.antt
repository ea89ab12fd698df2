-- One row's chain was taken back, and no other; where the row has none, nothing is taken back.
use Rattle.std.proofs.Common.{sym, subst}
use Rattle.mvcc.specs.Inner.Chains.{taken_back_at, Turns}
use Rattle.mvcc.proofs.Links.{links-set, links-left, links-unnamed, taken_back-none}
use Rattle.mvcc.proofs.chains.Chains.take_back.Goals as goal

pub returns-in_default : goal.returns-in_default
returns-in_default c = links-unnamed _ c.args.entry.now (taken_back_at c.args.number) (sym c.in_default.ensures)

pub returns : goal.returns
returns c =
    let before = c.self.inside.chains.entries in
    rw (← c.self.view_is)
    (subst (Turns c.args.entry.now (taken_back_at c.args.number) before) (sym (c.get_mut.follows.holds c.take_back.new.self).0)
    (links-set before c.args.entry.now (taken_back_at c.args.number) c.table.result c.in-Some.row c.in-Some-get_mut.chain.now
    c.take_back.new.self c.table.ensures (sym c.in-Some.ensures) (sym c.in-Some-get_mut.ensures.value) c.take_back.ensures))

pub returns-in_default-get_mut : goal.returns-in_default-get_mut
returns-in_default-get_mut c =
    rw (← c.self.view_is, c.get_mut.follows.holds-at-none)
    (links-left c.self.inside.chains.entries c.args.entry.now (taken_back_at c.args.number) c.table.result c.in-Some.row c.table.ensures
    (sym c.in-Some.ensures) (sym c.in_default-get_mut.ensures.value) (taken_back-none c.args.number))
