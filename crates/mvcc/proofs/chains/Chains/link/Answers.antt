-- One row's chain has one link more, and no other has changed; an entry that is of no row alone links none.
use Rattle.std.proofs.Common.{sym, subst, ap, ◌∙◌}
use Rattle.std.specs.Map.{set_value}
use Rattle.std.specs.BTreeMap.{is_at}
use Rattle.std.proofs.lemmas.Map.Steps.{set_value_same}
use Rattle.std.proofs.lemmas.Result.{on_ok_weaker, on_err_weaker}
use Rattle.mvcc.specs.Inner.Keys.{key_cmp}
use Rattle.mvcc.specs.Inner.Chains.{linked, Turns}
use Rattle.mvcc.proofs.Links.{links-set, links-new, links-unnamed}
use Rattle.mvcc.proofs.chains.Chains.link.Goals as goal

pub returns-in_default-clause-ok : goal.returns-in_default-clause-ok
returns-in_default-clause-ok c =
    links-unnamed _ c.args.entry.now (linked c.args.number c.args.blank.now c.args.entry.now) (sym c.in_default.ensures)

pub returns-in-Some-get_mut-clause-ok : goal.returns-in-Some-get_mut-clause-ok
returns-in-Some-get_mut-clause-ok c =
    let before = c.self.inside.chains.entries in
    let more = linked c.args.number c.args.blank.now c.args.entry.now in
    on_ok_weaker c.link.result
    (λ made. rw (← c.self.view_is)
    (subst (Turns c.args.entry.now more before) (sym (c.get_mut.follows.holds c.link.new.self).0)
    (links-set before c.args.entry.now more c.table.result c.in-Some.row
    c.in-Some-get_mut.chain.now c.link.new.self c.table.ensures (sym c.in-Some.ensures) (sym c.in-Some-get_mut.ensures.value) made)))
    c.link.ensures.ok

pub returns-in-Some-get_mut-clause-err : goal.returns-in-Some-get_mut-clause-err
returns-in-Some-get_mut-clause-err c =
    let test = is_at (key_cmp (c.table.result, c.in-Some.row.0)) in
    let before = c.self.inside.chains.entries in
    on_err_weaker c.link.result
    (λ same. (c.get_mut.follows.holds c.link.new.self).0 ∙ ap (set_value test before) same
    ∙ set_value_same test before c.in-Some-get_mut.chain.now (sym c.in-Some-get_mut.ensures.value) ∙ c.self.view_is) c.link.ensures.err

pub returns-clause-ok : goal.returns-clause-ok
returns-clause-ok c =
    rw (← c.self.view_is)
    (links-new c.self.inside.chains.entries c.insert.new.self.entries c.args.entry.now
    (linked c.args.number c.args.blank.now c.args.entry.now)
    c.table.result c.in-Some.row c.link-2.new.self c.table.ensures (sym c.in-Some.ensures) (sym c.in_default-get_mut.ensures.value)
    (c.in_ok-link.ensures.ok ∙ ap (linked c.args.number c.args.blank.now c.args.entry.now) c.new-chain.ensures)
    (rw c.get_mut.follows.holds-at-none at c.in_ok-insert.ensures.updates.0))
