-- The numbers of the group that the row is of are those of one row more.
use Rattle.std.proofs.Common.{is_some, sym, ap, subst}
use Rattle.std.specs.List.{All}
use Rattle.plans.specs.Inner.Kept.{IsWithin, AreWithin}
use Rattle.plans.proofs.Keeping.{empty-within, within-put}
use Rattle.plans.proofs.groups.Groups.add.Goals as goal

pub returns-in-Some-clause-within : goal.returns-in-Some-clause-within
returns-in-Some-clause-within g c =
    let there = ap is_some (sym c.in-Some.ensures.value) in
    let put = (c.get_mut.follows.holds c.grow.new.fields).3 there in
    within-put c.args.rows c.self.inside.map.entries (c.get_mut.follows.lender c.grow.new.fields).entries c.in_ok-key.key c.grow.new.fields
    (subst (AreWithin c.args.rows) (sym c.self.view_is) c.requires.within) c.grow.ensures.within put.0

pub grow-requires-2-clause-within : goal.grow-requires-2-clause-within
grow-requires-2-clause-within g c = λ _ _.
    subst (All (IsWithin c.args.rows)) (sym c.in_ok-fields.ensures) (empty-within c.args.rows c.as_slice-2.result.now)

pub returns-clause-within : goal.returns-clause-within
returns-clause-within g c =
    within-put c.args.rows c.self.inside.map.entries c.insert.new.self.entries c.in_ok-key.key c.grow-2.new.fields
    (subst (AreWithin c.args.rows) (sym c.self.view_is) c.requires.within) c.grow-2.ensures.within
    (rw c.get_mut.follows.holds-at-none at c.in_ok-insert.ensures.updates.0)
