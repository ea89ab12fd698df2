-- The entry is one of the partition's, or it is not.
use Rattle.std.proofs.Common.{◌+◌, sym, subst, ◌∙◌}
use Rattle.apply.specs.Inner.Ends.{GoesOn}
use Rattle.apply.proofs.Going.{goes-past, own-one}
use Rattle.apply.proofs.own.give.Goals as goal

pub returns-then-not-takes : goal.returns-then-not-takes
returns-then-not-takes c =
    goes-past c.args.count (c.args.first + c.args.index) c.args.entry.now c.args.partition.now (sym c.takes.ensures ∙ c.if-not-takes.true)

pub returns : goal.returns
returns c =
    subst (λ entries. GoesOn entries c.args.partition.now c.go_on.new.self)
    (sym (own-one c.args.count (c.args.first + c.args.index) c.args.entry.now (sym c.takes.ensures ∙ c.if-not-takes.false))) c.go_on.ensures
