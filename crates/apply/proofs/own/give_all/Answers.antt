-- One entry more.
use Rattle.std.proofs.Common.{◌+◌, subst, arith}
use Rattle.std.proofs.lemmas.List.{take_all}
use Rattle.apply.specs.Inner.Ends.{GoesOn}
use Rattle.apply.specs.Inner.Gathered.{entries_in}
use Rattle.apply.proofs.Going.{goes-nothing, goes-next}
use Rattle.apply.proofs.own.give_all.Goals as goal

pub loop-entry-init : goal.loop-entry-init
loop-entry-init c = goes-nothing c.args.partition.now

pub loop-entry-preserved : goal.loop-entry-preserved
loop-entry-preserved c =
    goes-next c.args.count (c.args.first + c.args.index) c.loop-entry.entry-index c.args.entries.now c.entry-item.result
    c.args.partition.now c.loop-entry.partition c.give.new.partition c.loop-entry-test.true c.entry-item.is c.loop-entry.invariant
    c.give.ensures

pub returns : goal.returns
returns c =
    subst (λ entries. GoesOn (entries_in c.args.count (c.args.first + c.args.index) entries) c.args.partition.now c.loop-entry.partition)
    (take_all c.loop-entry.entry-index c.args.entries.now (omega (arith, c.loop-entry-test.false))) c.loop-entry.invariant
