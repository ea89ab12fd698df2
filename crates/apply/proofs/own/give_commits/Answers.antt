-- One commit more.
use Rattle.std.proofs.Common.{◌+◌, subst, arith}
use Rattle.std.proofs.lemmas.List.{take_all}
use Rattle.apply.specs.Inner.Ends.{GoesOn}
use Rattle.apply.specs.Inner.Gathered.{entries_in, entries_of}
use Rattle.apply.proofs.Going.{goes-nothing, goes-commit}
use Rattle.apply.proofs.own.give_commits.Goals as goal

pub loop-commit-init : goal.loop-commit-init
loop-commit-init c = goes-nothing c.args.partition.now

pub loop-commit-preserved : goal.loop-commit-preserved
loop-commit-preserved c =
    goes-commit c.args.count (c.args.first + c.args.index) c.loop-commit.commit-index c.args.commits.now c.commit-item.result
    c.args.partition.now c.loop-commit.partition c.give_all.new.partition c.loop-commit-test.true c.commit-item.is c.loop-commit.invariant
    (subst (λ entries. GoesOn (entries_in c.args.count (c.args.first + c.args.index) entries) c.loop-commit.partition
    c.give_all.new.partition)
    c.as_slice.ensures c.give_all.ensures)

pub returns : goal.returns
returns c =
    subst
    (λ commits. GoesOn (entries_in c.args.count (c.args.first + c.args.index) (entries_of commits)) c.args.partition.now
    c.loop-commit.partition)
    (take_all c.loop-commit.commit-index c.args.commits.now (omega (arith, c.loop-commit-test.false))) c.loop-commit.invariant
