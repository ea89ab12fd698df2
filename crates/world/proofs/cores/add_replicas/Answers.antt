-- Each turn makes the next replica, until none is left.
use Rattle.std.proofs.Common.{◌≡◌, ◌-◌, append_assoc, arith}
use Rattle.std.proofs.lemmas.List.{append-nil}
use Rattle.world.proofs.Starting.{replicas_left, firsts_left, zeros_left}
use Rattle.world.proofs.cores.add_replicas.Goals as goal

pub loop-number-preserved : goal.loop-number-preserved
loop-number-preserved c =
    let next = replicas_left c.args.setup.now.schema c.args.setup.now.workers c.loop-number.number
    c.args.setup.now.replicas (omega arith) in
    record {
      made = rw (c.in_ok-push.ensures.items, c.in_ok-new_replica.ensures, append_assoc) (rw next at c.loop-number.invariant.made);
      first =
          rw (c.in_ok-push-3.ensures.items, c.in_ok-of_one.ensures, append_assoc)
          (rw (firsts_left c.loop-number.number c.args.setup.now.replicas (omega arith)) at c.loop-number.invariant.first);
      noted =
          rw (c.in_ok-push-2.ensures.items, append_assoc)
          (rw (zeros_left c.loop-number.number c.args.setup.now.replicas (omega arith)) at c.loop-number.invariant.noted);
    }

pub returns : goal.returns
returns c =
    let setup = c.args.setup.now in
    let none : setup.replicas - c.loop-number.number ≡ 0 = omega arith in (
      rw (none, append-nil) at c.loop-number.invariant.made,
      rw (none, append-nil) at c.loop-number.invariant.first,
      rw (none, append-nil) at c.loop-number.invariant.noted,
    )
