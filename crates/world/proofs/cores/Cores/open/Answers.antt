-- The call of the replica is what the event is, on a plan that is the event's.
use Rattle.std.proofs.Common.{inr, refl}
use Rattle.std.proofs.lemmas.Option.{slice_get_read}
use Rattle.world.proofs.Moving.{opened_query, open_takes, open_refused}
use Rattle.world.proofs.cores.Cores.open.Goals as goal
use Rattle.world.proofs.cores.Cores.open.Goals.{in-Ok-open, in-Err-open}

pub returns-in_default-copy_of : goal.returns-in_default-copy_of
returns-in_default-copy_of c =
    let there = rw (← c.self.view_is) at c.requires in
    let at =
    slice_get_read c.self.inside.replicas.items _ c.args.number c.index.result.now refl there c.index.ensures in
    inr (
      refl,
      refl,
      open_takes _ _ c.self.view_is c.args.number c.index.result.now c.index.result.now at c.args.plan.now c.in_default.ensures.ok,
    )

pub returns : goal.returns
returns c =
    let there = rw (← c.self.view_is) at c.requires in
    let at =
    slice_get_read c.self.inside.replicas.items _ c.args.number c.index_mut-replica.result.now refl there
    c.index_mut-replica.ensures.value in
    elim c.match-open.branch [
      | in-Ok-open w ↦ rw w.result-is (opened_query _ _ c.self.view_is c.args.number _ c.open.new.self at c.args.plan.now w.in-Ok-open.count
          (rw c.in-Ok.ensures at w.in-Ok-open.ensures.ok))
      | in-Err-open w ↦ rw (w.result-is, w.open_output-in-Err-open.ensures)
          (open_refused _ _ c.self.view_is c.args.number _ c.open.new.self at c.args.plan.now w.in-Err-open.fault
          w.in-Err-open.ensures.refused.0 (rw c.in-Ok.ensures at w.in-Err-open.ensures.refused.1))
    ]
