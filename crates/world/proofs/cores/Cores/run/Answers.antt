-- The call of the replica is what the event is.
use Rattle.std.proofs.Common.{refl}
use Rattle.std.proofs.lemmas.Option.{slice_get_read}
use Rattle.dispatcher.specs.declared.outcome.Run.TheVariants as runs
use Rattle.world.proofs.Moving.{ran, run_waits, run_waits_piece}
use Rattle.world.proofs.cores.Cores.run.Goals as goal

pub returns-in-WaitingPiece : goal.returns-in-WaitingPiece
returns-in-WaitingPiece g c =
    let there = rw (← c.self.view_is) at c.requires in
    let at =
    slice_get_read c.self.inside.replicas.items _ c.args.number c.index_mut-replica.result.now refl there
    c.index_mut-replica.ensures.value in
    run_waits_piece _ _ c.self.view_is c.args.number _ c.run.new.self at c.in-WaitingPiece.piece c.in-WaitingPiece.pull
    c.in-WaitingPiece.ensures _ _ c.wait_for_piece.ensures

pub returns-in-Waiting : goal.returns-in-Waiting
returns-in-Waiting g c =
    let there = rw (← c.self.view_is) at c.requires in
    let at =
    slice_get_read c.self.inside.replicas.items _ c.args.number c.index_mut-replica.result.now refl there
    c.index_mut-replica.ensures.value in
    run_waits _ _ c.self.view_is c.args.number _ c.run.new.self at c.in-Waiting.worker c.in-Waiting.seq c.in-Waiting.want
    c.in-Waiting.ensures _ _ c.wait.ensures

pub returns-in-Answered : goal.returns-in-Answered
returns-in-Answered g c =
    let there = rw (← c.self.view_is) at c.requires in
    let at =
    slice_get_read c.self.inside.replicas.items _ c.args.number c.index_mut-replica.result.now refl there
    c.index_mut-replica.ensures.value in
    ran _ _ c.self.view_is c.args.number _ c.run.new.self at (runs.Answered c.in-Answered.report) c.in-Answered.ensures

pub returns-in-Inconsistent : goal.returns-in-Inconsistent
returns-in-Inconsistent g c =
    let there = rw (← c.self.view_is) at c.requires in
    let at =
    slice_get_read c.self.inside.replicas.items _ c.args.number c.index_mut-replica.result.now refl there
    c.index_mut-replica.ensures.value in
    ran _ _ c.self.view_is c.args.number _ c.run.new.self at runs.Inconsistent c.in-Inconsistent.ensures

pub returns-in-Broken : goal.returns-in-Broken
returns-in-Broken g c =
    let there = rw (← c.self.view_is) at c.requires in
    let at =
    slice_get_read c.self.inside.replicas.items _ c.args.number c.index_mut-replica.result.now refl there
    c.index_mut-replica.ensures.value in
    ran _ _ c.self.view_is c.args.number _ c.run.new.self at runs.Broken c.in-Broken.ensures

pub returns-in-Memory : goal.returns-in-Memory
returns-in-Memory g c =
    let there = rw (← c.self.view_is) at c.requires in
    let at =
    slice_get_read c.self.inside.replicas.items _ c.args.number c.index_mut-replica.result.now refl there
    c.index_mut-replica.ensures.value in
    ran _ _ c.self.view_is c.args.number _ c.run.new.self at runs.Memory c.in-Memory.ensures
