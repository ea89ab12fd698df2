-- The frames hold these commits alone.
use Rattle.dispatcher.specs.Inner.Held.{fetched_of}
use Rattle.dispatcher.specs.Inner.Invariant.{replica_of}
use Rattle.dispatcher.specs.Inner.Merging.{merging_of}
use Rattle.dispatcher.proofs.Applying.{frames-catch-up}
use Rattle.dispatcher.proofs.replica_core.ReplicaCore.catch_up_by_frames.Goals as goal

pub returns-in-Ok : goal.returns-in-Ok
returns-in-Ok g c =
    let a = c.self.inside in
    let replica = replica_of g.S.Store.tables g.S.Store.base_shape a in
    let fetched = fetched_of c.args.fetched.now in
    let by_frames = rw (← c.self.view_is) at c.requires.by_frames in
    let begun = rw (c.as_slice.ensures.counts) at c.in-Ok.ensures.begun in
    let applies = rw (← c.self.view_is) at c.apply.ensures in
    rw (← c.self.view_is) (frames-catch-up c.parts_make_the_merge.ensures.begin c.parts_make_the_merge.ensures.only replica fetched
    (merging_of a.intake fetched.counts c.in-Ok.merge) c.in-Ok.ensures.goes_on.within c.apply.result c.apply.new.self by_frames begun
    applies)
