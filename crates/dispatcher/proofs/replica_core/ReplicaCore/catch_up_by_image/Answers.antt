-- What came holds these commits alone, and no frame from the base to before the counts is missing.
use Rattle.std.proofs.Common.{◌≡◌, ℕ, Bool, true, cond, List, [], Some, slice_index, sym, ap, subst, ◌∙◌, arith}
use Rattle.intake.specs.Kept.{AreAllKept, frames_between}
use Rattle.ordering.specs.Merging.{AreMarked}
use Rattle.dispatcher.specs.Inner.Held.{fetched_of}
use Rattle.dispatcher.specs.Inner.Invariant.{replica_of, GoesOn}
use Rattle.dispatcher.specs.Inner.Merging.{merging_of}
use Rattle.dispatcher.specs.Protocol.{by_image, bases_at, fetched_for, fetched_in}
use Rattle.dispatcher.specs.Steps.{readiness_of}
use Rattle.dispatcher.proofs.Applying.{image-catches-up}
use Rattle.dispatcher.proofs.Lists.{pointwise-le}
use Rattle.dispatcher.proofs.Ready.{ready-parts, ready-fetched, no-frame-lacks}
use Rattle.dispatcher.proofs.Standing.{of-some, all-kept, counts-many, seen-pieces}
use Rattle.dispatcher.specs.State.{Pieces}
use Rattle.dispatcher.proofs.replica_core.ReplicaCore.catch_up_by_image.Goals as goal

pub begun_merge-requires-clause-kept : goal.begun_merge-requires-clause-kept
begun_merge-requires-clause-kept g c =
    let a = c.self.inside in
    let replica = replica_of g.S.Store.tables g.S.Store.base_shape a in
    let fetched = fetched_of c.args.fetched.now in
    let ready : fetched_in (readiness_of replica) ≡ Some fetched = rw (← c.self.view_is) at c.requires.ready in
    let image : by_image a.version fetched ≡ true = rw (← c.self.view_is) at c.requires.by_image in
    let parts = ready-parts replica fetched ready in
    let goes : GoesOn a.version a.applied fetched =
    of-some (GoesOn a.version a.applied) (fetched_for replica.batch) fetched (ready-fetched replica fetched ready)
    c.self.invariant.fetched in
    let firsts = ap (λ (image : Bool). cond image fetched.lows a.applied) image in
    let bases = ap (λ (image : Bool). cond image fetched.lows []) image in
    subst (λ (lows : List ℕ). AreAllKept a.intake lows fetched.counts) (sym c.as_slice.ensures.counts)
    (all-kept c.known_frames_stay_kept.ensures.complete a.intake (bases_at a.version fetched) fetched.counts
    (counts-many a.version a.applied fetched goes ∙ c.self.invariant.applied_by_worker ∙ sym c.self.invariant.arrivals_by_worker)
    (no-frame-lacks replica parts.0 fetched parts.1) a.applied fetched.lows c.self.invariant.others_kept
    (λ worker. omega (
      arith,
      pointwise-le a.applied _ worker goes.lows_on,
      ap (λ (lows : List ℕ). slice_index lows worker) firsts,
    ))
    (λ worker. omega (arith, ap (λ (lows : List ℕ). slice_index lows worker) bases)))

pub returns-in-Ok : goal.returns-in-Ok
returns-in-Ok g c =
    let replica = replica_of g.S.Store.tables g.S.Store.base_shape c.self.inside in
    let fetched = fetched_of c.args.fetched.now in
    let image = rw (← c.self.view_is) at c.requires.by_image in
    let ready = rw (← c.self.view_is) at c.requires.ready in
    let whole = (ready-parts replica fetched ready).1.whole in
    let begun = rw (c.as_slice.ensures.counts) at c.in-Ok.ensures.begun in
    let applies = rw (← c.self.view_is) at c.apply_image.ensures in
    rw (← c.self.view_is) (image-catches-up c.parts_make_the_merge.ensures.begin c.parts_make_the_merge.ensures.only replica fetched
    (merging_of c.self.inside.intake fetched.counts c.in-Ok.merge) c.in-Ok.ensures.goes_on.within c.apply_image.result
    c.apply_image.new.self image
    (subst (λ (pieces : Pieces). AreMarked (frames_between pieces.arrivals 0 0 fetched.pieces))
    (sym (seen-pieces g.S.Store.tables g.S.Store.base_shape c.self.inside whole)) (c.are_marked.ensures.marked c.if-not-are_marked.false))
    begun applies)
