-- What its tables do not have then, and came, is still kept.
use Rattle.std.proofs.Common.{◌≡◌, ℕ, List, Some, length, sym, ap, subst, ◌∙◌}
use Rattle.std.specs.Prelude.{IfSome}
use Rattle.intake.specs.Kept.{AreKeptFrom}
use Rattle.intake.specs.State.{Arrivals}
use Rattle.intake.specs.Steps.{dropped, gained}
use Rattle.dispatcher.specs.Inner.Held.{fetched_of}
use Rattle.dispatcher.specs.Inner.Invariant.{replica_of, GoesOn}
use Rattle.dispatcher.specs.Protocol.{bases_at, first_counts, fetched_for}
use Rattle.dispatcher.proofs.Gaining.{gained-kept}
use Rattle.dispatcher.proofs.Lists.{pointwise-le}
use Rattle.dispatcher.proofs.Standing.{of-some, to-some, bases-first, caught-goes, counts-many}
use Rattle.dispatcher.proofs.replica_core.ReplicaCore.move_to.Goals as goal

pub invariant_of-self : goal.invariant_of-self
invariant_of-self g c =
    let a = c.self.inside in
    let is = c.self.invariant in
    let stay = c.known_frames_stay_kept.ensures in
    let gain = c.frames_are_gained.ensures in
    let replica = replica_of g.S.Store.tables g.S.Store.base_shape a in
    let fetched = fetched_of c.args.fetched.now in
    let there : fetched_for replica.batch ≡ Some fetched = rw (← c.self.view_is) at c.requires.fetched in
    let goes : GoesOn a.version a.applied fetched =
    of-some (GoesOn a.version a.applied) (fetched_for replica.batch) fetched there is.fetched in
    let same : c.copy_of-self-inside.result ≡ fetched.counts = c.copy_of-self-inside.ensures in
    let bases = bases_at a.version fetched in
    let firsts = first_counts a.version a.applied fetched in
    let left : c.drop_below.new.self ≡ dropped (gained a.intake bases) fetched.counts =
    c.drop_below.ensures ∙ ap (dropped c.gain.new.self) c.as_slice.ensures.counts
    ∙ ap (λ (all : List Arrivals). dropped all fetched.counts) (c.gain.ensures ∙ ap (gained a.intake) c.bases_at.ensures) in
    record {
      few_workers = is.few_workers;
      number_below = is.number_below;
      arrivals_by_worker =
          ap (λ (all : List Arrivals). length all) left ∙ stay.drops_leave (gained a.intake bases) fetched.counts
          ∙ gain.workers a.intake bases ∙ is.arrivals_by_worker;
      applied_by_worker =
          ap (λ (counts : List ℕ). length counts) same ∙ counts-many a.version a.applied fetched goes ∙ is.applied_by_worker;
      others_kept =
          subst (λ (counts : List ℕ). AreKeptFrom c.drop_below.new.self counts) (sym same)
          (subst (λ (all : List Arrivals). AreKeptFrom all fetched.counts) (sym left)
          (gained-kept gain.workers gain.known gain.kept stay.drops_kept a.intake a.applied bases firsts fetched.counts
          (bases-first a.version a.applied fetched) (λ worker. pointwise-le a.applied firsts worker goes.lows_on)
          (λ worker. pointwise-le firsts fetched.counts worker goes.counts_on) is.others_kept));
      store_whole = is.store_whole;
      fetched =
          subst (λ (counts : List ℕ). IfSome (fetched_for replica.batch) (GoesOn fetched.version counts)) (sym same)
          (to-some (GoesOn fetched.version fetched.counts) (fetched_for replica.batch) fetched there
          (caught-goes a.version a.applied fetched goes));
      many = is.many;
      begun = is.begun;
    }
