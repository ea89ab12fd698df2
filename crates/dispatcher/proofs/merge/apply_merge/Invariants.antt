-- The commits that were taken are applied, but for the last part.
use Rattle.std.proofs.Common.{◌≡◌, ◌-◌, true}
use Rattle.dispatcher.specs.Inner.Merging.{CanGoOn, merging_of}
use Rattle.dispatcher.proofs.Merging.{AreTaken}
use Rattle.dispatcher.proofs.merge.apply_merge.Given as goal

abbrev pub invariant-parts : goal.invariant-parts
invariant-parts g l = record {
  taken : AreTaken (merging_of l.intake l.fetched.counts l.fn.merge) (merging_of l.intake l.fetched.counts l.merge)
      (g.S.Store.tables l.fn.store) (g.S.Store.tables l.store);
  goes_on : CanGoOn l.intake l.fetched.counts l.fetched.version l.merge;
  whole : g.S.Store.is_whole l.store ≡ true;
  base : g.S.Store.base_shape l.store ≡ g.S.Store.base_shape l.fn.store;
}

abbrev pub decreases-parts : goal.decreases-parts
decreases-parts g l = l.fetched.version - l.merge.version
