-- The pieces so far are applied, but for a part, for which there is room.
use Rattle.std.proofs.Common.{◌≡◌, ◌<◌, true, length, vec_capacity}
use Rattle.dispatcher.proofs.Parting.{AreAppliedTo}
use Rattle.dispatcher.proofs.pieces.apply_each.Given as goal

abbrev pub invariant-loop-number : goal.invariant-loop-number
invariant-loop-number g l = record {
  applied : AreAppliedTo l.fn.intake l.intake l.pieces l.number (g.S.Store.tables l.fn.store) (g.S.Store.tables l.store) l.part.items;
  whole : g.S.Store.is_whole l.store ≡ true;
  base : g.S.Store.base_shape l.store ≡ g.S.Store.base_shape l.fn.store;
  capacity : vec_capacity l.part ≡ vec_capacity l.fn.part;
  few : length l.part.items < vec_capacity l.fn.part;
}
