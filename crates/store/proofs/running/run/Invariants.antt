-- The entries before the index made the tables; a store that is not whole refused the first.
use Rattle.std.proofs.Common.{◌≡◌, take, false, Ok}
use Rattle.rows.specs.Tables.{apply_entries}
use Rattle.store.proofs.running.run.Given as goal

abbrev pub invariant-loop-i : goal.invariant-loop-i
invariant-loop-i g l = record {
  before : apply_entries (g.S.Store.tables l.initial.store) (take l.i l.entries) ≡ Ok
      (g.S.Store.tables l.store);
  first : g.S.Store.is_whole l.initial.store ≡ false → l.i ≡ 0;
  whole : g.S.Store.is_whole l.store ≡ g.S.Store.is_whole l.initial.store;
  base : g.S.Store.base_shape l.store ≡ g.S.Store.base_shape l.initial.store;
}
