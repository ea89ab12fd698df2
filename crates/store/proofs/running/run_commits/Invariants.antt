-- What the commits from the index on make of the tables so far is what all make of the first tables.
use Rattle.std.proofs.Common.{◌≡◌, drop, true}
use Rattle.rows.specs.Commits.{apply_commits}
use Rattle.store.proofs.running.run_commits.Given as goal

abbrev pub invariant-loop-commit : goal.invariant-loop-commit
invariant-loop-commit g l = record {
  rest : apply_commits (g.S.Store.tables l.store) (drop l.commit-index l.commits)
      ≡ apply_commits (g.S.Store.tables l.initial.store) l.commits;
  whole : g.S.Store.is_whole l.store ≡ true;
  base : g.S.Store.base_shape l.store ≡ g.S.Store.base_shape l.initial.store;
}
