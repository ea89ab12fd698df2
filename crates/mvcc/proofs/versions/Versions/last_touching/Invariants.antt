-- The last of the commits that touch a row of the entries so far.
use Rattle.std.proofs.Common.{◌≡◌, take}
use Rattle.rows.specs.Commits.{last_touching}
use Rattle.mvcc.proofs.versions.Versions.last_touching.Given as goal

abbrev pub invariant-loop-entry : goal.invariant-loop-entry
invariant-loop-entry l = l.last ≡ last_touching (take l.entry-index l.entries) 0 l.self.commits
