-- The versions of the commits so far.
use Rattle.std.proofs.Common.{◌≡◌, take}
use Rattle.primary.proofs.keeping.versions_of.Given as goal

abbrev pub invariant-loop-commit : goal.invariant-loop-commit
invariant-loop-commit l = record {
  schema : l.versions.schema ≡ l.schema;
  commits : l.versions.commits ≡ take l.commit-index l.commits;
}
