-- What callers see of a primary, made of its parts.
use Rattle.std.specs.Prelude.{ℕ, take, drop, Bool}
use Rattle.mvcc.specs.VersionList.{VersionList}
use Rattle.primary.specs.State.{Primary}

-- the primary of these versions, the first `durable` of them durable and the others pending, on that base
abbrev pub primary_of : VersionList → (durable workers : ℕ) → Bool → (base : ℕ) → Primary
primary_of versions durable workers failed base = record {
  schema = versions.schema;
  workers = workers;
  durable = take durable versions.commits;
  pending = drop durable versions.commits;
  failed = failed;
  base = base;
}
