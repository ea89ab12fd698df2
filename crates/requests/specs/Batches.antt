-- What readers of batches hand out.
use Rattle.std.specs.Prelude.{◌<◌, ◌≤◌, List, length}
use Rattle.requests.specs.declared.batch_assembly.Query.{Query}
use Rattle.requests.specs.declared.batch_reader.Batched.{Batched}
use Rattle.requests.specs.declared.batch_reader.Batched.TheVariants.{Batch}
use Rattle.requests.specs.Limits.{batch_queries_max}

-- a batch has at least one query, and no more than it may
abbrev pub IsBatch : List Query → Type 0
IsBatch queries = (0 < length queries) × (length queries ≤ batch_queries_max)

-- what may be handed out: a batch
abbrev pub IsBatched : Batched → Type 0
IsBatched (Batch queries) = IsBatch queries.items
IsBatched other = Unit {0}
