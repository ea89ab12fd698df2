-- No block so far has more rows.
use Rattle.std.proofs.Common.{ℕ, ◌<◌, ◌≤◌, length, slice_index_or}
use Rattle.rows.specs.Tables.{Table}
use Rattle.apply.proofs.widening.most_rows.Given as goal

abbrev pub invariant-loop-block : goal.invariant-loop-block
invariant-loop-block l = (k : ℕ) (d : Table) → k < l.block-index → length (slice_index_or l.blocks k d).rows ≤ l.most
