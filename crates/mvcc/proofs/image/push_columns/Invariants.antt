-- The entries of the kinds so far.
use Rattle.std.proofs.Common.{◌≡◌, ◌++◌, take}
use Rattle.rows.specs.Image.{columns_image}
use Rattle.mvcc.proofs.image.push_columns.Given as goal

abbrev pub invariant-loop-kind : goal.invariant-loop-kind
invariant-loop-kind l = l.image.items ≡ l.initial.image.items ++ columns_image l.table (take l.kind-index l.added)
