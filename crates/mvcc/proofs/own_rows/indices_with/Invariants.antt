-- The indices so far are those that are kept of the indices that were looked at.
use Rattle.std.proofs.Common.{◌≡◌, take}
use Rattle.mvcc.specs.Inner.OwnRows.{kept_indices}
use Rattle.mvcc.proofs.own_rows.indices_with.Given as goal

abbrev pub invariant-loop-index : goal.invariant-loop-index
invariant-loop-index l = l.items.items ≡ kept_indices l.entries l.entry (take l.index-index l.indices)
