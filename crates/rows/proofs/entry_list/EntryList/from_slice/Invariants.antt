-- The entries so far, and room for all.
use Rattle.std.proofs.Common.{◌≡◌, ◌≤◌, take, length, vec_capacity}
use Rattle.rows.proofs.entry_list.EntryList.from_slice.Given as goal

abbrev pub invariant-loop-entry : goal.invariant-loop-entry
invariant-loop-entry l = (l.items.items ≡ take l.entry-index l.entries) × (length l.entries ≤ vec_capacity l.items)
