-- The entries so far, and room for all.
use Rattle.std.proofs.Common.{◌≡◌, ◌≤◌, take, length, vec_capacity}
use Rattle.update_log.proofs.cutting.copied.Given as goal

abbrev pub invariant-loop-entry : goal.invariant-loop-entry
invariant-loop-entry l = (l.copy.items ≡ take l.entry-index l.entries) × (length l.entries ≤ vec_capacity l.copy)
