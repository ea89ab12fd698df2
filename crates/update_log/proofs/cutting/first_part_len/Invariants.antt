-- The length so far is that of a datagram with the entries so far, which fit.
use Rattle.std.proofs.Common.{◌≡◌, ◌≤◌, take}
use Rattle.update_log.specs.Parts.{part_len}
use Rattle.update_log.proofs.cutting.first_part_len.Given as goal

abbrev pub invariant-loop-index : goal.invariant-loop-index
invariant-loop-index l = record {
  so_far : l.len ≡ part_len l.front (take l.index l.entries);
  within : l.len ≤ 1200;
}
