-- The parts so far, and those of the entries that are left, are all parts.
use Rattle.std.proofs.Common.{◌≡◌, ◌+◌, length}
use Rattle.std.specs.List.{AllByRecursion}
use Rattle.rows.specs.Spelling.{HasSpelling}
use Rattle.update_log.specs.Parts.{parts_of}
use Rattle.update_log.proofs.cutting.part_count.Given as goal

abbrev pub invariant-loop-count : goal.invariant-loop-count
invariant-loop-count l = record {
  counted : l.count + length (parts_of l.rest) ≡ length (parts_of l.entries);
  spelled : AllByRecursion HasSpelling l.rest;
}
