-- The frames so far, before those of the entries that are left, are those of all the entries.
use Rattle.std.proofs.Common.{◌≡◌, ◌<◌, ◌+◌, ◌^◌, ◌++◌, length}
use Rattle.std.specs.List.{AllByRecursion}
use Rattle.rows.specs.Spelling.{HasSpelling}
use Rattle.update_log.specs.Parts.{parts_of}
use Rattle.update_log.specs.Frames.{frames_from}
use Rattle.update_log.proofs.cutting.cut_entries.Given as goal

abbrev pub invariant-loop-rest : goal.invariant-loop-rest
invariant-loop-rest l = record {
  so_far :
      l.frames.items ++ frames_from l.worker l.number l.seq (parts_of l.rest)
      ≡ frames_from l.worker l.number l.first_seq (parts_of l.entries);
  spelled : AllByRecursion HasSpelling l.rest;
  seqs : l.seq + length (parts_of l.rest) < 2 ^ 64;
}

abbrev pub decreases-loop-rest : goal.decreases-loop-rest
decreases-loop-rest l = length l.rest
