-- The spans so far, before those of the entries that are left, are those of all the entries.
use Rattle.std.proofs.Common.{◌≡◌, ◌+◌, ◌++◌, length}
use Rattle.std.specs.List.{AllByRecursion}
use Rattle.rows.specs.Spelling.{HasSpelling}
use Rattle.update_log.specs.Parts.{parts_of}
use Rattle.update_log.specs.Inner.Spans.{spans_from, spans_of}
use Rattle.update_log.proofs.cutting.cut_spans.Given as goal

abbrev pub invariant-loop-rest : goal.invariant-loop-rest
invariant-loop-rest l = record {
  so_far : l.spans.items ++ spans_from l.number l.start (parts_of l.rest) ≡ spans_of l.entries l.number;
  spelled : AllByRecursion HasSpelling l.rest;
  counted : l.start + length l.rest ≡ length l.entries;
}

abbrev pub decreases-loop-rest : goal.decreases-loop-rest
decreases-loop-rest l = length l.rest
