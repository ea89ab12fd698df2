-- Each entry so far has a spelling.
use Rattle.std.specs.List.{AllByRecursion}
use Rattle.rows.specs.Spelling.{HasSpelling}
use Rattle.scenarios_frames.proofs.cuts.push_columns.Given as goal

abbrev pub invariant-loop : goal.invariant-loop
invariant-loop l = AllByRecursion HasSpelling l.entries
