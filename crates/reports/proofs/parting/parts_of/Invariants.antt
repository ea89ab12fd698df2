-- The answers that are left, and what was shared out of those before them.
use Rattle.std.proofs.Common.{◌≡◌, ℕ, ◌≤◌, List, ◌++◌, length, drop, map, decimal}
use Rattle.std.specs.Prelude.{sum}
use Rattle.queries.specs.declared.field.Field.{Field}
use Rattle.queries.specs.Report.{queries_text, report_text}
use Rattle.reports.specs.Parts.{report_parts}
use Rattle.reports.proofs.parting.parts_of.Given as goal

abbrev pub invariant-loop-index : goal.invariant-loop-index
invariant-loop-index l =
    (version : ℕ) (answers : List (List (List Field))) → l.report ≡ report_text version answers → sum l.counts ≤ length answers
    → (first : ℕ) × (left : List (List (List Field))) × (l.head.number.now ≡ decimal version) × (l.rest ≡ queries_text first left)
    × (sum (drop l.index l.counts) ≤ length left)
    × (map (λ part. part.items) l.parts.items ++ report_parts version (drop l.index l.counts) left
    ≡ report_parts version l.counts answers)
