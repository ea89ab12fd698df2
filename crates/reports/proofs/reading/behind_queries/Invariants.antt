-- The queries from the index on are left.
use Rattle.std.proofs.Common.{◌≡◌, ℕ, ◌+◌, ◌≤◌, List, length, drop}
use Rattle.queries.specs.declared.field.Field.{Field}
use Rattle.queries.specs.Report.{queries_text}
use Rattle.reports.proofs.reading.behind_queries.Given as goal

abbrev pub invariant-loop-index : goal.invariant-loop-index
invariant-loop-index l =
    (first : ℕ) (answers : List (List (List Field))) → l.text ≡ queries_text first answers → l.count ≤ length answers
    → l.rest ≡ queries_text (first + l._index) (drop l._index answers)
