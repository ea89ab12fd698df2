-- The queries from the index on are left, and those before it are written.
use Rattle.std.proofs.Common.{◌≡◌, ℕ, ◌+◌, ◌≤◌, List, ◌++◌, length, take, drop}
use Rattle.queries.specs.declared.field.Field.{Field}
use Rattle.queries.specs.Report.{queries_text}
use Rattle.reports.proofs.parting.append_queries.Given as goal

abbrev pub invariant-loop-index : goal.invariant-loop-index
invariant-loop-index l =
    (first : ℕ) (answers : List (List (List Field))) → l.text ≡ queries_text first answers → l.count ≤ length answers
    → (l.rest ≡ queries_text (first + l.index) (drop l.index answers))
    × (l.part.items ≡ l.initial.part.items ++ queries_text 0 (take l.index answers))
