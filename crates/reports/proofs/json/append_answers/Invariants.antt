-- The queries from the index on are left, and the answers before it are written.
use Rattle.std.proofs.Common.{◌≡◌, ℕ, ◌+◌, List, ◌++◌, length, map, take, drop}
use Rattle.std.specs.List.{join_with_byte}
use Rattle.queries.specs.declared.field.Field.{Field}
use Rattle.queries.specs.Report.{queries_text}
use Rattle.reports.specs.Json.{answer_json}
use Rattle.reports.proofs.json.append_answers.Given as goal

abbrev pub invariant-loop-index : goal.invariant-loop-index
invariant-loop-index l =
    (first : ℕ) (answers : List (List (List Field))) → l.text ≡ queries_text first answers → length answers ≡ l.count
    → (l.rest ≡ queries_text (first + l.index) (drop l.index answers))
    × (l.json.items ≡ l.initial.json.items ++ join_with_byte 44 (map answer_json (take l.index answers)))
