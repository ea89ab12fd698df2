-- The lines from the index on are left, and those before it are written.
use Rattle.std.proofs.Common.{◌≡◌, List, ◌++◌, length, map, take, drop}
use Rattle.std.specs.List.{join_with_byte}
use Rattle.queries.specs.declared.field.Field.{Field}
use Rattle.reports.specs.Inner.Pieces.{lines_text}
use Rattle.reports.specs.Json.{line_json}
use Rattle.reports.proofs.json.append_lines.Given as goal

abbrev pub invariant-loop-index : goal.invariant-loop-index
invariant-loop-index l =
    (lines : List (List Field)) → length lines ≡ l.count → l.text ≡ lines_text lines
    → (l.rest ≡ lines_text (drop l.index lines))
    × (l.json.items ≡ l.initial.json.items ++ join_with_byte 44 (map line_json (take l.index lines)))
