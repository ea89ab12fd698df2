-- The lines from the index on are left.
use Rattle.std.proofs.Common.{◌≡◌, ℕ, ◌≤◌, List, ◌++◌, length, drop}
use Rattle.queries.specs.declared.field.Field.{Field}
use Rattle.reports.specs.Inner.Pieces.{lines_text}
use Rattle.reports.proofs.reading.lines_of.Given as goal

abbrev pub invariant-loop-index : goal.invariant-loop-index
invariant-loop-index l =
    (length l.rest ≤ length l.text)
    × ((lines : List (List Field)) (back : List ℕ) → length lines ≡ l.count → l.text ≡ lines_text lines ++ back
    → l.rest ≡ lines_text (drop l._index lines) ++ back)
