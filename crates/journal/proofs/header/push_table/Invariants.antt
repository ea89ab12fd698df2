-- The codes of the kinds so far.
use Rattle.std.proofs.Common.{◌≡◌, ◌+◌, ◌∷◌, ◌++◌, length, map, take}
use Rattle.rows.specs.Spelling.{kind_code}
use Rattle.journal.proofs.header.push_table.Given as goal

abbrev pub invariant-loop-kind : goal.invariant-loop-kind
invariant-loop-kind l = record {
  written : l.bytes.items ≡ l.fn.bytes.items ++ (length l.kinds ∷ map kind_code (take l.kind-index l.kinds));
  count : length l.bytes.items ≡ length l.fn.bytes.items + 1 + l.kind-index;
}
