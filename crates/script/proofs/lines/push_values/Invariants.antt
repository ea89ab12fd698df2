-- The values so far are written.
use Rattle.std.proofs.Common.{◌≡◌, ◌++◌, map, take}
use Rattle.rows.specs.Text.{value_text}
use Rattle.script.specs.Inner.Lines.{tail_text}
use Rattle.script.proofs.lines.push_values.Given as goal

abbrev pub invariant-loop-value : goal.invariant-loop-value
invariant-loop-value l = l.text.items ≡ l.fn.text.items ++ tail_text (map value_text (take l.value-index l.values))
