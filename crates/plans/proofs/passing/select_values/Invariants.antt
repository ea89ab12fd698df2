-- Those selected of the positions so far.
use Rattle.std.proofs.Common.{◌≡◌, take}
use Rattle.std.specs.List.{filter}
use Rattle.plans.specs.Inner.Cells.{does_pass}
use Rattle.plans.proofs.passing.select_values.Given as goal

abbrev pub invariant-loop-position : goal.invariant-loop-position
invariant-loop-position l = l.selected.items ≡ filter (does_pass l.condition l.values) (take l.position-index l.positions)
