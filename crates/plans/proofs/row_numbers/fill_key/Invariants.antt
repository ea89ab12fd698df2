-- The values in the columns so far.
use Rattle.std.proofs.Common.{◌≡◌, take}
use Rattle.plans.specs.Inner.Cells.{key_at}
use Rattle.plans.proofs.row_numbers.fill_key.Given as goal

abbrev pub invariant-loop-place : goal.invariant-loop-place
invariant-loop-place l = l.key ≡ key_at l.columns (take l.place-index l.places) l.row
