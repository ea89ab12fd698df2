-- The values of the partners so far.
use Rattle.std.proofs.Common.{◌≡◌, take}
use Rattle.plans.specs.Inner.Partnered.{column_at}
use Rattle.plans.proofs.joined_cells.partner_values.Given as goal

abbrev pub invariant-loop-place : goal.invariant-loop-place
invariant-loop-place g l =
    l.values.items
    ≡ column_at (g.S.Store.values_at l.store l.partners.table) (take l.place-index l.partners.places.items) l.column
