-- Own columns are gathered at the positions, joined ones at the places of the partners.
use Rattle.std.proofs.Common.{◌∙◌}
use Rattle.plans.specs.Inner.Cells.{values_of}
use Rattle.plans.proofs.Pairs.{own-joined, other-joined, others-there}
use Rattle.plans.proofs.joined_cells.column_cells.Goals as goal

pub returns-in-Own : goal.returns-in-Own
returns-in-Own g c =
    own-joined (g.S.Store.tables c.args.store.now) (g.S.Store.values_at c.args.store.now) c.args.block.now c.args.partners.now
    c.in-Some.partners c.args.column c.in-Own.column c.in-Some.is c.requires.partners
    (values_of c.in_ok-cells-in-Own.cells) (values_of c.in_ok-at-in-Some.field-0) c.as_slice.result.now c.in-Own.is
    c.in_ok-cells-in-Own.ensures c.as_slice.ensures.value c.in_ok-at-in-Some.ensures

pub partner_values-requires-clause-there : goal.partner_values-requires-clause-there
partner_values-requires-clause-there g c = λ _ _.
    others-there (g.S.Store.tables c.args.store.now) (g.S.Store.values_at c.args.store.now) c.args.block.now c.args.partners.now
    c.in-Some-partners.partners c.args.column c.in-Joined.column c.in-Some-partners.is c.requires.partners c.in-Joined.is c.requires.column

pub returns : goal.returns
returns g c =
    other-joined (g.S.Store.tables c.args.store.now) (g.S.Store.values_at c.args.store.now) c.args.block.now c.args.partners.now
    c.in-Some-partners.partners c.args.column c.in-Joined.column c.in-Some-partners.is c.requires.partners
    (values_of c.in_ok-cells-in-Some-partners.cells) c.in-Joined.is
    (c.in_ok-cells-in-Some-partners.ensures ∙ c.in_ok-values-in-Some-partners.ensures)
