-- The columns before the last.
use Rattle.std.proofs.Common.{◌≡◌, ℕ, ◌-◌, List, [], ◌∷◌, ◌++◌, length, take, Option, None, Some, refl, sym, ap, subst, ◌∙◌, arith}
use Rattle.std.specs.Option.{option_to_list}
use Rattle.std.proofs.lemmas.List.{length-append, length-take-le}
use Rattle.apply.specs.declared.cells.Cells.{Cells}
use Rattle.apply.specs.Blocks.{table_with, narrower}
use Rattle.apply.proofs.Built.{IsTable}
use Rattle.apply.proofs.Widened.{table-narrower, bare-narrower}
use Rattle.apply.proofs.block.Block.drop_column.Goals as goal
use Rattle.apply.proofs.block.Block.drop_column.Goals.{Joined-pop}

none : (columns : List Cells) → length columns ≡ 0 → columns ≡ []
none [] h = refl
none (column ∷ columns) h = absurd (omega arith)

left : (ids : List ℕ) (olds news : List Cells) (popped : Option Cells) → IsTable ids olds → olds ≡ news ++ option_to_list popped
    → news ≡ take (length olds - 1) olds → IsTable ids news × (table_with ids news ≡ narrower (table_with ids olds))
left ids olds news (Some column) is e rest =
    let both = table-narrower ids news column (subst (IsTable ids) e is) in
    (both.0, both.1 ∙ ap (λ (columns : List Cells). narrower (table_with ids columns)) (sym e))
left ids olds news None is e rest =
    let many : length (take (length olds - 1) olds) ≡ length olds - 1 = length-take-le (length olds - 1) olds (omega arith) in
    let old = none olds (omega (arith, ap length e, length-append news [], ap length rest, many)) in
    let new = none news (omega (arith, ap length e, length-append news [], ap length old)) in
    let same : news ≡ olds = new ∙ sym old in (
      subst (IsTable ids) (sym same) is,
      ap (table_with ids) new ∙ bare-narrower ids ∙ ap (λ (columns : List Cells). narrower (table_with ids columns)) (sym old),
    )

both : (c : Joined-pop) → IsTable c.self.inside.ids.items c.pop.new.self.items
    × (table_with c.self.inside.ids.items c.pop.new.self.items
    ≡ narrower (table_with c.self.inside.ids.items c.self.inside.columns.items))
both c =
    left c.self.inside.ids.items c.self.inside.columns.items c.pop.new.self.items c.pop.result
    (record { cells = c.self.invariant.cells; rise = c.self.invariant.rise }) c.pop.ensures.items
    (c.pop.ensures.rest ∙ ap (λ n. take (n - 1) c.self.inside.columns.items) c.self.inside.columns.ok.0)

pub invariant_of-self : goal.invariant_of-self
invariant_of-self c = let is = (both c).0 in record { cells = is.cells; rise = is.rise }

pub returns : goal.returns
returns c = rw (← c.self.view_is) (both (goal.at.returns c).Joined-pop).1
