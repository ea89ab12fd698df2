-- The columns to group by are there, and what is shared is of the block's rows.
use Rattle.std.proofs.Common.{ℕ, List, Option, sym, subst, ◌∙◌}
use Rattle.rows.specs.Tables.{shape_in}
use Rattle.plans.specs.declared.cells.Cells.{Cells}
use Rattle.queries.specs.declared.column.Column.{Column}
use Rattle.queries.specs.Answers.{JoinedRow}
use Rattle.plans.specs.Inner.Cells.{AreColumnsOf}
use Rattle.plans.specs.Inner.Partnered.{HasLink, HaveKinds, joined_rows, joined_table}
use Rattle.plans.specs.Inner.Shared.{other_table}
use Rattle.plans.proofs.Fitting.{link, group-kinds}
use Rattle.plans.proofs.Sharing.{no-places}
use Rattle.plans.proofs.shared_rows.share_rows.Goals as goal

pub partners_if_joined-requires-clause-column : goal.partners_if_joined-requires-clause-column
partners_if_joined-requires-clause-column g c = λ _ _.
    let tables = g.S.Store.tables c.args.store.now in
    let plan = c.args.plan.now in
    subst (λ (table : ℕ). HasLink tables table plan.join) (sym c.requires.table)
    (link tables plan (c.each_part_fits.ensures (shape_in tables) plan c.requires.checked))

pub places-requires-clause-columns : goal.places-requires-clause-columns
places-requires-clause-columns g c = λ _ _.
    let tables = g.S.Store.tables c.args.store.now in
    let plan = c.args.plan.now in
    let table = c.args.block.now.table in
    let other : Option ℕ = joined_table c.in_ok-partners.partners in
    subst (λ (list : List Column). HaveKinds tables table other list) (sym c.as_slice.ensures)
    (subst (λ (o : Option ℕ). HaveKinds tables table o plan.groups) (sym c.in_ok-partners.ensures.table)
    (subst (λ (t : ℕ). HaveKinds tables t (other_table plan) plan.groups) (sym c.requires.table)
    (group-kinds tables plan (c.each_part_fits.ensures (shape_in tables) plan c.requires.checked))))

pub places-requires-clause-filled : goal.places-requires-clause-filled
places-requires-clause-filled g c = λ _ _.
    c.new-filled.ensures
    (joined_rows (g.S.Store.tables c.args.store.now) (g.S.Store.values_at c.args.store.now) c.args.block.now c.in_ok-partners.partners)

pub returns-clause-stays : goal.returns-clause-stays
returns-clause-stays g c = λ none.
    c.in_ok-numbers.ensures.stays
    (c.as_slice-2.ensures.value
    ∙ no-places c.places.new.self.cells.items c.in_ok-places.places.items c.as_slice.result.now _ c.in_ok-places.ensures.columns
    (c.as_slice.ensures ∙ none))

pub returns-clause-shared : goal.returns-clause-shared
returns-clause-shared g c =
    let rows : List JoinedRow =
    joined_rows (g.S.Store.tables c.args.store.now) (g.S.Store.values_at c.args.store.now) c.args.block.now c.in_ok-partners.partners in
    record {
      table = c.in_ok-partners.ensures.table;
      sound = c.in_ok-partners.ensures.sound;
      rows = c.in_ok-partners.ensures.joined;
      filled = c.in_ok-places.ensures.filled;
      numbers =
          c.in_ok-numbers.ensures.numbers c.args.plan.now.groups rows (sym c.row_count-count.ensures)
          (subst (λ (cells : List Cells). AreColumnsOf cells c.as_slice-2.result.now c.args.plan.now.groups rows) (sym c.cells.ensures)
          (subst (λ (places : List ℕ). AreColumnsOf c.places.new.self.cells.items places c.args.plan.now.groups rows)
          (sym c.as_slice-2.ensures.value)
          (subst (λ (named : List Column). AreColumnsOf c.places.new.self.cells.items c.in_ok-places.places.items named rows)
          c.as_slice.ensures c.in_ok-places.ensures.columns)));
    }
