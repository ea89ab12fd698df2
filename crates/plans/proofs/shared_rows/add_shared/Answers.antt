-- What is added is what the plan selects of the shared rows.
use Rattle.std.proofs.Common.{◌≡◌, ℕ, ◌+◌, ◌≤◌, List, [], ◌++◌, Option, length, sym, ap, subst, ◌∙◌, arith, length-append}
use Rattle.std.specs.List.{filter, list_all}
use Rattle.std.proofs.lemmas.List.{append-nil, length-map}
use Rattle.rows.specs.declared.value.Value.{Value}
use Rattle.rows.specs.Tables.{shape_in}
use Rattle.queries.specs.declared.aggregate.Aggregate.{Aggregate}
use Rattle.plans.specs.declared.cells.Cells.{Cells}
use Rattle.queries.specs.declared.column.Column.{Column}
use Rattle.queries.specs.declared.condition.Condition.{Condition}
use Rattle.queries.specs.Answers.{JoinedRow, meets, joined_with, rows_among}
use Rattle.plans.specs.Inner.BlockRows.{rows_of_block}
use Rattle.plans.specs.Inner.Cells.{HaveColumns, AreColumnsOf}
use Rattle.plans.specs.Inner.Numbered.{AreNumbers, AreDistinct, IsShaped, IsTallied}
use Rattle.plans.specs.Inner.Partnered.{HaveKinds, joined_rows, joined_table}
use Rattle.plans.specs.Inner.Picked.{ArePlaces}
use Rattle.plans.specs.Inner.Selections.{HaveInputs, AreValuesOf, values_by, columns_of}
use Rattle.plans.specs.Inner.Shared.{other_table, HaveInputKinds}
use Rattle.plans.proofs.Blocks.{block-size}
use Rattle.plans.proofs.Fills.{have-grown, columns-grown}
use Rattle.plans.proofs.Fitting.{condition-kinds, input-kinds}
use Rattle.plans.proofs.Keeping.{rows_among-append}
use Rattle.plans.proofs.Selections.{shaped-more}
use Rattle.plans.proofs.Sharing.{numbers-size, numbers-within, columns-size, taken-few, distinct}
use Rattle.plans.proofs.shared_rows.add_shared.Goals as goal

pub grow-requires : goal.grow-requires
grow-requires g c =
    let is = c.requires.scanned.1 in
    let keys = ap length c.keys.ensures in
    let split = ap length is.split ∙ length-append is.before is.more in
    omega (arith, is.shaped.counts, split, keys)

pub places-requires-clause-partners : goal.places-requires-clause-partners
places-requires-clause-partners g c = λ _ _. c.requires.shared.sound

pub places-requires-clause-columns : goal.places-requires-clause-columns
places-requires-clause-columns g c = λ _ _.
    let tables = g.S.Store.tables c.args.store.now in
    let plan = c.args.plan.now in
    let table = c.args.block.now.table in
    let other : Option ℕ = joined_table c.args.shared.now.partners in
    subst (λ (list : List Column). HaveKinds tables table other list)
    (sym (c.as_slice-2.ensures.value ∙ c.in_ok-named.ensures ∙ ap columns_of c.as_slice.ensures))
    (subst (λ (o : Option ℕ). HaveKinds tables table o (columns_of plan.conditions)) (sym c.requires.shared.table)
    (subst (λ (t : ℕ). HaveKinds tables t (other_table plan) (columns_of plan.conditions)) (sym c.requires.table)
    (condition-kinds tables plan (c.each_part_fits.ensures (shape_in tables) plan c.requires.checked))))

pub places-requires-clause-filled : goal.places-requires-clause-filled
places-requires-clause-filled g c = λ _ _. c.requires.shared.filled

pub input_places-requires-clause-partners : goal.input_places-requires-clause-partners
input_places-requires-clause-partners g c = λ _ _. c.requires.shared.sound

pub input_places-requires-clause-columns : goal.input_places-requires-clause-columns
input_places-requires-clause-columns g c = λ _ _.
    let tables = g.S.Store.tables c.args.store.now in
    let plan = c.args.plan.now in
    let table = c.args.block.now.table in
    let other : Option ℕ = joined_table c.args.shared.now.partners in
    subst (λ (list : List Aggregate). HaveInputKinds tables table other list) (sym c.as_slice-3.ensures)
    (subst (λ (o : Option ℕ). HaveInputKinds tables table o plan.aggregates) (sym c.requires.shared.table)
    (subst (λ (t : ℕ). HaveInputKinds tables t (other_table plan) plan.aggregates) (sym c.requires.table)
    (input-kinds tables plan (c.each_part_fits.ensures (shape_in tables) plan c.requires.checked))))

pub input_places-requires-clause-filled : goal.input_places-requires-clause-filled
input_places-requires-clause-filled g c = λ _ _. c.in_ok-conditions.ensures.filled

pub add_rows-requires-clause-conditions : goal.add_rows-requires-clause-conditions
add_rows-requires-clause-conditions g c =
    let tables = g.S.Store.tables c.args.store.now in
    let shared = c.args.shared.now in
    let rows : List JoinedRow = joined_rows tables (g.S.Store.values_at c.args.store.now) c.args.block.now shared.partners in
    let numbers = shared.numbers.items in
    let places = c.in_ok-conditions.conditions.items in
    let sizes : length rows ≡ length c.as_slice-4.result.now =
    sym (ap length c.as_slice-4.ensures.value
    ∙ numbers-size c.args.numbering.now.keys.items c.args.plan.now.groups rows numbers c.requires.shared.numbers) in
    subst (λ (n : ℕ). HaveColumns c.cells.result.now places n) sizes
    (subst (λ (cells : List Cells). HaveColumns cells places (length rows)) (sym c.cells.ensures)
    (have-grown c.places.new.self.cells.items c.input_places.new.filled.cells.items places (length rows) c.in_ok-aggregates.ensures.grows
    c.in_ok-conditions.ensures.there))

pub add_rows-requires-clause-named : goal.add_rows-requires-clause-named
add_rows-requires-clause-named g c =
    columns-size c.places.new.self.cells.items c.in_ok-conditions.conditions.items c.as_slice-2.result.now _
    c.in_ok-conditions.ensures.columns
    ∙ ap length (c.as_slice-2.ensures.value ∙ c.in_ok-named.ensures ∙ ap columns_of c.as_slice.ensures)
    ∙ length-map c.args.plan.now.conditions (λ (condition : Condition). condition.column)

pub add_rows-requires-clause-aggregates : goal.add_rows-requires-clause-aggregates
add_rows-requires-clause-aggregates g c =
    let tables = g.S.Store.tables c.args.store.now in
    let shared = c.args.shared.now in
    let plan = c.args.plan.now in
    let rows : List JoinedRow = joined_rows tables (g.S.Store.values_at c.args.store.now) c.args.block.now shared.partners in
    let places = c.in_ok-aggregates.aggregates.items in
    let sizes : length rows ≡ length c.as_slice-4.result.now =
    sym (ap length c.as_slice-4.ensures.value
    ∙ numbers-size c.args.numbering.now.keys.items plan.groups rows shared.numbers.items c.requires.shared.numbers) in
    subst (λ (n : ℕ). HaveInputs c.cells.result.now places n plan.aggregates) sizes
    (subst (λ (cells : List Cells). HaveInputs cells places (length rows) plan.aggregates) (sym c.cells.ensures)
    (subst (λ (list : List Aggregate). HaveInputs c.input_places.new.filled.cells.items places (length rows) list) c.as_slice-3.ensures
    c.in_ok-aggregates.ensures.there))

pub add_rows-requires-clause-places : goal.add_rows-requires-clause-places
add_rows-requires-clause-places g c =
    let tables = g.S.Store.tables c.args.store.now in
    let shared = c.args.shared.now in
    let plan = c.args.plan.now in
    let rows : List JoinedRow = joined_rows tables (g.S.Store.values_at c.args.store.now) c.args.block.now shared.partners in
    let before = c.requires.scanned.1 in
    let count =
    (c.in_ok-grow.ensures.shaped plan.aggregates c.args.block.now.from
    (subst (λ (n : ℕ). IsShaped n c.args.block.now.from plan.aggregates c.args.tallies.now) (sym before.shaped.counts)
    before.shaped)).counts in
    subst (ArePlaces (length c.grow.new.self.counts.items)) (sym c.as_slice-4.ensures.value)
    (subst (λ (n : ℕ). ArePlaces n shared.numbers.items) (sym (count ∙ ap length c.keys.ensures))
    (numbers-within c.args.numbering.now.keys.items plan.groups rows shared.numbers.items c.requires.shared.numbers))

pub add_rows-requires-clause-shaped : goal.add_rows-requires-clause-shaped
add_rows-requires-clause-shaped g c =
    let plan = c.args.plan.now in
    let before = c.requires.scanned.1 in
    let shaped =
    c.in_ok-grow.ensures.shaped plan.aggregates c.args.block.now.from
    (subst (λ (n : ℕ). IsShaped n c.args.block.now.from plan.aggregates c.args.tallies.now) (sym before.shaped.counts) before.shaped) in
    subst (λ (n : ℕ). IsShaped n c.args.block.now.from plan.aggregates c.grow.new.self) (sym shaped.counts) shaped

pub add_rows-requires-clause-few : goal.add_rows-requires-clause-few
add_rows-requires-clause-few g c =
    let tables = g.S.Store.tables c.args.store.now in
    let shared = c.args.shared.now in
    let plan = c.args.plan.now in
    let block = c.args.block.now in
    let rows : List JoinedRow = joined_rows tables (g.S.Store.values_at c.args.store.now) block shared.partners in
    let size =
    ap length c.as_slice-4.ensures.value
    ∙ numbers-size c.args.numbering.now.keys.items plan.groups rows shared.numbers.items c.requires.shared.numbers
    ∙ ap length c.requires.shared.rows in
    let few = taken-few (λ row. joined_with tables plan.join row.1) (rows_of_block tables block) in
    omega (arith, size, few, block-size tables block, c.requires.few)

pub returns-clause-shared : goal.returns-clause-shared
returns-clause-shared g c = record {
  table = c.requires.shared.table;
  sound = c.requires.shared.sound;
  rows = c.requires.shared.rows;
  filled = c.in_ok-aggregates.ensures.filled;
  numbers = c.requires.shared.numbers;
}

pub returns-clause-scanned : goal.returns-clause-scanned
returns-clause-scanned g c = λ scanned is.
    let tables = g.S.Store.tables c.args.store.now in
    let shared = c.args.shared.now in
    let plan = c.args.plan.now in
    let block = c.args.block.now in
    let keys = c.args.numbering.now.keys.items in
    let new = c.add_rows.new.tallies in
    let rows : List JoinedRow = joined_rows tables (g.S.Store.values_at c.args.store.now) block shared.partners in
    let earlier : List JoinedRow = rows_among tables plan scanned in
    let numbers = c.as_slice-4.result.now in
    let size = ap length c.as_slice-4.ensures.value ∙ numbers-size keys plan.groups rows shared.numbers.items c.requires.shared.numbers in
    let few = taken-few (λ row. joined_with tables plan.join row.1) (rows_of_block tables block) in
    let within : block.from + length numbers ≤ block.from + length block.ids.now =
    omega (arith, size, ap length c.requires.shared.rows, few, block-size tables block) in
    let shaped_before = subst (λ (n : ℕ). IsShaped n block.from plan.aggregates c.args.tallies.now) (sym is.shaped.counts) is.shaped in
    let grown = c.in_ok-grow.ensures.shaped plan.aggregates block.from shaped_before in
    let count : length c.grow.new.self.counts.items ≡ length keys = grown.counts ∙ ap length c.keys.ensures in
    let told : IsTallied plan.groups plan.aggregates keys earlier c.grow.new.self =
    subst (λ (list : List (List Value)). IsTallied plan.groups plan.aggregates list earlier c.grow.new.self) (sym is.split)
    (c.in_ok-grow.ensures.tallied plan.groups plan.aggregates is.before is.more earlier block.from
    (sym (ap length is.split) ∙ sym (ap length c.keys.ensures))
    (subst (λ (list : List (List Value)). AreDistinct list) is.split (distinct c.args.numbering.now c.requires.numbering))
    shaped_before is.tallied) in
    let named : AreColumnsOf c.cells.result.now c.in_ok-conditions.conditions.items (columns_of plan.conditions) rows =
    subst (λ (cells : List Cells). AreColumnsOf cells c.in_ok-conditions.conditions.items (columns_of plan.conditions) rows)
    (sym c.cells.ensures)
    (subst (λ (list : List Column). AreColumnsOf c.input_places.new.filled.cells.items c.in_ok-conditions.conditions.items list rows)
    (c.as_slice-2.ensures.value ∙ c.in_ok-named.ensures ∙ ap columns_of c.as_slice.ensures)
    (columns-grown c.places.new.self.cells.items c.input_places.new.filled.cells.items c.in_ok-conditions.conditions.items (length rows)
    c.as_slice-2.result.now rows c.in_ok-aggregates.ensures.grows c.in_ok-conditions.ensures.there c.in_ok-conditions.ensures.columns)) in
    let inputs : AreValuesOf (values_by c.cells.result.now c.in_ok-aggregates.aggregates.items) plan.aggregates rows =
    subst (λ (cells : List Cells). AreValuesOf (values_by cells c.in_ok-aggregates.aggregates.items) plan.aggregates rows)
    (sym c.cells.ensures)
    (subst (λ (list : List Aggregate). AreValuesOf (values_by c.input_places.new.filled.cells.items c.in_ok-aggregates.aggregates.items)
    list rows)
    c.as_slice-3.ensures c.in_ok-aggregates.ensures.values) in
    let numbered : AreNumbers keys plan.groups rows numbers =
    subst (AreNumbers keys plan.groups rows) (sym c.as_slice-4.ensures.value) c.requires.shared.numbers in
    let after = c.in_ok-add_rows.ensures.tallied keys earlier rows (sym size) named inputs numbered told in
    record {
      before = keys;
      more = [];
      split = sym (append-nil keys);
      shaped =
          shaped-more (length keys) (block.from + length numbers) (block.from + length block.ids.now) plan.aggregates new within
          (subst (λ (n : ℕ). IsShaped n (block.from + length numbers) plan.aggregates new) count c.in_ok-add_rows.ensures.shaped);
      tallied =
          subst (λ (list : List JoinedRow). IsTallied plan.groups plan.aggregates keys list new)
          (ap (λ (list : List JoinedRow). earlier ++ filter (λ row. list_all (meets row) plan.conditions) list) c.requires.shared.rows
          ∙ sym (rows_among-append tables plan scanned (rows_of_block tables block))) after;
    }
