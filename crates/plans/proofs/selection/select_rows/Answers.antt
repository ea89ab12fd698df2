-- The first condition, and then one condition more; at the end all are met.
use Rattle.std.proofs.Common.{◌≡◌, ◌<◌, ◌≤◌, ◌∙◌, ◌==◌, Bool, false, not, ℕ, List, [], length, map, get_or, refl, sym, ap, subst, arith}
use Rattle.std.specs.List.{filter, list_all, range_with_len}
use Rattle.std.proofs.lemmas.Bool.Decides.{nat_tests}
use Rattle.std.proofs.lemmas.List.{get_or_default, take_all}
use Rattle.std.proofs.lemmas.List.Filters.{length-filter_both}
use Rattle.std.proofs.lemmas.List.FromFn.{length-range_with_len}
use Rattle.std.proofs.lemmas.Result.{IfOk-weaker}
use Rattle.queries.specs.declared.condition.Condition.{Condition}
use Rattle.queries.specs.Answers.{JoinedRow, meets}
use Rattle.plans.specs.Inner.Picked.{ArePlaces}
use Rattle.plans.specs.Inner.Cells.{values_of, values_at, does_pass, AreColumnsOf}
use Rattle.plans.specs.Inner.Selections.{joined_at, columns_of}
use Rattle.plans.proofs.Selections.{places-filter, places-range, rows-range, filter-true, nothing, selected-first, selected-next, cells-at}
use Rattle.plans.proofs.selection.select_rows.Goals as goal

-- no more are selected than there are
fewer : (pass : ℕ → Bool) (positions : List ℕ) (count : ℕ) → length positions ≤ count → length (filter pass positions) ≤ count
fewer pass positions count most =
    let both = length-filter_both pass (λ position. not (pass position)) (λ position. refl) positions in
    omega (arith, both, most)

pub returns-then-is_empty-clause-places : goal.returns-then-is_empty-clause-places
returns-then-is_empty-clause-places c =
    IfOk-weaker c.all_positions.result _ (λ positions. ArePlaces c.args.count positions.items)
    (λ positions e. subst (ArePlaces c.args.count) (sym e) (places-range c.args.count)) c.all_positions.ensures

pub returns-then-is_empty-clause-few : goal.returns-then-is_empty-clause-few
returns-then-is_empty-clause-few c =
    IfOk-weaker c.all_positions.result _ (λ positions. length positions.items ≤ c.args.count)
    (λ positions e. let size = ap length e ∙ length-range_with_len 0 c.args.count in omega (arith, size)) c.all_positions.ensures

pub returns-then-is_empty-clause-rows : goal.returns-then-is_empty-clause-rows
returns-then-is_empty-clause-rows c =
    let conditions = c.args.conditions.now in
    let none : conditions ≡ [] = nothing conditions (sym c.is_empty.ensures ∙ c.if-is_empty.true) in
    IfOk-weaker c.all_positions.result _
    (λ positions. (rows : List JoinedRow) → length rows ≡ c.args.count
    → AreColumnsOf c.args.columns.now c.args.places.now (columns_of conditions) rows
    → map (joined_at rows) positions.items ≡ filter (λ row. list_all (meets row) conditions) rows)
    (λ positions e. λ rows many are.
    ap (map (joined_at rows)) e ∙ rows-range rows c.args.count many ∙ sym (filter-true rows)
    ∙ ap (λ (list : List Condition). filter (λ row. list_all (meets row) list) rows) (sym none))
    c.all_positions.ensures

pub loop-index-init : goal.loop-index-init
loop-index-init c =
    let conditions = c.args.conditions.now in
    let columns = c.args.columns.now in
    let places = c.args.places.now in
    let count = c.args.count in
    let empty : (length conditions == 0) ≡ false = sym c.is_empty.ensures ∙ c.if-is_empty.false in
    let some : 0 < length conditions = grind (arith, nat_tests, empty) in
    let condition = c.index-conditions-0.result in
    let cells = c.index-columns-places.result in
    let place = get_or places 0 0 in
    let there = c.requires.columns 0 0 (omega (arith, some, c.requires.named)) in
    let held : values_of cells ≡ values_at columns place = ap values_of c.index-columns-places.is ∙ cells-at columns place _ there.0 in
    let size : length (values_of cells) ≡ count = ap length held ∙ there.1 in
    let pass = does_pass condition (values_of cells) in
    let is = c.in_ok-positions.ensures ∙ ap (λ n. filter pass (range_with_len 0 n)) size in
    rw is (record {
      places = places-filter pass count (range_with_len 0 count) (places-range count);
      few = let long = length-range_with_len 0 count in fewer pass (range_with_len 0 count) count (omega (arith, long));
      rows = λ rows many are.
          selected-first conditions columns places count condition cells some c.requires.named
          (c.index-conditions-0.is ∙ get_or_default conditions 0 _ condition some) held rows many are;
    })

pub select_cells-requires : goal.select_cells-requires
select_cells-requires c =
    let columns = c.args.columns.now in
    let k = c.loop-index.index in
    let cells = c.index-columns-places-in-loop-index.result in
    let place = get_or c.args.places.now k 0 in
    let there = c.requires.columns k 0 (omega (arith, c.loop-index-test.true, c.requires.named)) in
    let size : length (values_of cells) ≡ c.args.count =
    ap length (ap values_of c.index-columns-places-in-loop-index.is ∙ cells-at columns place _ there.0) ∙ there.1 in
    subst (ArePlaces (length (values_of cells))) (sym c.as_slice.ensures.value)
    (subst (λ (n : ℕ). ArePlaces n c.loop-index.positions.items) (sym size) c.loop-index.invariant.places)

pub loop-index-preserved : goal.loop-index-preserved
loop-index-preserved c =
    let conditions = c.args.conditions.now in
    let columns = c.args.columns.now in
    let places = c.args.places.now in
    let k = c.loop-index.index in
    let kept = c.loop-index.invariant in
    let lt : k < length conditions = c.loop-index-test.true in
    let condition = c.index-conditions-index.result in
    let cells = c.index-columns-places-in-loop-index.result in
    let place = get_or places k 0 in
    let there : place < length columns = (c.requires.columns k 0 (omega (arith, lt, c.requires.named))).0 in
    let held : values_of cells ≡ values_at columns place =
    ap values_of c.index-columns-places-in-loop-index.is ∙ cells-at columns place _ there in
    let pass = does_pass condition (values_of cells) in
    let is = c.in_ok-selected.ensures ∙ ap (filter pass) c.as_slice.ensures.value in
    rw is (record {
      places = places-filter pass c.args.count c.loop-index.positions.items kept.places;
      few = fewer pass c.loop-index.positions.items c.args.count kept.few;
      rows = λ rows many are.
          selected-next conditions columns places c.args.count k c.loop-index.positions.items condition cells lt c.requires.named
          kept.places
          (c.index-conditions-index.is ∙ get_or_default conditions k _ condition lt) held rows many are (kept.rows rows many are);
    })

pub returns-clause-places : goal.returns-clause-places
returns-clause-places c = c.loop-index.invariant.places

pub returns-clause-few : goal.returns-clause-few
returns-clause-few c = c.loop-index.invariant.few

pub returns-clause-rows : goal.returns-clause-rows
returns-clause-rows c = λ rows many are.
    c.loop-index.invariant.rows rows many are
    ∙ ap (λ list. filter (λ row. list_all (meets row) list) rows)
    (take_all c.loop-index.index c.args.conditions.now c.loop-index-test.false)
