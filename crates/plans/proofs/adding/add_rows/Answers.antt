-- The rows that are added are those that meet the conditions.
use Rattle.std.proofs.Common.{◌≡◌, ◌+◌, ◌++◌, ◌∙◌, ℕ, List, [], length, map, get_or, sym, ap, subst, arith}
use Rattle.std.specs.List.{filter, list_all}
use Rattle.std.proofs.lemmas.List.{length-map}
use Rattle.queries.specs.declared.aggregate.Aggregate.{Aggregate}
use Rattle.queries.specs.declared.condition.Condition.{Condition}
use Rattle.queries.specs.Answers.{JoinedRow, meets}
use Rattle.plans.specs.Inner.Cells.{value_at, AreColumnsOf}
use Rattle.plans.specs.Inner.Numbered.{AreNumbers, IsShaped, IsTallied}
use Rattle.plans.specs.Inner.Picked.{ArePlaces}
use Rattle.plans.specs.Inner.Selections.{ValuesBy, AreHeldBy, AreValuesOf, joined_at, values_by, columns_of}
use Rattle.plans.proofs.Selections.{filter-true, nothing, places-at, numbers-at-positions, are-values-at, shaped-more}
use Rattle.plans.proofs.adding.add_rows.Goals as goal

pub returns-then-is_empty-clause-tallied : goal.returns-then-is_empty-clause-tallied
returns-then-is_empty-clause-tallied c = λ keys earlier more sizes named are numbered told.
    let plan = c.args.plan.now in
    let columns = c.args.columns.now in
    let aggregates = c.as_slice-aggregates.result.now in
    let new = c.add_held.new.tallies in
    let values : ValuesBy = values_by columns c.as_slice-inputs.result.now in
    let held = subst (AreHeldBy values aggregates) (sym c.as_slice.ensures.value) c.in_ok-held.ensures in
    let takes : AreValuesOf values aggregates more =
    subst (λ (list : List Aggregate). AreValuesOf values list more) (sym c.as_slice-aggregates.ensures)
    (subst (λ (places : List ℕ). AreValuesOf (values_by columns places) plan.aggregates more) (sym c.as_slice-inputs.ensures.value) are) in
    let before =
    subst (λ (list : List Aggregate). IsTallied plan.groups list keys earlier c.args.tallies.now) (sym c.as_slice-aggregates.ensures)
    told in
    let after = c.in_ok-add_held.ensures.tallied values plan.groups keys earlier more held takes numbered before in
    let none : plan.conditions ≡ [] =
    sym c.as_slice-conditions.ensures
    ∙ nothing c.as_slice-conditions.result.now (sym c.is_empty.ensures ∙ c.if-is_empty.true) in
    subst (λ (list : List JoinedRow). IsTallied plan.groups plan.aggregates keys (earlier ++ list) new)
    (sym (ap (λ (conditions : List Condition). filter (λ row. list_all (meets row) conditions) more) none ∙ filter-true more))
    (subst (λ (list : List Aggregate). IsTallied plan.groups list keys (earlier ++ more) new) c.as_slice-aggregates.ensures after)

pub add_held-requires-2-clause-places : goal.add_held-requires-2-clause-places
add_held-requires-2-clause-places c =
    let numbers = c.args.numbers.now in
    let at : ℕ → ℕ = λ position. get_or numbers position 0 in
    subst (ArePlaces (length c.args.tallies.now.counts.items))
    (sym (c.as_slice-6.ensures.value ∙ c.in_ok-selected.ensures ∙ ap (map at) c.as_slice-4.ensures.value))
    (places-at (length c.args.tallies.now.counts.items) numbers c.in_ok-positions.positions.items c.in_ok-positions.ensures.places
    c.requires.places)

pub add_held-requires-2-clause-few : goal.add_held-requires-2-clause-few
add_held-requires-2-clause-few c =
    let numbers = c.args.numbers.now in
    let at : ℕ → ℕ = λ position. get_or numbers position 0 in
    let size =
    ap length (c.as_slice-6.ensures.value ∙ c.in_ok-selected.ensures ∙ ap (map at) c.as_slice-4.ensures.value)
    ∙ length-map c.in_ok-positions.positions.items at in
    omega (arith, size, c.in_ok-positions.ensures.few, c.requires.few)

pub returns-clause-shaped : goal.returns-clause-shaped
returns-clause-shaped c =
    let numbers = c.args.numbers.now in
    let places = length c.args.tallies.now.counts.items in
    let at : ℕ → ℕ = λ position. get_or numbers position 0 in
    let size =
    ap length (c.as_slice-6.ensures.value ∙ c.in_ok-selected.ensures ∙ ap (map at) c.as_slice-4.ensures.value)
    ∙ length-map c.in_ok-positions.positions.items at in
    shaped-more places (c.args.rows + length c.as_slice-6.result.now) (c.args.rows + length numbers) c.args.plan.now.aggregates
    c.add_held-2.new.tallies (omega (arith, size, c.in_ok-positions.ensures.few))
    (subst (λ (list : List Aggregate). IsShaped places (c.args.rows + length c.as_slice-6.result.now) list c.add_held-2.new.tallies)
    c.as_slice-aggregates.ensures
    c.in_ok-add_held-2.ensures.shaped)

pub returns-clause-tallied : goal.returns-clause-tallied
returns-clause-tallied c = λ keys earlier more sizes named are numbered told.
    let plan = c.args.plan.now in
    let columns = c.args.columns.now in
    let numbers = c.args.numbers.now in
    let aggregates = c.as_slice-aggregates.result.now in
    let conditions = c.as_slice-conditions.result.now in
    let positions = c.in_ok-positions.positions.items in
    let new = c.add_held-2.new.tallies in
    let all : ArePlaces (length more) positions =
    subst (λ (n : ℕ). ArePlaces n positions) (sym sizes) c.in_ok-positions.ensures.places in
    let taken : List JoinedRow = map (joined_at more) positions in
    let at : ℕ → ℕ = λ position. get_or numbers position 0 in
    let conditioned : AreColumnsOf columns c.as_slice-2.result.now (columns_of conditions) more =
    subst (λ (places : List ℕ). AreColumnsOf columns places (columns_of conditions) more) (sym c.as_slice-2.ensures.value)
    (subst (λ (list : List Condition). AreColumnsOf columns c.args.places.now.conditions.items (columns_of list) more)
    (sym c.as_slice-conditions.ensures) named) in
    let selects =
    c.in_ok-positions.ensures.rows more sizes conditioned
    ∙ ap (λ (list : List Condition). filter (λ row. list_all (meets row) list) more) c.as_slice-conditions.ensures in
    let values : ValuesBy = λ k. map (value_at (values_by columns c.as_slice-inputs.result.now k)) c.as_slice-3.result.now in
    let held = subst (AreHeldBy values aggregates) (sym c.as_slice-5.ensures.value) c.in_ok-held-2.ensures in
    let takes : AreValuesOf values aggregates taken =
    subst (λ (list : List Aggregate). AreValuesOf values list taken) (sym c.as_slice-aggregates.ensures)
    (subst (λ (list : List ℕ). AreValuesOf (λ k. map (value_at (values_by columns c.as_slice-inputs.result.now k)) list) plan.aggregates
    taken)
    (sym c.as_slice-3.ensures.value)
    (subst (λ (places : List ℕ). AreValuesOf (λ k. map (value_at (values_by columns places k)) positions) plan.aggregates taken)
    (sym c.as_slice-inputs.ensures.value)
    (are-values-at plan.aggregates more (values_by columns c.args.places.now.aggregates.items) positions all are))) in
    let numbers_of : AreNumbers keys plan.groups taken c.as_slice-6.result.now =
    subst (AreNumbers keys plan.groups taken)
    (sym (c.as_slice-6.ensures.value ∙ c.in_ok-selected.ensures ∙ ap (map at) c.as_slice-4.ensures.value))
    (numbers-at-positions keys plan.groups more numbers positions all numbered) in
    let before =
    subst (λ (list : List Aggregate). IsTallied plan.groups list keys earlier c.args.tallies.now) (sym c.as_slice-aggregates.ensures)
    told in
    let after = c.in_ok-add_held-2.ensures.tallied values plan.groups keys earlier taken held takes numbers_of before in
    subst (λ (list : List JoinedRow). IsTallied plan.groups plan.aggregates keys (earlier ++ list) new) selects
    (subst (λ (list : List Aggregate). IsTallied plan.groups list keys (earlier ++ taken) new) c.as_slice-aggregates.ensures after)
