-- The row has the columns that the plan names. Where it is not looked at, nothing is added.
use Rattle.std.proofs.Common.{◌≡◌, List, [], Option, None, Some, IsSome, refl, sym, ap, ◌∙◌, subst}
use Rattle.std.specs.List.{AllByRecursion, list_all}
use Rattle.std.specs.Option.{option_map, unwrap_or}
use Rattle.rows.specs.declared.value.Value.{Value}
use Rattle.rows.specs.Tables.{shape_in, rows_of, row_at}
use Rattle.queries.specs.Answers.{column_in, joined_with, meets}
use Rattle.plans.specs.Inner.Kept.{HasJoin, row_among}
use Rattle.plans.specs.Inner.Places.{row_at_place}
use Rattle.plans.proofs.Keeping.{kept-skip, kept-one, among-none, among-not, among-one}
use Rattle.plans.proofs.Taking.{row-has-join, row-has-columns, both-ok}
use Rattle.plans.proofs.answering.take_row.Goals as goal

-- a row that is there has the values that the plan takes of it
is-there : (found : Option (List Value)) → IsSome found → found ≡ Some (unwrap_or found [])
is-there None there = cc
is-there (Some values) there = refl

pub joined_row-requires-clause-there : goal.joined_row-requires-clause-there
joined_row-requires-clause-there g c = λ _ _.
    let tables = g.S.Store.tables c.args.store.now in
    let plan = c.args.plan.now in
    let id = c.args.id.0 in
    let found = row_at (rows_of tables plan.table) id in
    let own = ap (λ (values : Option (List Value)). unwrap_or values []) (c.in-Some.ensures.place c.requires.whole) in
    subst (HasJoin plan.join) (sym own)
    (row-has-join tables plan id (unwrap_or found []) (c.each_part_fits.ensures (shape_in tables) plan c.requires.checked)
    (c.keeps_kinds.ensures c.requires.whole)
    (is-there found c.requires.there))

pub returns-in_default-joined_row : goal.returns-in_default-joined_row
returns-in_default-joined_row g c =
    let tables = g.S.Store.tables c.args.store.now in
    let plan = c.args.plan.now in
    let id = c.args.id.0 in
    let found = row_at (rows_of tables plan.table) id in
    let own = ap (λ (values : Option (List Value)). unwrap_or values []) (c.in-Some.ensures.place c.requires.whole) in
    let none =
    ap (joined_with tables plan.join) (sym own) ∙ sym c.joined_row.ensures
    ∙ ap (option_map (row_at_place (g.S.Store.values_at c.args.store.now))) c.in_default-joined_row.is in
    λ rows kept.
    kept-skip plan rows (row_among tables plan id) c.args.count c.args.groups.now (among-none tables plan id (unwrap_or found []) none) kept

pub meets_all-requires-clause-there : goal.meets_all-requires-clause-there
meets_all-requires-clause-there g c = λ _ _.
    let tables = g.S.Store.tables c.args.store.now in
    let plan = c.args.plan.now in
    let id = c.args.id.0 in
    let found = row_at (rows_of tables plan.table) id in
    let row = row_at_place (g.S.Store.values_at c.args.store.now) c.in-Some-joined_row.row in
    let own = ap (λ (values : Option (List Value)). unwrap_or values []) (c.in-Some.ensures.place c.requires.whole) in
    let some =
    ap (joined_with tables plan.join) (sym own) ∙ sym c.joined_row.ensures
    ∙ ap (option_map (row_at_place (g.S.Store.values_at c.args.store.now))) c.in-Some-joined_row.is in
    let has =
    row-has-columns tables plan id (unwrap_or found []) (c.each_part_fits.ensures (shape_in tables) plan c.requires.checked)
    (c.keeps_kinds.ensures c.requires.whole)
    (is-there found c.requires.there) row some in
    subst (AllByRecursion (λ condition. IsSome (column_in row condition.column))) (sym c.as_slice.ensures) has.conditions

pub returns-then-not-meets_all : goal.returns-then-not-meets_all
returns-then-not-meets_all g c =
    let tables = g.S.Store.tables c.args.store.now in
    let plan = c.args.plan.now in
    let id = c.args.id.0 in
    let found = row_at (rows_of tables plan.table) id in
    let row = row_at_place (g.S.Store.values_at c.args.store.now) c.in-Some-joined_row.row in
    let own = ap (λ (values : Option (List Value)). unwrap_or values []) (c.in-Some.ensures.place c.requires.whole) in
    let some =
    ap (joined_with tables plan.join) (sym own) ∙ sym c.joined_row.ensures
    ∙ ap (option_map (row_at_place (g.S.Store.values_at c.args.store.now))) c.in-Some-joined_row.is in
    let fails = ap (list_all (meets row)) (sym c.as_slice.ensures) ∙ sym c.meets_all.ensures ∙ c.if-not-meets_all.true in
    λ rows kept.
    kept-skip plan rows (row_among tables plan id) c.args.count c.args.groups.now
    (among-not tables plan id (unwrap_or found []) row some fails) kept

pub add-requires-clause-there : goal.add-requires-clause-there
add-requires-clause-there g c = λ _ _.
    let tables = g.S.Store.tables c.args.store.now in
    let plan = c.args.plan.now in
    let id = c.args.id.0 in
    let found = row_at (rows_of tables plan.table) id in
    let row = row_at_place (g.S.Store.values_at c.args.store.now) c.in-Some-joined_row.row in
    let own = ap (λ (values : Option (List Value)). unwrap_or values []) (c.in-Some.ensures.place c.requires.whole) in
    let some =
    ap (joined_with tables plan.join) (sym own) ∙ sym c.joined_row.ensures
    ∙ ap (option_map (row_at_place (g.S.Store.values_at c.args.store.now))) c.in-Some-joined_row.is in
    row-has-columns tables plan id (unwrap_or found []) (c.each_part_fits.ensures (shape_in tables) plan c.requires.checked)
    (c.keeps_kinds.ensures c.requires.whole)
    (is-there found c.requires.there) row some

pub returns : goal.returns
returns g c =
    let tables = g.S.Store.tables c.args.store.now in
    let plan = c.args.plan.now in
    let id = c.args.id.0 in
    let found = row_at (rows_of tables plan.table) id in
    let row = row_at_place (g.S.Store.values_at c.args.store.now) c.in-Some-joined_row.row in
    let own = ap (λ (values : Option (List Value)). unwrap_or values []) (c.in-Some.ensures.place c.requires.whole) in
    let some =
    ap (joined_with tables plan.join) (sym own) ∙ sym c.joined_row.ensures
    ∙ ap (option_map (row_at_place (g.S.Store.values_at c.args.store.now))) c.in-Some-joined_row.is in
    let passes = ap (list_all (meets row)) (sym c.as_slice.ensures) ∙ sym c.meets_all.ensures ∙ c.if-not-meets_all.false in
    both-ok c.add.result
    (λ finds within rows kept.
    kept-one plan rows (row_among tables plan id) row c.args.count c.args.groups.now c.add.new.self
    (among-one tables plan id (unwrap_or found []) row some passes) kept finds within)
    c.add.ensures.found c.add.ensures.within
