-- What is kept for a plan, with one row more; and its lines once all rows were looked at.
use Rattle.std.proofs.Common.{◌≡◌, ℕ, ◌+◌, Bool, true, false, ◌||◌, cond, List, [], ◌∷◌, ◌++◌, map, take, Option, None, Some}
use Rattle.std.proofs.Common.{slice_get, IfSome}
use Rattle.std.proofs.Common.{refl, sym, ap, ◌∙◌, subst, arith, append_assoc}
use Rattle.std.specs.BTreeMap.{is_at}
use Rattle.std.specs.List.{All, AllByRecursion, filter, filter_map, cons_option, list_all, list_any}
use Rattle.std.specs.List.Sorted.{IsStrictlySortedBy}
use Rattle.std.specs.Map.{keys_of, lookup}
use Rattle.std.specs.Option.{unwrap_or}
use Rattle.std.specs.Ordering.{is_eq}
use Rattle.std.proofs.lemmas.Bool.{or_parts, cond-false}
use Rattle.std.proofs.lemmas.Int.{ints}
use Rattle.std.proofs.lemmas.List.{map-append, take_more, append-nil}
use Rattle.std.proofs.lemmas.List.Elements.{All-from_recursion, filter-append, filter_map-append}
use Rattle.std.proofs.lemmas.List.Folds.{list_any-append}
use Rattle.std.proofs.lemmas.Option.{slice_get_within, get_or_from_slice_get, IfSome_then}
use Rattle.rows.specs.declared.value.Value.{Value}
use Rattle.rows.specs.Tables.{Rows, Tables, rows_of, row_at}
use Rattle.queries.specs.declared.aggregate.Aggregate.{Aggregate}
use Rattle.queries.specs.declared.aggregate.Aggregate.TheVariants.{Count, Sum, Min, Max}
use Rattle.queries.specs.declared.column.Column.{Column}
use Rattle.queries.specs.declared.field.Field.{Field}
use Rattle.queries.specs.declared.field.Field.TheVariants.{Stored}
use Rattle.queries.specs.declared.plan.Plan.{Plan}
use Rattle.queries.specs.Order.{group_cmp, rising}
use Rattle.queries.specs.Answers.{JoinedRow, group_of, groups_of, rows_in, rows_among, joined_with, meets, aggregate_of, line_of}
use Rattle.queries.specs.Answers.{answer_lines}
use Rattle.plans.specs.Partials.{groups_with}
use Rattle.plans.specs.Inner.Kept.{GroupList, IsWithin, AreWithin, grown_all, opening_of, opening_groups, with_joined_row, kept_at}
use Rattle.plans.specs.Inner.Kept.{GroupsAreKept, AreKept, row_among}
use Rattle.plans.specs.Inner.TotalOrder.{group_cmp_total}
use Rattle.plans.proofs.Orders.{group_cmp-exact, same_group, is_itself, flips, same_entries}
use Rattle.plans.proofs.Rising.{paired, keys_of-paired, lookup-paired, rising-sorted, rising-any}
use Rattle.plans.proofs.Aggregates.{grown_all-push, All-IsWithin-more}

or_none : (b : Bool) → (b || false) ≡ b
or_none true = refl
or_none false = refl

pub or_all : (b : Bool) → (b || true) ≡ true
or_all true = refl
or_all false = refl

pub or_itself : (b : Bool) → (b || false) ≡ ((b || false) || (b || false))
or_itself true = refl
or_itself false = refl

-- ---- the groups of rows with others behind them

abbrev pub is_group : List Column → List JoinedRow → List Value → Bool
is_group columns rows group = list_any (λ other. is_eq (group_cmp group other)) (groups_of columns rows)

pub is_group-append : (columns : List Column) (rows others : List JoinedRow) (group : List Value)
    → is_group columns (rows ++ others) group ≡ (is_group columns rows group || is_group columns others group)
is_group-append [] rows others group = or_itself (is_eq (group_cmp group []))
is_group-append (column ∷ columns) rows others group =
    let key : JoinedRow → List Value = group_of (column ∷ columns) in
    let test : List Value → Bool = λ other. is_eq (group_cmp group other) in
    ap (list_any test) (map-append key rows others) ∙ list_any-append test (map key rows) (map key others)

-- one row more
is_group-one : (columns : List Column) (row : JoinedRow) (group : List Value)
    → is_group columns (row ∷ []) group ≡ is_eq (group_cmp group (group_of columns row))
is_group-one [] row group = or_none (is_eq (group_cmp group []))
is_group-one (column ∷ columns) row group = or_none (is_eq (group_cmp group (group_of (column ∷ columns) row)))

is_group-push : (columns : List Column) (rows : List JoinedRow) (row : JoinedRow) (group : List Value)
    → is_group columns (rows ++ row ∷ []) group ≡ (is_group columns rows group || is_eq (group_cmp group (group_of columns row)))
is_group-push columns rows row group =
    is_group-append columns rows (row ∷ []) group ∙ ap (λ b. is_group columns rows group || b) (is_group-one columns row group)

rows_in-push : (columns : List Column) (rows : List JoinedRow) (row : JoinedRow) (group : List Value)
    → rows_in columns group (rows ++ row ∷ [])
    ≡ rows_in columns group rows ++ cond (is_eq (group_cmp group (group_of columns row))) (row ∷ []) []
rows_in-push columns rows row group = filter-append (λ row. is_eq (group_cmp group (group_of columns row))) rows (row ∷ [])

pub filter-none : {X : Type 0} (test : X → Bool) (xs : List X) → ((x : X) → test x ≡ false) → filter test xs ≡ []
filter-none test [] h = refl
filter-none test (x ∷ xs) h = cond-false (test x) (x ∷ filter test xs) (filter test xs) (h x) ∙ filter-none test xs h

filter-absent : (key : JoinedRow → List Value) (test : List Value → Bool) (rows : List JoinedRow) → list_any test (map key rows) ≡ false
    → filter (λ row. test (key row)) rows ≡ []
filter-absent key test [] h = refl
filter-absent key test (row ∷ rows) h =
    let parts = or_parts (test (key row)) (list_any test (map key rows)) h in
    cond-false (test (key row)) (row ∷ filter (λ row. test (key row)) rows) (filter (λ row. test (key row)) rows) parts.0
    ∙ filter-absent key test rows parts.1

-- what is no group has no rows
pub absent-rows : (columns : List Column) (rows : List JoinedRow) (group : List Value) → is_group columns rows group ≡ false
    → rows_in columns group rows ≡ []
absent-rows [] rows group h =
    filter-none (λ row. is_eq (group_cmp group (group_of [] row))) rows
    (λ row. (or_parts (is_eq (group_cmp group [])) false h).0)
absent-rows (column ∷ columns) rows group h =
    filter-absent (group_of (column ∷ columns)) (λ other. is_eq (group_cmp group other)) rows h

module _ (plan : Plan) (rows : List JoinedRow) (row : JoinedRow) where
  abbrev key : List Value
  key = group_of plan.groups row

  -- the aggregates of a group, those of no rows where it is none
  kept-or_empty : (group : List Value)
      → unwrap_or (kept_at plan rows group) (map (aggregate_of []) plan.aggregates)
      ≡ map (aggregate_of (rows_in plan.groups group rows)) plan.aggregates
  kept-or_empty group = by (is_group plan.groups rows group) refl
    where
      by : (there : Bool) → is_group plan.groups rows group ≡ there
          → unwrap_or (cond there (Some (map (aggregate_of (rows_in plan.groups group rows)) plan.aggregates)) None)
          (map (aggregate_of []) plan.aggregates)
          ≡ map (aggregate_of (rows_in plan.groups group rows)) plan.aggregates
      by true h = refl
      by false h = ap (λ group_rows. map (aggregate_of group_rows) plan.aggregates) (sym (absent-rows plan.groups rows group h))

  kept-other : (group : List Value) → is_eq (group_cmp group key) ≡ false → kept_at plan (rows ++ row ∷ []) group ≡ kept_at plan rows group
  kept-other group h =
      let there : is_group plan.groups (rows ++ row ∷ []) group ≡ is_group plan.groups rows group =
      is_group-push plan.groups rows row group ∙ ap (λ b. is_group plan.groups rows group || b) h
      ∙ or_none (is_group plan.groups rows group) in
      let same : rows_in plan.groups group (rows ++ row ∷ []) ≡ rows_in plan.groups group rows =
      rows_in-push plan.groups rows row group ∙ ap (λ b. rows_in plan.groups group rows ++ cond b (row ∷ []) []) h
      ∙ append-nil (rows_in plan.groups group rows) in
      λ i. cond (there i) (Some (map (aggregate_of (same i)) plan.aggregates)) None

  kept-same : kept_at plan (rows ++ row ∷ []) key
      ≡ Some (grown_all row plan.aggregates (unwrap_or (kept_at plan rows key) (map (aggregate_of []) plan.aggregates)))
  kept-same =
      let there : is_group plan.groups (rows ++ row ∷ []) key ≡ true =
      is_group-push plan.groups rows row key ∙ ap (λ b. is_group plan.groups rows key || b) (is_itself key)
      ∙ or_all (is_group plan.groups rows key) in
      let more : rows_in plan.groups key (rows ++ row ∷ []) ≡ rows_in plan.groups key rows ++ row ∷ [] =
      rows_in-push plan.groups rows row key ∙ ap (λ b. rows_in plan.groups key rows ++ cond b (row ∷ []) []) (is_itself key) in
      (λ i. cond (there i) (Some (map (aggregate_of (more i)) plan.aggregates)) None)
      ∙ ap Some (grown_all-push (rows_in plan.groups key rows) row plan.aggregates)
      ∙ ap (λ fields. Some (grown_all row plan.aggregates fields)) (sym (kept-or_empty key))

  kept-push : (group : List Value)
      → cond (is_eq (group_cmp key group))
      (Some (grown_all row plan.aggregates (unwrap_or (kept_at plan rows key) (map (aggregate_of []) plan.aggregates))))
      (kept_at plan rows group)
      ≡ kept_at plan (rows ++ row ∷ []) group
  kept-push group = by (is_eq (group_cmp key group)) refl
    where
      by : (here : Bool) → is_eq (group_cmp key group) ≡ here
          → cond here (Some (grown_all row plan.aggregates (unwrap_or (kept_at plan rows key) (map (aggregate_of []) plan.aggregates))))
          (kept_at plan rows group)
          ≡ kept_at plan (rows ++ row ∷ []) group
      by true h = sym kept-same ∙ ap (kept_at plan (rows ++ row ∷ [])) (same_group key group h)
      by false h = sym (kept-other group (flips group key ∙ h))

  -- a row is added to what is kept of those before it
  kept-more : (count : ℕ) (groups after : GroupList) → GroupsAreKept plan rows count groups
      → ((group : List Value) → lookup (is_at (group_cmp group)) after ≡ with_joined_row row plan groups group)
      → AreWithin (count + 1) after
      → GroupsAreKept plan (rows ++ row ∷ []) (count + 1) after
  kept-more count groups after kept finds within = record {
    found = λ group.
        finds group
        ∙ (λ i. cond (is_eq (group_cmp key group))
        (Some (grown_all row plan.aggregates (unwrap_or (kept.found key i) (map (aggregate_of []) plan.aggregates))))
        (kept.found group i))
        ∙ kept-push group;
    within = within;
  }

-- a row that is not looked at
pub kept-skip : (plan : Plan) (rows one : List JoinedRow) (count : ℕ) (groups : GroupList) → one ≡ [] → GroupsAreKept plan rows count groups
    → GroupsAreKept plan (rows ++ one) (count + 1) groups
kept-skip plan rows one count groups none kept =
    subst (λ list. GroupsAreKept plan list (count + 1) groups) (sym (ap (λ list. rows ++ list) none ∙ append-nil rows))
    (record {
      found = kept.found;
      within = λ group.
          IfSome_then (lookup (is_at (group_cmp group)) groups) (kept.within group) (λ fields all. All-IsWithin-more count fields all);
    })

-- a row that is looked at
pub kept-one : (plan : Plan) (rows one : List JoinedRow) (row : JoinedRow) (count : ℕ) (groups after : GroupList) → one ≡ row ∷ []
    → GroupsAreKept plan rows count groups
    → ((group : List Value) → lookup (is_at (group_cmp group)) after ≡ with_joined_row row plan groups group)
    → AreWithin (count + 1) after
    → GroupsAreKept plan (rows ++ one) (count + 1) after
kept-one plan rows one row count groups after is kept finds within =
    subst (λ list. GroupsAreKept plan list (count + 1) after) (sym (ap (λ list. rows ++ list) is))
    (kept-more plan rows row count groups after kept finds within)

-- ---- the rows of the plan's table

module _ (tables : Tables) (plan : Plan) where
  abbrev passing : List JoinedRow → List JoinedRow
  passing found = filter (λ row. list_all (meets row) plan.conditions) found

  abbrev joined : ℕ × List Value → Option JoinedRow
  joined row = joined_with tables plan.join row.1

  pub rows_among-append : (rows others : Rows)
      → rows_among tables plan (rows ++ others) ≡ rows_among tables plan rows ++ rows_among tables plan others
  rows_among-append rows others =
      ap passing (filter_map-append joined rows others)
      ∙ filter-append (λ row. list_all (meets row) plan.conditions) (filter_map joined rows) (filter_map joined others)

  pub among-none : (id : ℕ) (own : List Value) → joined_with tables plan.join own ≡ None → rows_among tables plan ((id, own) ∷ []) ≡ []
  among-none id own h = ap (λ found. passing (cons_option found [])) h

  pub among-not : (id : ℕ) (own : List Value) (row : JoinedRow) → joined_with tables plan.join own ≡ Some row
      → list_all (meets row) plan.conditions ≡ false → rows_among tables plan ((id, own) ∷ []) ≡ []
  among-not id own row h fails =
      ap (λ found. passing (cons_option found [])) h ∙ ap (λ b. cond b (row ∷ []) []) fails

  pub among-one : (id : ℕ) (own : List Value) (row : JoinedRow) → joined_with tables plan.join own ≡ Some row
      → list_all (meets row) plan.conditions ≡ true → rows_among tables plan ((id, own) ∷ []) ≡ row ∷ []
  among-one id own row h passes =
      ap (λ found. passing (cons_option found [])) h ∙ ap (λ b. cond b (row ∷ []) []) passes

  -- the row at an index, behind others
  pub kept-next : (rows more : Rows) (i id count : ℕ) (own : List Value) (groups : GroupList) → slice_get rows i ≡ Some (id, own)
      → row_at (rows_of tables plan.table) id ≡ Some own
      → GroupsAreKept plan (rows_among tables plan (more ++ take i rows) ++ row_among tables plan id) count groups
      → AreKept tables plan (more ++ take (i + 1) rows) count groups
  kept-next rows more i id count own groups e there kept =
      let one : take (i + 1) rows ≡ take i rows ++ (id, own) ∷ [] =
      take_more rows i (id, own) (slice_get_within rows i (id, own) e)
      ∙ ap (λ row. take i rows ++ row ∷ []) (get_or_from_slice_get rows i (id, own) (id, own) e) in
      subst (λ list. GroupsAreKept plan list count groups)
      (ap (λ found. rows_among tables plan (more ++ take i rows) ++ rows_among tables plan ((id, unwrap_or found []) ∷ [])) there
      ∙ sym (rows_among-append (more ++ take i rows) ((id, own) ∷ []))
      ∙ ap (rows_among tables plan) (append_assoc more (take i rows) ((id, own) ∷ []) ∙ ap (λ list. more ++ list) (sym one)))
      kept

-- ---- before any row

opening-found : (columns : List Column) (aggregates : List Aggregate) (group : List Value)
    → lookup (is_at (group_cmp group)) (opening_of columns (map (aggregate_of []) aggregates))
    ≡ cond (is_group columns [] group) (Some (map (aggregate_of (rows_in columns group [])) aggregates)) None
opening-found [] aggregates group =
    ap (λ b. cond b (Some (map (aggregate_of []) aggregates)) None) (sym (or_none (is_eq (group_cmp group []))))
opening-found (column ∷ columns) aggregates group = refl

none-within : (count : ℕ) (aggregate : Aggregate) → IsWithin count (aggregate_of [] aggregate)
none-within count Count = (omega (arith, ints), omega (arith, ints))
none-within count (Sum column) = (omega (arith, ints), omega (arith, ints))
none-within count (Min column) = tt
none-within count (Max column) = tt

all-none-within : (count : ℕ) (aggregates : List Aggregate) → AllByRecursion (IsWithin count) (map (aggregate_of []) aggregates)
all-none-within count [] = tt
all-none-within count (aggregate ∷ aggregates) = (none-within count aggregate, all-none-within count aggregates)

-- aggregates of no rows fit
pub empty-within : (count : ℕ) (aggregates : List Aggregate) → All (IsWithin count) (map (aggregate_of []) aggregates)
empty-within count aggregates = All-from_recursion (IsWithin count) (map (aggregate_of []) aggregates) (all-none-within count aggregates)

-- and so do those of all groups, where one group's have grown
pub within-put : (count : ℕ) (groups after : GroupList) (key : List Value) (fields : List Field) → AreWithin count groups
    → All (IsWithin (count + 1)) fields
    → ((group : List Value) → lookup (is_at (group_cmp group)) after
    ≡ cond (is_at (group_cmp key) group) (Some fields) (lookup (is_at (group_cmp group)) groups))
    → AreWithin (count + 1) after
within-put count groups after key fields within grown finds group =
    subst (λ found. IfSome found (λ fields. All (IsWithin (count + 1)) fields)) (sym (finds group)) (by (is_at (group_cmp key) group))
  where
    by : (here : Bool)
        → IfSome (cond here (Some fields) (lookup (is_at (group_cmp group)) groups)) (λ fields. All (IsWithin (count + 1)) fields)
    by true = grown
    by false =
        IfSome_then (lookup (is_at (group_cmp group)) groups) (within group) (λ fields all. All-IsWithin-more count fields all)

opening-within : (columns : List Column) (aggregates : List Aggregate) → AreWithin 0 (opening_of columns (map (aggregate_of []) aggregates))
opening-within [] aggregates group = by (is_eq (group_cmp group []))
  where
    by : (here : Bool) → IfSome (cond here (Some (map (aggregate_of []) aggregates)) None) (λ fields. All (IsWithin 0) fields)
    by true = empty-within 0 aggregates
    by false = tt
opening-within (column ∷ columns) aggregates group = tt

-- nothing is kept before the first row
pub opening-kept : (plan : Plan) → GroupsAreKept plan [] 0 (opening_groups plan)
opening-kept plan = record {
  found = opening-found plan.groups plan.aggregates;
  within = opening-within plan.groups plan.aggregates;
}

-- ---- all rows

lines-paired : (plan : Plan) (rows : List JoinedRow) (groups : List (List Value))
    → map (λ entry. map Stored entry.0 ++ entry.1)
    (paired (λ group. map (aggregate_of (rows_in plan.groups group rows)) plan.aggregates) groups)
    ≡ map (line_of plan rows) groups
lines-paired plan _ [] = refl
lines-paired plan rows (group ∷ groups) = ap (λ rest. line_of plan rows group ∷ rest) (lines-paired plan rows groups)

-- the lines of the groups of rows are those of the answer
pub lines-with : (plan : Plan) (rows : List JoinedRow)
    → map (λ entry. map Stored entry.0 ++ entry.1) (groups_with plan rows) ≡ answer_lines plan rows
lines-with plan rows = lines-paired plan rows (rising (groups_of plan.groups rows))

-- a group with its aggregates is found among them as it is kept
found-with : (plan : Plan) (rows : List JoinedRow) (group : List Value)
    → lookup (is_at (group_cmp group)) (groups_with plan rows) ≡ kept_at plan rows group
found-with plan rows group =
    let of_group : List Value → List Field = λ group. map (aggregate_of (rows_in plan.groups group rows)) plan.aggregates in
    lookup-paired of_group group (rising (groups_of plan.groups rows))
    ∙ ap (λ b. cond b (Some (of_group group)) None) (rising-any (λ other. is_eq (group_cmp group other)) (groups_of plan.groups rows))

-- the groups of rows with their aggregates are what is kept of them
pub with-kept : (plan : Plan) (rows : List JoinedRow) (count : ℕ) (groups : GroupList) → groups ≡ groups_with plan rows
    → AreWithin count groups → GroupsAreKept plan rows count groups
with-kept plan rows count groups is within = record {
  found = λ group. ap (lookup (is_at (group_cmp group))) is ∙ found-with plan rows group;
  within = within;
}

-- and what is kept of rows, in rising order, are their groups with their aggregates
pub kept-with : (plan : Plan) (rows : List JoinedRow) (count : ℕ) (groups : GroupList) → GroupsAreKept plan rows count groups
    → IsStrictlySortedBy group_cmp (keys_of groups) → groups ≡ groups_with plan rows
kept-with plan rows count groups kept sorted =
    let of_group : List Value → List Field = λ group. map (aggregate_of (rows_in plan.groups group rows)) plan.aggregates in
    let names : List (List Value) = rising (groups_of plan.groups rows) in
    let defined = paired of_group names in
    let rise : IsStrictlySortedBy group_cmp (keys_of defined) =
    subst (IsStrictlySortedBy group_cmp) (sym (keys_of-paired of_group names)) (rising-sorted (groups_of plan.groups rows)) in
    let finds : (group : List Value) → lookup (is_at (group_cmp group)) groups ≡ lookup (is_at (group_cmp group)) defined =
    λ group. kept.found group ∙ sym (found-with plan rows group) in
    same_entries group_cmp_total group_cmp-exact groups defined sorted rise finds
