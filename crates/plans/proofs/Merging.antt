-- Aggregates and groups of rows and of others behind them; rows in another order.
use Rattle.std.proofs.Common.{◌≡◌, ℕ, ◌+◌, pos, ℤ, ◌+ℤ◌, Bool, true, false, cond, ◌||◌, not, List, [], ◌∷◌, ◌++◌, length, map, Option, None}
use Rattle.std.proofs.Common.{Some, Less, Equal, Greater, refl, sym, ap, subst, ◌∙◌, arith, length-append}
use Rattle.std.specs.Cmp.{IsTotalOrder}
use Rattle.std.specs.List.{filter}
use Rattle.std.specs.Ordering.{is_gt, is_eq, ordering_reverse}
use Rattle.std.specs.declared.cmp.Ordering.{Ordering}
use Rattle.std.proofs.lemmas.Bool.{cond-true, cond-false}
use Rattle.std.proofs.lemmas.Cmp.{back_total}
use Rattle.std.proofs.lemmas.Int.{ints}
use Rattle.std.proofs.lemmas.List.{append-nil, map-append}
use Rattle.std.proofs.lemmas.List.Elements.{filter-append}
use Rattle.rows.specs.declared.value.Value.{Value}
use Rattle.rows.specs.Tables.{Tables}
use Rattle.queries.specs.declared.aggregate.Aggregate.{Aggregate}
use Rattle.queries.specs.declared.aggregate.Aggregate.TheVariants.{Count, Sum, Min, Max}
use Rattle.queries.specs.declared.field.Field.{Field}
use Rattle.queries.specs.declared.field.Field.TheVariants.{Number}
use Rattle.queries.specs.declared.column.Column.{Column}
use Rattle.queries.specs.declared.plan.Plan.{Plan}
use Rattle.queries.specs.Order.{group_cmp}
use Rattle.queries.specs.Answers.{JoinedRow, joined_value, values_in, integer_of, total, lesser, greater, best, field_of, aggregate_of}
use Rattle.queries.specs.Answers.{group_of, rows_in, rows_among}
use Rattle.plans.specs.Inner.TotalOrder.{value_cmp_total}
use Rattle.plans.specs.Inner.Merged.{better_of, merged, merged_all, merged_at, AggregatesMerge, GroupsMerge, RowsSplit}
use Rattle.plans.proofs.Orders.{value_cmp-exact}
use Rattle.plans.proofs.Aggregates.{pick, better_found, better_found-assoc, best-append, total-append, lesser-assoc, greater-assoc}
use Rattle.plans.proofs.Keeping.{or_itself, is_group, is_group-append, absent-rows, rows_among-append}

-- ---- the best of values

module _ {R : Value → Value → Ordering} (o : IsTotalOrder R) (exact : (x y : Value) → R x y ≡ Equal → x ≡ y) where
  pick-comm : (x y : Value) → pick o x y ≡ pick o y x
  pick-comm x y = by (R x y) refl
    where
      by : (order : Ordering) → R x y ≡ order → pick o x y ≡ pick o y x
      by Less e =
          let back : R y x ≡ Greater = o.antisymm y x ∙ ap ordering_reverse e in
          cond-false (is_gt (R x y)) y x (ap is_gt e) ∙ sym (cond-true (is_gt (R y x)) x y (ap is_gt back))
      by Equal e = let same : x ≡ y = exact x y e in subst (λ z. pick o x z ≡ pick o z x) same refl
      by Greater e =
          let back : R y x ≡ Less = o.antisymm y x ∙ ap ordering_reverse e in
          cond-true (is_gt (R x y)) y x (ap is_gt e) ∙ sym (cond-false (is_gt (R y x)) x y (ap is_gt back))

lesser-comm : (x y : Value) → lesser x y ≡ lesser y x
lesser-comm = pick-comm value_cmp_total value_cmp-exact

greater-comm : (x y : Value) → greater x y ≡ greater y x
greater-comm = pick-comm (back_total value_cmp_total) (λ x y e. sym (value_cmp-exact y x e))

module _ (better : Value → Value → Value) where
  better_found-comm : ((x y : Value) → better x y ≡ better y x) → (a b : Option Value) → better_found better a b ≡ better_found better b a
  better_found-comm comm None None = refl
  better_found-comm comm None (Some b) = refl
  better_found-comm comm (Some a) None = refl
  better_found-comm comm (Some a) (Some b) = ap Some (comm a b)

  field-found : (a b : Option Value) → field_of (better_found better a b) ≡ better_of better (field_of a) (field_of b)
  field-found None b = refl
  field-found (Some a) None = refl
  field-found (Some a) (Some b) = refl

-- ---- others behind them

module _ (rows others : List JoinedRow) where
  best-merged : (better : Value → Value → Value) → ((x y z : Value) → better x (better y z) ≡ better (better x y) z) → (column : Column)
      → field_of (best better (values_in column (rows ++ others)))
      ≡ better_of better (field_of (best better (values_in column rows))) (field_of (best better (values_in column others)))
  best-merged better assoc column =
      ap (λ values. field_of (best better values)) (map-append (λ row. joined_value row column) rows others)
      ∙ ap field_of (best-append better assoc (values_in column rows) (values_in column others))
      ∙ field-found better (best better (values_in column rows)) (best better (values_in column others))

pub aggregate_of-append : AggregatesMerge
aggregate_of-append rows others Count = let sizes = length-append rows others in ap (λ n. Number (pos n)) sizes
aggregate_of-append rows others (Sum column) =
    ap (λ values. Number (total (map integer_of values))) (map-append (λ row. joined_value row column) rows others)
    ∙ ap (λ numbers. Number (total numbers)) (map-append integer_of (values_in column rows) (values_in column others))
    ∙ ap Number (total-append (map integer_of (values_in column rows)) (map integer_of (values_in column others)))
aggregate_of-append rows others (Min column) = best-merged rows others lesser lesser-assoc column
aggregate_of-append rows others (Max column) = best-merged rows others greater greater-assoc column

all-append : (rows others : List JoinedRow) (aggregates : List Aggregate)
    → map (aggregate_of (rows ++ others)) aggregates
    ≡ merged_all aggregates (map (aggregate_of rows) aggregates) (map (aggregate_of others) aggregates)
all-append rows others [] = refl
all-append rows others (aggregate ∷ aggregates) =
    let first = aggregate_of-append rows others aggregate in
    let rest = all-append rows others aggregates in
    λ i. first i ∷ rest i

pub kept_at-append : GroupsMerge
kept_at-append plan rows others group =
    ap (λ here. cond here (Some (fields (rows ++ others))) None) (is_group-append plan.groups rows others group)
    ∙ by (is_group plan.groups rows group) (is_group plan.groups others group) refl refl
  where
    fields : List JoinedRow → List Field
    fields rows = map (aggregate_of (rows_in plan.groups group rows)) plan.aggregates

    both : fields (rows ++ others) ≡ map (aggregate_of (rows_in plan.groups group rows ++ rows_in plan.groups group others)) plan.aggregates
    both =
        ap (λ list. map (aggregate_of list) plan.aggregates)
        (filter-append (λ row. is_eq (group_cmp group (group_of plan.groups row))) rows others)

    by : (a b : Bool) → is_group plan.groups rows group ≡ a → is_group plan.groups others group ≡ b
        → cond (a || b) (Some (fields (rows ++ others))) None
        ≡ merged_at plan.aggregates (cond a (Some (fields rows)) None) (cond b (Some (fields others)) None)
    by true true e f =
        ap Some (both ∙ all-append (rows_in plan.groups group rows) (rows_in plan.groups group others) plan.aggregates)
    by true false e f =
        ap Some (both ∙ ap (λ list. map (aggregate_of list) plan.aggregates)
        (ap (λ list. rows_in plan.groups group rows ++ list) (absent-rows plan.groups others group f)
        ∙ append-nil (rows_in plan.groups group rows)))
    by false true e f =
        ap Some (both ∙ ap (λ list. map (aggregate_of (list ++ rows_in plan.groups group others)) plan.aggregates)
        (absent-rows plan.groups rows group e))
    by false false e f = refl

-- ---- whatever adds up over lists adds up over what passes a test and the rest

module _ {X M : Type 0} (h : List X → M) (op : M → M → M) (assoc : (a b c : M) → op a (op b c) ≡ op (op a b) c)
    (comm : (a b : M) → op a b ≡ op b a) (unit : (a : M) → op (h []) a ≡ a)
    (cons : (x : X) (xs : List X) → h (x ∷ xs) ≡ op (h (x ∷ [])) (h xs)) where
  split : (test : X → Bool) (xs : List X) → h xs ≡ op (h (filter test xs)) (h (filter (λ x. not (test x)) xs))
  split test [] = sym (unit (h []))
  split test (x ∷ xs) = by (test x) (split test xs)
    where
      by : (here : Bool) → h xs ≡ op (h (filter test xs)) (h (filter (λ x. not (test x)) xs))
          → h (x ∷ xs)
          ≡ op (h (cond here (x ∷ filter test xs) (filter test xs)))
          (h (cond (not here) (x ∷ filter (λ x. not (test x)) xs) (filter (λ x. not (test x)) xs)))
      by true e =
          cons x xs ∙ ap (op (h (x ∷ []))) e
          ∙ assoc (h (x ∷ [])) (h (filter test xs)) (h (filter (λ x. not (test x)) xs))
          ∙ ap (λ m. op m (h (filter (λ x. not (test x)) xs))) (sym (cons x (filter test xs)))
      by false e =
          cons x xs ∙ ap (op (h (x ∷ []))) e
          ∙ assoc (h (x ∷ [])) (h (filter test xs)) (h (filter (λ x. not (test x)) xs))
          ∙ ap (λ m. op m (h (filter (λ x. not (test x)) xs))) (comm (h (x ∷ [])) (h (filter test xs)))
          ∙ sym (assoc (h (filter test xs)) (h (x ∷ [])) (h (filter (λ x. not (test x)) xs)))
          ∙ ap (op (h (filter test xs))) (sym (cons x (filter (λ x. not (test x)) xs)))

-- what is taken of a list, one after the other
module _ {X : Type 0} (taken : List X → List JoinedRow) (nil : taken [] ≡ [])
    (push : (x : X) (xs : List X) → taken (x ∷ xs) ≡ taken (x ∷ []) ++ taken xs) (test : X → Bool) (xs : List X) where
  abbrev mine : List JoinedRow
  mine = taken (filter test xs)

  abbrev others : List JoinedRow
  others = taken (filter (λ x. not (test x)) xs)

  count : length (taken xs) ≡ length mine + length others
  count =
      split (λ xs. length (taken xs)) (λ a b. a + b) (λ a b c. omega arith) (λ a b. omega arith)
      (λ a. let none = ap length nil in omega (arith, none))
      (λ x xs. ap length (push x xs) ∙ length-append (taken (x ∷ [])) (taken xs)) test xs

  sums : (column : Column)
      → total (map integer_of (values_in column (taken xs)))
      ≡ total (map integer_of (values_in column mine)) +ℤ total (map integer_of (values_in column others))
  sums column =
      let sum : List JoinedRow → ℤ = λ rows. total (map integer_of (values_in column rows)) in
      split (λ xs. sum (taken xs)) (λ a b. a +ℤ b) (λ a b c. omega (arith, ints)) (λ a b. omega (arith, ints))
      (λ a. let none = ap sum nil in omega (arith, ints, none))
      (λ x xs.
      ap sum (push x xs)
      ∙ ap (λ values. total (map integer_of values)) (map-append (λ row. joined_value row column) (taken (x ∷ [])) (taken xs))
      ∙ ap total (map-append integer_of (values_in column (taken (x ∷ []))) (values_in column (taken xs)))
      ∙ total-append (map integer_of (values_in column (taken (x ∷ [])))) (map integer_of (values_in column (taken xs)))) test xs

  bests : (better : Value → Value → Value) → ((x y z : Value) → better x (better y z) ≡ better (better x y) z)
      → ((x y : Value) → better x y ≡ better y x) → (column : Column)
      → field_of (best better (values_in column (taken xs)))
      ≡ better_of better (field_of (best better (values_in column mine))) (field_of (best better (values_in column others)))
  bests better assoc comm column =
      ap field_of (split (λ xs. best better (values_in column (taken xs))) (better_found better) (better_found-assoc better assoc)
      (better_found-comm better comm)
      (λ a. ap (λ list. better_found better (best better (values_in column list)) a) nil)
      (λ x xs.
      ap (λ list. best better (values_in column list)) (push x xs)
      ∙ ap (best better) (map-append (λ row. joined_value row column) (taken (x ∷ [])) (taken xs))
      ∙ best-append better assoc (values_in column (taken (x ∷ []))) (values_in column (taken xs))) test xs)
      ∙ field-found better (best better (values_in column mine)) (best better (values_in column others))

  aggregates : (aggregate : Aggregate)
      → aggregate_of (taken xs) aggregate ≡ merged aggregate (aggregate_of mine aggregate) (aggregate_of others aggregate)
  aggregates Count = ap (λ n. Number (pos n)) count
  aggregates (Sum column) = ap Number (sums column)
  aggregates (Min column) = bests lesser lesser-assoc lesser-comm column
  aggregates (Max column) = bests greater greater-assoc greater-comm column

  all-aggregates : (list : List Aggregate)
      → map (aggregate_of (taken xs)) list ≡ merged_all list (map (aggregate_of mine) list) (map (aggregate_of others) list)
  all-aggregates [] = refl
  all-aggregates (aggregate ∷ list) = λ i. aggregates aggregate i ∷ all-aggregates list i

-- ---- rows of a table in another order

or-assoc : (a b c : Bool) → (a || (b || c)) ≡ ((a || b) || c)
or-assoc true b c = refl
or-assoc false b c = refl

or-comm : (a b : Bool) → (a || b) ≡ (b || a)
or-comm true true = refl
or-comm true false = refl
or-comm false true = refl
or-comm false false = refl

module _ (tables : Tables) (plan : Plan) (group : List Value) where
  abbrev in_group : List (ℕ × List Value) → List JoinedRow
  in_group rows = rows_in plan.groups group (rows_among tables plan rows)

  in_group-push : (row : ℕ × List Value) (rows : List (ℕ × List Value)) → in_group (row ∷ rows) ≡ in_group (row ∷ []) ++ in_group rows
  in_group-push row rows =
      ap (rows_in plan.groups group) (rows_among-append tables plan (row ∷ []) rows)
      ∙ filter-append (λ row. is_eq (group_cmp group (group_of plan.groups row)))
      (rows_among tables plan (row ∷ [])) (rows_among tables plan rows)

  is_group-split : (columns : List Column) (test : ℕ × List Value → Bool) (rows : List (ℕ × List Value))
      → is_group columns (rows_among tables plan rows) group
      ≡ (is_group columns (rows_among tables plan (filter test rows)) group
      || is_group columns (rows_among tables plan (filter (λ row. not (test row)) rows)) group)
  is_group-split [] test rows = or_itself (is_eq (group_cmp group []))
  is_group-split (column ∷ columns) test rows =
      split (λ rows. is_group (column ∷ columns) (rows_among tables plan rows) group) (λ a b. a || b) or-assoc or-comm (λ a. refl)
      (λ row rows.
      ap (λ list. is_group (column ∷ columns) list group) (rows_among-append tables plan (row ∷ []) rows)
      ∙ is_group-append (column ∷ columns) (rows_among tables plan (row ∷ [])) (rows_among tables plan rows) group) test rows

pub kept_at-split : RowsSplit
kept_at-split tables plan test rows group =
    ap (λ here. cond here (Some (fields (in_group tables plan group rows))) None) (is_group-split tables plan group plan.groups test rows)
    ∙ by (is_group plan.groups (rows_among tables plan (filter test rows)) group)
    (is_group plan.groups (rows_among tables plan (filter (λ row. not (test row)) rows)) group) refl refl
  where
    fields : List JoinedRow → List Field
    fields list = map (aggregate_of list) plan.aggregates

    first : List JoinedRow
    first = in_group tables plan group (filter test rows)

    second : List JoinedRow
    second = in_group tables plan group (filter (λ row. not (test row)) rows)

    whole : fields (in_group tables plan group rows) ≡ merged_all plan.aggregates (fields first) (fields second)
    whole = all-aggregates (in_group tables plan group) refl (in_group-push tables plan group) test rows plan.aggregates

    by : (a b : Bool) → is_group plan.groups (rows_among tables plan (filter test rows)) group ≡ a
        → is_group plan.groups (rows_among tables plan (filter (λ row. not (test row)) rows)) group ≡ b
        → cond (a || b) (Some (fields (in_group tables plan group rows))) None
        ≡ merged_at plan.aggregates (cond a (Some (fields first)) None) (cond b (Some (fields second)) None)
    by true true e f = ap Some whole
    by true false e f =
        let none : second ≡ [] = absent-rows plan.groups (rows_among tables plan (filter (λ row. not (test row)) rows)) group f in
        ap Some (whole ∙ ap (λ list. merged_all plan.aggregates (fields first) (fields list)) none
        ∙ sym (all-append first [] plan.aggregates) ∙ ap fields (append-nil first))
    by false true e f =
        let none : first ≡ [] = absent-rows plan.groups (rows_among tables plan (filter test rows)) group e in
        ap Some (whole ∙ ap (λ list. merged_all plan.aggregates (fields list) (fields second)) none
        ∙ sym (all-append [] second plan.aggregates))
    by false false e f = refl
