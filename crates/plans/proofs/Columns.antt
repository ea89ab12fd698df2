-- The columns that a plan names are there, where it was checked and the rows have values of their columns' kinds.
use Rattle.std.proofs.Common.{◌≡◌, ℕ, zero, suc, true, List, [], ◌∷◌, Option}
use Rattle.std.proofs.Common.{None, Some}
use Rattle.std.proofs.Common.{slice_get, IsSome, refl, sym, ap, ◌∙◌}
use Rattle.std.specs.List.{AllByRecursion}
use Rattle.std.proofs.lemmas.Bool.{and_parts}
use Rattle.std.proofs.lemmas.Option.{MatchOption-at_some, same_Some}
use Rattle.rows.specs.declared.kind.Kind.{Kind}
use Rattle.rows.specs.declared.value.Value.{Value}
use Rattle.rows.specs.Shape.{Shape, kinds_in}
use Rattle.rows.specs.Values.{is_of_kind, are_of_kinds}
use Rattle.rows.specs.Tables.{Tables, shape_in, kinds_of, rows_of, row_at, RowsAreOfKinds}
use Rattle.queries.specs.declared.aggregate.Aggregate.{Aggregate}
use Rattle.queries.specs.declared.aggregate.Aggregate.TheVariants.{Count, Sum, Min, Max}
use Rattle.queries.specs.declared.column.Column.{Column}
use Rattle.queries.specs.declared.column.Column.TheVariants.{Own, Joined}
use Rattle.queries.specs.declared.plan.Join.{Join}
use Rattle.queries.specs.declared.plan.Plan.{Plan}
use Rattle.queries.specs.Checking.{kind_among, number_fault, presence_fault, value_fault, join_fault, condition_fault, group_fault}
use Rattle.queries.specs.Checking.{aggregate_fault}
use Rattle.queries.specs.Laws.{Fits}
use Rattle.queries.specs.Answers.{JoinedRow, column_in}
use Rattle.plans.specs.Inner.Kept.{HasJoin, HasColumns, HasInput}

-- what follows of each element
pub each : {X : Type 0} (P Q : X → Type 0) → ((x : X) → P x → Q x) → (xs : List X) → AllByRecursion P xs → AllByRecursion Q xs
each P Q follows [] all = tt
each P Q follows (x ∷ xs) all = (follows x all.0, each P Q follows xs all.1)

-- ---- kinds that are there

pub present : (kind : Option Kind) → presence_fault kind ≡ None → IsSome kind
present None e = cc
present (Some kind) e = refl

pub number-present : (kind : Option Kind) → number_fault kind ≡ None → IsSome kind
number-present None e = cc
number-present (Some kind) e = refl

pub value-present : (value : Value) (kind : Option Kind) → value_fault value kind ≡ None → IsSome kind
value-present value None e = cc
value-present value (Some kind) e = refl

-- ---- values that are there

pub value-there : (values : List Value) (columns : List Kind) (column : ℕ) → are_of_kinds values columns ≡ true
    → IsSome (slice_get columns column) → IsSome (slice_get values column)
value-there [] [] column e there = there
value-there [] (kind ∷ columns) column e there = cc
value-there (value ∷ values) [] column e there = cc
value-there (value ∷ values) (kind ∷ columns) zero e there = refl
value-there (value ∷ values) (kind ∷ columns) (suc column) e there =
    value-there values columns column (and_parts (is_of_kind value kind) (are_of_kinds values columns) e).1 there

-- the columns of a row are of these kinds
pub record IsOfKinds (own joined : List Kind) (row : JoinedRow) : Type 0 where
  pub own_values : are_of_kinds row.own own ≡ true
  pub joined_values : are_of_kinds row.joined joined ≡ true

column-there : (own joined : List Kind) (row : JoinedRow) (column : Column) → IsOfKinds own joined row
    → IsSome (kind_among own joined column) → IsSome (column_in row column)
column-there own joined row (Own column) is there = value-there row.own own column is.own_values there
column-there own joined row (Joined column) is there = value-there row.joined joined column is.joined_values there

input-there : (own joined : List Kind) (row : JoinedRow) → IsOfKinds own joined row → (aggregate : Aggregate)
    → aggregate_fault own joined aggregate ≡ None → HasInput row aggregate
input-there own joined row is Count e = tt
input-there own joined row is (Sum column) e = column-there own joined row column is (number-present (kind_among own joined column) e)
input-there own joined row is (Min column) e = column-there own joined row column is (present (kind_among own joined column) e)
input-there own joined row is (Max column) e = column-there own joined row column is (present (kind_among own joined column) e)

pub join-there : (own : List Kind) (values : List Value) (join : Option Join) → are_of_kinds values own ≡ true → join_fault own join ≡ None
    → HasJoin join values
join-there own values None is e = tt
join-there own values (Some join) is e = value-there values own join.column is (number-present (slice_get own join.column) e)

module _ (shape : Shape) (plan : Plan) (row : JoinedRow) (fit : Fits shape plan) (is : IsOfKinds fit.own fit.joined row) where
  there : (column : Column) → IsSome (kind_among fit.own fit.joined column) → IsSome (column_in row column)
  there column = column-there fit.own fit.joined row column is

  pub has-columns : HasColumns plan row
  has-columns = record {
    conditions =
        each (λ condition. condition_fault fit.own fit.joined condition ≡ None) (λ condition. IsSome (column_in row condition.column))
        (λ condition none. there condition.column (value-present condition.value (kind_among fit.own fit.joined condition.column) none))
        plan.conditions fit.conditions;
    groups =
        each (λ column. group_fault fit.own fit.joined column ≡ None) (λ column. IsSome (column_in row column))
        (λ column none. there column (present (kind_among fit.own fit.joined column) none)) plan.groups fit.groups;
    aggregates =
        each (λ aggregate. aggregate_fault fit.own fit.joined aggregate ≡ None) (HasInput row)
        (input-there fit.own fit.joined row is) plan.aggregates fit.aggregates;
  }

-- ---- the rows of tables

pub kinds_in-there : (shape : Shape) (table : ℕ) (own : List Kind) → slice_get shape table ≡ Some own → kinds_in shape table ≡ own
kinds_in-there [] table own e = cc
kinds_in-there (first ∷ shape) zero own e = same_Some first own e
kinds_in-there (first ∷ shape) (suc table) own e = kinds_in-there shape table own e

pub row-of-kinds : (tables : Tables) (table id : ℕ) (own : List Kind) (values : List Value) → RowsAreOfKinds tables
    → slice_get (shape_in tables) table ≡ Some own → row_at (rows_of tables table) id ≡ Some values → are_of_kinds values own ≡ true
row-of-kinds tables table id own values are there row =
    ap (are_of_kinds values) (sym (kinds_in-there (shape_in tables) table own there))
    ∙ MatchOption-at_some (Unit {0}) (λ values. are_of_kinds values (kinds_of tables table) ≡ true) values row (are table id)
