-- The columns that a plan names are among the kinds of its tables, where it was checked.
use Rattle.std.proofs.Common.{◌≡◌, ℕ, zero, suc, ◌<◌, List, [], ◌∷◌, length, get_or, Option, None, Some, slice_get, IsSome}
use Rattle.std.proofs.Common.{pos, sym, subst, arith}
use Rattle.std.proofs.lemmas.Bool.{false≢true}
use Rattle.std.proofs.lemmas.List.{get_or-map, length-map}
use Rattle.std.proofs.lemmas.Option.{same_Some}
use Rattle.rows.specs.declared.value.Value.TheVariants.{Int}
use Rattle.queries.specs.declared.condition.Comparison.TheVariants.{Equal}
use Rattle.std.specs.List.{AllByRecursion}
use Rattle.std.specs.Option.{option_map}
use Rattle.rows.specs.declared.kind.Kind.{Kind}
use Rattle.rows.specs.Tables.{Tables, shape_in}
use Rattle.queries.specs.declared.aggregate.Aggregate.{Aggregate}
use Rattle.queries.specs.declared.aggregate.Aggregate.TheVariants.{Count, Sum, Min, Max}
use Rattle.queries.specs.declared.column.Column.{Column}
use Rattle.queries.specs.declared.column.Column.TheVariants.{Own, Joined}
use Rattle.queries.specs.declared.condition.Condition.{Condition}
use Rattle.queries.specs.declared.plan.Join.{Join}
use Rattle.queries.specs.declared.plan.Plan.{Plan}
use Rattle.queries.specs.Checking.{kind_among, joined_kinds, join_fault, condition_fault, group_fault, aggregate_fault}
use Rattle.queries.specs.Laws.{Fits}
use Rattle.plans.specs.Inner.Partnered.{HasLink, HasKind, HaveKinds}
use Rattle.plans.specs.Inner.Selections.{columns_of}
use Rattle.plans.specs.Inner.Shared.{other_table, HasInputKind, HaveInputKinds}
use Rattle.plans.proofs.Columns.{each, present, number-present, value-present, kinds_in-there}

-- what holds of each element holds at each index
pub all-at : {X : Type 0} (P : X → Type 0) (xs : List X) → AllByRecursion P xs → (k : ℕ) (d : X) → k < length xs → P (get_or xs k d)
all-at P [] all k d lt = absurd (omega (arith, lt))
all-at P (x ∷ xs) all zero d lt = all.0
all-at P (x ∷ xs) all (suc k) d lt = all-at P xs all.1 k d (omega (arith, lt))

-- a column that is among the kinds of a plan's tables is one of theirs
has-kind : (tables : Tables) (table : ℕ) (own joined : List Kind) (join : Option Join) → slice_get (shape_in tables) table ≡ Some own
    → joined_kinds (shape_in tables) join ≡ Some joined → (column : Column) → IsSome (kind_among own joined column)
    → HasKind tables table (option_map (λ (join : Join). join.table) join) column
has-kind tables table own joined join here there (Own column) is =
    subst (λ (kinds : List Kind). IsSome (slice_get kinds column)) (sym (kinds_in-there (shape_in tables) table own here)) is
has-kind tables table own joined None here there (Joined column) is =
    false≢true (subst (λ (kinds : List Kind). IsSome (slice_get kinds column)) (sym (same there)) is)
  where
    same : Some [] ≡ Some joined → [] ≡ joined
    same e = same_Some [] joined e
has-kind tables table own joined (Some join) here there (Joined column) is =
    subst (λ (kinds : List Kind). IsSome (slice_get kinds column)) (sym (kinds_in-there (shape_in tables) join.table joined there)) is

module _ (tables : Tables) (plan : Plan) (fit : Fits (shape_in tables) plan) where
  kind : (column : Column) → IsSome (kind_among fit.own fit.joined column) → HasKind tables plan.table (other_table plan) column
  kind = has-kind tables plan.table fit.own fit.joined plan.join fit.own_there fit.joined_there

  pub link : HasLink tables plan.table plan.join
  link = by plan.join fit.join
    where
      by : (join : Option Join) → join_fault fit.own join ≡ None → HasLink tables plan.table join
      by None none = tt
      by (Some join) none =
          subst (λ (kinds : List Kind). IsSome (slice_get kinds join.column))
          (sym (kinds_in-there (shape_in tables) plan.table fit.own fit.own_there)) (number-present (slice_get fit.own join.column) none)

  pub group-kinds : HaveKinds tables plan.table (other_table plan) plan.groups
  group-kinds =
      all-at (HasKind tables plan.table (other_table plan)) plan.groups
      (each (λ column. group_fault fit.own fit.joined column ≡ None) (HasKind tables plan.table (other_table plan))
      (λ column none. kind column (present (kind_among fit.own fit.joined column) none)) plan.groups fit.groups)

  pub condition-kinds : HaveKinds tables plan.table (other_table plan) (columns_of plan.conditions)
  condition-kinds k d lt =
      subst (HasKind tables plan.table (other_table plan))
      (sym (get_or-map (λ (condition : Condition). condition.column) plan.conditions k any d here))
      (all-at (λ (condition : Condition). HasKind tables plan.table (other_table plan) condition.column) plan.conditions
      (each (λ condition. condition_fault fit.own fit.joined condition ≡ None)
      (λ condition. HasKind tables plan.table (other_table plan) condition.column)
      (λ condition none. kind condition.column (value-present condition.value (kind_among fit.own fit.joined condition.column) none))
      plan.conditions fit.conditions) k any here)
    where
      here : k < length plan.conditions
      here = omega (arith, lt, length-map plan.conditions (λ (condition : Condition). condition.column))

      any : Condition
      any = record { column = d; comparison = Equal; value = Int (pos 0) }

  input-kind : (aggregate : Aggregate) → aggregate_fault fit.own fit.joined aggregate ≡ None
      → HasInputKind tables plan.table (other_table plan) aggregate
  input-kind Count none = tt
  input-kind (Sum column) none = kind column (number-present (kind_among fit.own fit.joined column) none)
  input-kind (Min column) none = kind column (present (kind_among fit.own fit.joined column) none)
  input-kind (Max column) none = kind column (present (kind_among fit.own fit.joined column) none)

  pub input-kinds : HaveInputKinds tables plan.table (other_table plan) plan.aggregates
  input-kinds =
      all-at (HasInputKind tables plan.table (other_table plan)) plan.aggregates
      (each (λ aggregate. aggregate_fault fit.own fit.joined aggregate ≡ None) (HasInputKind tables plan.table (other_table plan))
      input-kind plan.aggregates fit.aggregates)
