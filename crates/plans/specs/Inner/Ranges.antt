-- A range of positions of a table, looked at row by row for each plan.
use Rattle.std.specs.Prelude.{◌≡◌, ℕ, ◌+◌, ◌-◌, List, ◌++◌, map}
use Rattle.std.specs.BTreeMap.{is_at}
use Rattle.std.specs.Map.{lookup}
use Rattle.rows.specs.declared.value.Value.{Value}
use Rattle.rows.specs.Tables.{Tables}
use Rattle.queries.specs.declared.aggregate.Aggregate.{Aggregate}
use Rattle.queries.specs.declared.field.Field.{Field}
use Rattle.queries.specs.declared.field.Field.TheVariants.{Stored}
use Rattle.queries.specs.declared.plan.Plan.{Plan}
use Rattle.queries.specs.Order.{group_cmp}
use Rattle.queries.specs.Answers.{JoinedRow}
use Rattle.plans.specs.Inner.Merged.{merged_at}
use Rattle.plans.specs.Partials.{rows_between}
use Rattle.plans.specs.Inner.Kept.{GroupList, GroupsAreKept, row_among, opening_groups}

-- a plan on this table has looked at the row of an identifier, after so many others; what is kept of other plans stays
pub record TakesRow (tables : Tables) (plan : Plan) (table id count : ℕ) (old new : GroupList) : Type 0 where
  pub taken : plan.table ≡ table → (rows : List JoinedRow) → GroupsAreKept plan rows count old
      → GroupsAreKept plan (rows ++ row_among tables plan id) (count + 1) new
  pub other : (plan.table ≡ table → ⊥) → new ≡ old

-- a plan on this table has looked at the rows at the positions from one to before another; what is kept of other plans stays
pub record LooksAt (tables : Tables) (plan : Plan) (table from to : ℕ) (old new : GroupList) : Type 0 where
  pub kept : plan.table ≡ table → old ≡ opening_groups plan → GroupsAreKept plan (rows_between tables from to plan) (to - from) new
  pub other : (plan.table ≡ table → ⊥) → new ≡ old

-- these are the groups of both
abbrev pub AreMerged : List Aggregate → GroupList → GroupList → GroupList → Type 0
AreMerged aggregates first second groups =
    (group : List Value) → lookup (is_at (group_cmp group)) groups
    ≡ merged_at aggregates (lookup (is_at (group_cmp group)) first) (lookup (is_at (group_cmp group)) second)

-- the lines of groups
abbrev pub lines_of : GroupList → List (List Field)
lines_of groups = map (λ entry. map Stored entry.0 ++ entry.1) groups
