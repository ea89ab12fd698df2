-- What is computed of rows and of others behind them, from what was computed of both; and rows that are looked at in another order.
use Rattle.std.specs.Prelude.{◌≡◌, ℕ, ◌+ℤ◌, List, [], ◌∷◌, ◌++◌, Bool, not, Option, None, Some}
use Rattle.std.specs.List.{filter}
use Rattle.rows.specs.declared.value.Value.{Value}
use Rattle.rows.specs.Tables.{Tables}
use Rattle.queries.specs.declared.aggregate.Aggregate.{Aggregate}
use Rattle.queries.specs.declared.aggregate.Aggregate.TheVariants.{Count, Sum, Min, Max}
use Rattle.queries.specs.declared.field.Field.{Field}
use Rattle.queries.specs.declared.field.Field.TheVariants.{Stored, Number, Absent}
use Rattle.queries.specs.declared.plan.Plan.{Plan}
use Rattle.queries.specs.Answers.{JoinedRow, lesser, greater, aggregate_of, rows_among}
use Rattle.plans.specs.Inner.Kept.{kept_at}

-- two numbers, added
abbrev pub added : Field → Field → Field
added (Number number) (Number other) = Number (number +ℤ other)
added (Number number) (Stored other) = Number number
added (Number number) Absent = Number number
added (Stored value) other = Stored value
added Absent other = Absent

-- the better of two values that there may be none of
abbrev pub better_of : (Value → Value → Value) → Field → Field → Field
better_of of_two (Stored value) (Stored other) = Stored (of_two value other)
better_of of_two (Stored value) (Number other) = Stored value
better_of of_two (Stored value) Absent = Stored value
better_of of_two (Number number) other = other
better_of of_two Absent other = other

-- an aggregate of both: counts and sums are added, and of two extremes the better one is taken
abbrev pub merged : Aggregate → Field → Field → Field
merged Count field other = added field other
merged (Sum column) field other = added field other
merged (Min column) field other = better_of lesser field other
merged (Max column) field other = better_of greater field other

-- the same for each of these aggregates; others beyond them stay
abbrev pub merged_all : List Aggregate → List Field → List Field → List Field
merged_all [] fields others = others
merged_all (aggregate ∷ aggregates) [] others = others
merged_all (aggregate ∷ aggregates) (field ∷ fields) [] = []
merged_all (aggregate ∷ aggregates) (field ∷ fields) (other ∷ others) =
    merged aggregate field other ∷ merged_all aggregates fields others

-- the aggregates of a group that either part may lack
abbrev pub merged_at : List Aggregate → Option (List Field) → Option (List Field) → Option (List Field)
merged_at aggregates None other = other
merged_at aggregates (Some fields) None = Some fields
merged_at aggregates (Some fields) (Some others) = Some (merged_all aggregates fields others)

-- ---- laws

-- an aggregate of rows and of others behind them is that of both, merged
abbrev pub AggregatesMerge : Type 0
AggregatesMerge =
    (rows others : List JoinedRow) (aggregate : Aggregate)
    → aggregate_of (rows ++ others) aggregate ≡ merged aggregate (aggregate_of rows aggregate) (aggregate_of others aggregate)

-- and so are the aggregates of each group
abbrev pub GroupsMerge : Type 0
GroupsMerge =
    (plan : Plan) (rows others : List JoinedRow) (group : List Value)
    → kept_at plan (rows ++ others) group ≡ merged_at plan.aggregates (kept_at plan rows group) (kept_at plan others group)

-- the rows of a plan's table may be looked at in another order: those that pass a test, as those of one piece, before the others
abbrev pub RowsSplit : Type 0
RowsSplit =
    (tables : Tables) (plan : Plan) (test : ℕ × List Value → Bool) (rows : List (ℕ × List Value)) (group : List Value)
    → kept_at plan (rows_among tables plan rows) group
    ≡ merged_at plan.aggregates (kept_at plan (rows_among tables plan (filter test rows)) group)
    (kept_at plan (rows_among tables plan (filter (λ row. not (test row)) rows)) group)
