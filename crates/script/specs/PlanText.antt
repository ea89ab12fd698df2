-- The words of a plan.
use Rattle.std.specs.Prelude.{ℕ, ◌<◌, ◌^◌, List, [], ◌∷◌, ◌++◌, map, length, codes, decimal, Option, None, Some}
use Rattle.std.specs.List.{AllByRecursion, flat_map}
use Rattle.rows.specs.Text.{value_text}
use Rattle.queries.specs.declared.aggregate.Aggregate.{Aggregate}
use Rattle.queries.specs.declared.aggregate.Aggregate.TheVariants.{Count, Sum, Min, Max}
use Rattle.queries.specs.declared.column.Column.{Column}
use Rattle.queries.specs.declared.column.Column.TheVariants.{Own, Joined}
use Rattle.queries.specs.declared.condition.Comparison.{Comparison}
use Rattle.queries.specs.declared.condition.Comparison.TheVariants.{Equal, NotEqual, Less, AtMost, Greater, AtLeast}
use Rattle.queries.specs.declared.condition.Condition.{Condition}
use Rattle.queries.specs.declared.plan.Join.{Join}
use Rattle.queries.specs.declared.plan.Plan.{Plan}
use Rattle.script.specs.Values.{HasWord}

-- a column: its number, after `j` if it is one of the joined table
abbrev pub column_text : Column → List ℕ
column_text (Own column) = decimal column
column_text (Joined column) = codes "j" ++ decimal column

-- a comparison, as it is written
abbrev pub comparison_text : Comparison → List ℕ
comparison_text Equal = codes "="
comparison_text NotEqual = codes "!="
comparison_text Less = codes "<"
comparison_text AtMost = codes "<="
comparison_text Greater = codes ">"
comparison_text AtLeast = codes ">="

-- a condition: a column, a comparison and a value
abbrev pub condition_words : Condition → List (List ℕ)
condition_words condition = column_text condition.column ∷ comparison_text condition.comparison ∷ value_text condition.value ∷ []

-- an aggregate: what is asked, and the column of which
abbrev pub aggregate_words : Aggregate → List (List ℕ)
aggregate_words Count = codes "count" ∷ []
aggregate_words (Sum column) = codes "sum" ∷ column_text column ∷ []
aggregate_words (Min column) = codes "min" ∷ column_text column ∷ []
aggregate_words (Max column) = codes "max" ∷ column_text column ∷ []

-- the table that is joined, by the column that names its rows
abbrev pub join_words : (ℕ → List ℕ) → Option Join → List (List ℕ)
join_words naming None = []
join_words naming (Some join) = codes "join" ∷ decimal join.column ∷ naming join.table ∷ []

-- a condition after another
abbrev pub and_words : Condition → List (List ℕ)
and_words condition = codes "and" ∷ condition_words condition

-- all conditions of a plan
abbrev pub where_words : List Condition → List (List ℕ)
where_words [] = []
where_words (condition ∷ conditions) = codes "where" ∷ (condition_words condition ++ flat_map and_words conditions)

-- the columns by which rows are grouped
abbrev pub by_words : List Column → List (List ℕ)
by_words [] = []
by_words (column ∷ columns) = codes "by" ∷ map column_text (column ∷ columns)

-- the words of a plan, whose tables have these names
abbrev pub plan_words : (ℕ → List ℕ) → Plan → List (List ℕ)
plan_words naming plan =
    codes "query" ∷ naming plan.table ∷ (join_words naming plan.join ++ (where_words plan.conditions ++ (by_words plan.groups
    ++ (codes "get" ∷ flat_map aggregate_words plan.aggregates))))

-- the tables that a plan names
abbrev pub joined_table : Option Join → List ℕ
joined_table None = []
joined_table (Some join) = join.table ∷ []

abbrev pub plan_tables : Plan → List ℕ
plan_tables plan = plan.table ∷ joined_table plan.join

-- a column that a word can have: a number of 8 bits
abbrev pub HasColumnWord : Column → Type 0
HasColumnWord (Own column) = column < 2 ^ 8
HasColumnWord (Joined column) = column < 2 ^ 8

-- a join, a condition and an aggregate that words can have
abbrev pub HasJoinWords : Option Join → Type 0
HasJoinWords None = Unit {0}
HasJoinWords (Some join) = join.column < 2 ^ 8

abbrev pub HasConditionWords : Condition → Type 0
HasConditionWords condition = HasColumnWord condition.column × HasWord condition.value

abbrev pub HasAggregateWords : Aggregate → Type 0
HasAggregateWords Count = Unit {0}
HasAggregateWords (Sum column) = HasColumnWord column
HasAggregateWords (Min column) = HasColumnWord column
HasAggregateWords (Max column) = HasColumnWord column

-- a plan that words can have: words can have its columns and values, and it asks for something
pub record HasPlanWords (plan : Plan) : Type 0 where
  pub join : HasJoinWords plan.join
  pub conditions : AllByRecursion HasConditionWords plan.conditions
  pub groups : AllByRecursion HasColumnWord plan.groups
  pub some : 0 < length plan.aggregates
  pub aggregates : AllByRecursion HasAggregateWords plan.aggregates
