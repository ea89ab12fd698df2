-- What plans compute of a range of positions of their tables.
use Rattle.std.specs.Prelude.{◌≡◌, ℕ, ◌-◌, List, map, take, drop}
use Rattle.rows.specs.declared.value.Value.{Value}
use Rattle.rows.specs.Tables.{Rows, Tables, rows_of}
use Rattle.queries.specs.declared.aggregate.Aggregate.{Aggregate}
use Rattle.queries.specs.declared.field.Field.{Field}
use Rattle.queries.specs.declared.plan.Plan.{Plan}
use Rattle.queries.specs.Order.{rising}
use Rattle.queries.specs.Answers.{JoinedRow, rows_among, rows_in, groups_of, aggregate_of, answer_lines}

-- what is computed of plans: of how many positions at most, and for each plan its aggregates, and its groups with these
pub record Parts : Type 0 where
  pub positions : ℕ
  pub aggregates : List (List Aggregate)
  pub groups : List (List (List Value × List Field))

-- the rows at the positions from one to before another; there are none past the end
abbrev pub range : Rows → ℕ → ℕ → Rows
range rows from to = take (to - from) (drop from rows)

-- of the rows of a plan's table at these positions, those that it looks at
abbrev pub rows_between : Tables → ℕ → ℕ → Plan → List JoinedRow
rows_between tables from to plan = rows_among tables plan (range (rows_of tables plan.table) from to)

-- the groups of rows with their aggregates, each once, in rising order
abbrev pub groups_with : Plan → List JoinedRow → List (List Value × List Field)
groups_with plan rows =
    map (λ group. (group, map (aggregate_of (rows_in plan.groups group rows)) plan.aggregates)) (rising (groups_of plan.groups rows))

-- the groups of a plan of the rows at these positions
abbrev pub groups_between : Tables → ℕ → ℕ → Plan → List (List Value × List Field)
groups_between tables from to plan = groups_with plan (rows_between tables from to plan)

-- the answer of a plan on the rows at these positions
abbrev pub answer_between : Tables → ℕ → ℕ → Plan → List (List Field)
answer_between tables from to plan = answer_lines plan (rows_between tables from to plan)

-- this is computed of plans on the rows at the positions from one to before another, of the table of each
pub record IsPartial (tables : Tables) (plans : List Plan) (from to : ℕ) (parts : Parts) : Type 0 where
  pub positions : parts.positions ≡ to - from
  pub aggregates : parts.aggregates ≡ map (λ plan. plan.aggregates) plans
  pub groups : parts.groups ≡ map (groups_between tables from to) plans
