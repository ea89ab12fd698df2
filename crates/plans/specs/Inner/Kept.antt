-- What is kept for a plan while its rows are looked at one after the other: the aggregates of each group so far.
use Rattle.std.specs.Prelude.{◌≡◌, ℕ, pos, neg_ℤ, ◌+ℤ◌, ◌≤ℤ◌, ◌*◌, ◌^◌, List, [], ◌∷◌, map, Option, None, Some, IsSome, IfSome}
use Rattle.std.specs.Prelude.{slice_get, if◌then◌else◌}
use Rattle.std.specs.BTreeMap.{is_at}
use Rattle.std.specs.List.{All, AllByRecursion, list_any}
use Rattle.std.specs.Map.{lookup}
use Rattle.std.specs.Option.{unwrap_or}
use Rattle.std.specs.Ordering.{is_eq}
use Rattle.rows.specs.declared.value.Value.{Value}
use Rattle.rows.specs.declared.value.Value.TheVariants.{Int}
use Rattle.rows.specs.Tables.{Rows, Tables, rows_of, row_at}
use Rattle.queries.specs.declared.aggregate.Aggregate.{Aggregate}
use Rattle.queries.specs.declared.aggregate.Aggregate.TheVariants.{Count, Sum, Min, Max}
use Rattle.queries.specs.declared.column.Column.{Column}
use Rattle.queries.specs.declared.field.Field.{Field}
use Rattle.queries.specs.declared.field.Field.TheVariants.{Stored, Number, Absent}
use Rattle.queries.specs.declared.plan.Join.{Join}
use Rattle.queries.specs.declared.plan.Plan.{Plan}
use Rattle.queries.specs.Order.{group_cmp}
use Rattle.queries.specs.Answers.{JoinedRow, column_in, joined_value, integer_of, lesser, greater, group_of, groups_of, rows_in, rows_among}
use Rattle.queries.specs.Answers.{aggregate_of}

-- each group's aggregates, in rising order of the groups
abbrev pub GroupList : Type 0
GroupList = List (List Value × List Field)

-- ---- an aggregate with one row more

-- what an aggregate takes of a row: 1 for a count, and else the value of its column
abbrev pub input_of : JoinedRow → Aggregate → Value
input_of row Count = Int (pos 1)
input_of row (Sum column) = joined_value row column
input_of row (Min column) = joined_value row column
input_of row (Max column) = joined_value row column

-- an extreme of values that there may be none of, with one value more
abbrev pub extreme : (Value → Value → Value) → Field → Value → Field
extreme of_two (Stored held) value = Stored (of_two held value)
extreme of_two (Number number) value = Stored value
extreme of_two Absent value = Stored value

-- a sum with one value more
abbrev pub summed : Field → Value → Field
summed (Number number) value = Number (number +ℤ integer_of value)
summed (Stored held) value = Stored held
summed Absent value = Absent

abbrev pub grown : Aggregate → Field → Value → Field
grown Count field value = summed field value
grown (Sum column) field value = summed field value
grown (Min column) field value = extreme lesser field value
grown (Max column) field value = extreme greater field value

-- aggregates with one row more
abbrev pub grown_all : JoinedRow → List Aggregate → List Field → List Field
grown_all row [] fields = fields
grown_all row (aggregate ∷ aggregates) [] = []
grown_all row (aggregate ∷ aggregates) (field ∷ fields) =
    grown aggregate field (input_of row aggregate) ∷ grown_all row aggregates fields

-- ---- which columns a row has

abbrev pub HasInput : JoinedRow → Aggregate → Type 0
HasInput row Count = Unit {0}
HasInput row (Sum column) = IsSome (column_in row column)
HasInput row (Min column) = IsSome (column_in row column)
HasInput row (Max column) = IsSome (column_in row column)

-- a row has the column by which it is joined
abbrev pub HasJoin : Option Join → List Value → Type 0
HasJoin None own = Unit {0}
HasJoin (Some join) own = IsSome (slice_get own join.column)

-- a row has all columns that a plan names
pub record HasColumns (plan : Plan) (row : JoinedRow) : Type 0 where
  pub conditions : AllByRecursion (λ condition. IsSome (column_in row condition.column)) plan.conditions
  pub groups : AllByRecursion (λ column. IsSome (column_in row column)) plan.groups
  pub aggregates : AllByRecursion (HasInput row) plan.aggregates

-- ---- numbers that fit

-- a number is at most that of so many numbers of 64 bits
abbrev pub IsWithin : ℕ → Field → Type 0
IsWithin rows (Number number) = (neg_ℤ (pos (rows * 2 ^ 63)) ≤ℤ number) × (number ≤ℤ pos (rows * 2 ^ 63))
IsWithin rows (Stored value) = Unit {0}
IsWithin rows Absent = Unit {0}

abbrev pub AreWithin : ℕ → GroupList → Type 0
AreWithin rows groups = (group : List Value) → IfSome (lookup (is_at (group_cmp group)) groups) (λ fields. All (IsWithin rows) fields)

-- ---- the groups

-- before any row: without columns to group by there is one group, with these aggregates of no rows
abbrev pub opening_of : List Column → List Field → GroupList
opening_of [] fields = ([], fields) ∷ []
opening_of (column ∷ columns) fields = []

abbrev pub opening_groups : Plan → GroupList
opening_groups plan = opening_of plan.groups (map (aggregate_of []) plan.aggregates)

-- the aggregates of a group, once a row is added to those that are kept
abbrev pub with_joined_row : JoinedRow → Plan → GroupList → List Value → Option (List Field)
with_joined_row row plan groups group = at (group_of plan.groups row)
  where
    at : List Value → Option (List Field)
    at key =
        if is_eq (group_cmp key group)
        then Some (grown_all row plan.aggregates
        (unwrap_or (lookup (is_at (group_cmp key)) groups) (map (aggregate_of []) plan.aggregates)))
        else lookup (is_at (group_cmp group)) groups

-- the aggregates of a group of rows, where it is one of their groups
abbrev pub kept_at : Plan → List JoinedRow → List Value → Option (List Field)
kept_at plan rows group =
    if list_any (λ other. is_eq (group_cmp group other)) (groups_of plan.groups rows)
    then Some (map (aggregate_of (rows_in plan.groups group rows)) plan.aggregates)
    else None

-- these are the groups of the rows, and their numbers those of so many rows
pub record GroupsAreKept (plan : Plan) (rows : List JoinedRow) (count : ℕ) (groups : GroupList) : Type 0 where
  pub found : (group : List Value) → lookup (is_at (group_cmp group)) groups ≡ kept_at plan rows group
  pub within : AreWithin count groups

-- the row of an identifier, if its plan looks at it
abbrev pub row_among : Tables → Plan → ℕ → List JoinedRow
row_among tables plan id = rows_among tables plan ((id, unwrap_or (row_at (rows_of tables plan.table) id) []) ∷ [])

-- what is kept of these rows of the plan's table
abbrev pub AreKept : Tables → Plan → Rows → ℕ → GroupList → Type 0
AreKept tables plan rows count groups = GroupsAreKept plan (rows_among tables plan rows) count groups
