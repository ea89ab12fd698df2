-- The plain answer of a plan on tables.
use Rattle.std.specs.Prelude.{ℕ, ℤ, pos, negsuc, ◌+ℤ◌, List, [], ◌∷◌, ◌++◌, length, map, Bool, Option, None, Some, slice_get, if◌then◌else◌}
use Rattle.std.specs.List.{filter, filter_map, list_all}
use Rattle.std.specs.Option.{option_map, option_and_then, unwrap_or}
use Rattle.std.specs.Ordering.{is_eq, is_ne, is_lt, is_le, is_gt, is_ge}
use Rattle.std.specs.declared.cmp.Ordering.{Ordering}
use Rattle.rows.specs.declared.value.Value.{Value}
use Rattle.rows.specs.declared.value.Value.TheVariants.{Int, Octets}
use Rattle.rows.specs.Tables.{Tables, rows_of, row_at}
use Rattle.queries.specs.declared.aggregate.Aggregate.{Aggregate}
use Rattle.queries.specs.declared.aggregate.Aggregate.TheVariants.{Count, Sum, Min, Max}
use Rattle.queries.specs.declared.column.Column.{Column}
use Rattle.queries.specs.declared.column.Column.TheVariants.{Own, Joined}
use Rattle.queries.specs.declared.condition.Comparison.{Comparison}
use Rattle.queries.specs.declared.condition.Comparison.TheVariants as compared
use Rattle.queries.specs.declared.condition.Condition.{Condition}
use Rattle.queries.specs.declared.field.Field.{Field}
use Rattle.queries.specs.declared.field.Field.TheVariants.{Stored, Number, Absent}
use Rattle.queries.specs.declared.plan.Join.{Join}
use Rattle.queries.specs.declared.plan.Plan.{Plan}
use Rattle.queries.specs.Order.{value_cmp, group_cmp, rising}

-- ---- the rows of a plan

-- a row of the plan's table, and the row that it is joined with, which has no values if none is joined
pub record JoinedRow : Type 0 where
  pub own : List Value
  pub joined : List Value

-- the value of a column of a row, if it has that column
abbrev pub column_in : JoinedRow → Column → Option Value
column_in row (Own column) = slice_get row.own column
column_in row (Joined column) = slice_get row.joined column

-- the same; 0 if it has no such column, which no plan that fits names
abbrev pub joined_value : JoinedRow → Column → Value
joined_value row column = unwrap_or (column_in row column) (Int (pos 0))

-- the identifier of a row that a value names: a number that is not negative
abbrev pub id_of : Value → Option ℕ
id_of (Int (pos id)) = Some id
id_of (Int (negsuc n)) = None
id_of (Octets bytes) = None

-- a row with the row that it is joined with; nothing if that is not there
abbrev pub joined_with : Tables → Option Join → List Value → Option JoinedRow
joined_with tables None own = Some (record { own = own; joined = [] })
joined_with tables (Some join) own =
    option_map (λ other. record { own = own; joined = other })
    (option_and_then (row_at (rows_of tables join.table)) (option_and_then id_of (slice_get own join.column)))

-- whether a value that stands so to another one passes a comparison with it
abbrev pub passes : Comparison → Ordering → Bool
passes compared.Equal order = is_eq order
passes compared.NotEqual order = is_ne order
passes compared.Less order = is_lt order
passes compared.AtMost order = is_le order
passes compared.Greater order = is_gt order
passes compared.AtLeast order = is_ge order

-- whether a row meets a condition
abbrev pub meets : JoinedRow → Condition → Bool
meets row condition = passes condition.comparison (value_cmp (joined_value row condition.column) condition.value)

-- of these rows of the plan's table, those that are joined if it joins, and meet all its conditions
abbrev pub rows_among : Tables → Plan → List (ℕ × List Value) → List JoinedRow
rows_among tables plan rows =
    filter (λ row. list_all (meets row) plan.conditions) (filter_map (λ row. joined_with tables plan.join row.1) rows)

-- ---- its groups

-- the values by which a row is grouped
abbrev pub group_of : List Column → JoinedRow → List Value
group_of columns row = map (joined_value row) columns

-- the groups of rows: those of each row; without columns to group by there is one, even of no rows
abbrev pub groups_of : List Column → List JoinedRow → List (List Value)
groups_of [] rows = [] ∷ []
groups_of (column ∷ columns) rows = map (group_of (column ∷ columns)) rows

-- the rows of a group
abbrev pub rows_in : List Column → List Value → List JoinedRow → List JoinedRow
rows_in columns group rows = filter (λ row. is_eq (group_cmp group (group_of columns row))) rows

-- ---- what is asked of a group

-- a number; only numbers are summed
abbrev pub integer_of : Value → ℤ
integer_of (Int number) = number
integer_of (Octets bytes) = pos 0

-- the sum of numbers
abbrev pub total : List ℤ → ℤ
total [] = pos 0
total (number ∷ numbers) = number +ℤ total numbers

-- the lesser and the greater of two values
abbrev pub lesser : Value → Value → Value
lesser value other = if is_gt (value_cmp value other) then other else value

abbrev pub greater : Value → Value → Value
greater value other = if is_gt (value_cmp other value) then other else value

-- the better of a value and the best of others, if there are others
abbrev pub beside : (Value → Value → Value) → Value → Option Value → Value
beside better value None = value
beside better value (Some other) = better value other

-- the best of values; none of none
abbrev pub best : (Value → Value → Value) → List Value → Option Value
best better [] = None
best better (value ∷ values) = Some (beside better value (best better values))

-- a value that there may be none of
abbrev pub field_of : Option Value → Field
field_of None = Absent
field_of (Some value) = Stored value

-- the values of a column
abbrev pub values_in : Column → List JoinedRow → List Value
values_in column rows = map (λ row. joined_value row column) rows

-- an aggregate of rows: their number, the exact sum of a column, the least or the greatest value of one
abbrev pub aggregate_of : List JoinedRow → Aggregate → Field
aggregate_of rows Count = Number (pos (length rows))
aggregate_of rows (Sum column) = Number (total (map integer_of (values_in column rows)))
aggregate_of rows (Min column) = field_of (best lesser (values_in column rows))
aggregate_of rows (Max column) = field_of (best greater (values_in column rows))

-- the line of a group: its values, and then its aggregates
abbrev pub line_of : Plan → List JoinedRow → List Value → List Field
line_of plan rows group = map Stored group ++ map (aggregate_of (rows_in plan.groups group rows)) plan.aggregates

-- ---- the answer

-- a line for each group, once, in rising order
abbrev pub answer_lines : Plan → List JoinedRow → List (List Field)
answer_lines plan rows = map (line_of plan rows) (rising (groups_of plan.groups rows))

-- the plain answer of a plan on tables: the lines of the groups of the rows that it looks at
abbrev pub plain_answer : Tables → Plan → List (List Field)
plain_answer tables plan = answer_lines plan (rows_among tables plan (rows_of tables plan.table))
