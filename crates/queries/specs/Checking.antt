-- Whether a plan fits tables with columns of these kinds: its first fault.
use Rattle.std.specs.Prelude.{List, [], ◌∷◌, length, map, Bool, Option, None, Some, Result, Ok, Err, nat_lt, ◌==◌, ◌||◌, if◌then◌else◌}
use Rattle.std.specs.Prelude.{slice_get}
use Rattle.std.specs.Option.{option_or}
use Rattle.rows.specs.declared.kind.Kind.{Kind}
use Rattle.rows.specs.declared.kind.Kind.TheVariants as kinds
use Rattle.rows.specs.declared.value.Value.{Value}
use Rattle.rows.specs.Shape.{Shape}
use Rattle.rows.specs.Values.{is_of_kind}
use Rattle.queries.specs.declared.aggregate.Aggregate.{Aggregate}
use Rattle.queries.specs.declared.aggregate.Aggregate.TheVariants.{Count, Sum, Min, Max}
use Rattle.queries.specs.declared.column.Column.{Column}
use Rattle.queries.specs.declared.column.Column.TheVariants.{Own, Joined}
use Rattle.queries.specs.declared.condition.Condition.{Condition}
use Rattle.queries.specs.declared.plan.Join.{Join}
use Rattle.queries.specs.declared.plan.Plan.{Plan}
use Rattle.queries.specs.declared.faults.PlanFault.{PlanFault}
use Rattle.queries.specs.declared.faults.PlanFault.TheVariants.{NoTable, NoColumn, WrongKind, TooMany, NoAggregate}
use Rattle.queries.specs.Limits.{conditions_max, groups_max, aggregates_max}

-- the first of these faults that stands
abbrev pub first : List (Option PlanFault) → Option PlanFault
first [] = None
first (fault ∷ faults) = option_or fault (first faults)

-- the kind of a column, among those of the plan's table and those of the table that it joins
abbrev pub kind_among : List Kind → List Kind → Column → Option Kind
kind_among own joined (Own column) = slice_get own column
kind_among own joined (Joined column) = slice_get joined column

-- the fault of a column that is to be one of numbers
abbrev pub number_fault : Option Kind → Option PlanFault
number_fault None = Some NoColumn
number_fault (Some kinds.Int) = None
number_fault (Some (kinds.Octets width)) = Some WrongKind

-- the fault of a column that may be of any kind
abbrev pub presence_fault : Option Kind → Option PlanFault
presence_fault None = Some NoColumn
presence_fault (Some kind) = None

-- the fault of a join: its column is to be one of numbers
abbrev pub join_fault : List Kind → Option Join → Option PlanFault
join_fault own None = None
join_fault own (Some join) = number_fault (slice_get own join.column)

-- the fault of a column that is compared with a value
abbrev pub value_fault : Value → Option Kind → Option PlanFault
value_fault value None = Some NoColumn
value_fault value (Some kind) = if is_of_kind value kind then None else Some WrongKind

-- the fault of a condition: its value is to be of its column's kind
abbrev pub condition_fault : List Kind → List Kind → Condition → Option PlanFault
condition_fault own joined condition = value_fault condition.value (kind_among own joined condition.column)

-- the fault of a column to group by: it is to be there
abbrev pub group_fault : List Kind → List Kind → Column → Option PlanFault
group_fault own joined column = presence_fault (kind_among own joined column)

-- the fault of an aggregate: its column is to be there, and only numbers are summed
abbrev pub aggregate_fault : List Kind → List Kind → Aggregate → Option PlanFault
aggregate_fault own joined Count = None
aggregate_fault own joined (Sum column) = number_fault (kind_among own joined column)
aggregate_fault own joined (Min column) = presence_fault (kind_among own joined column)
aggregate_fault own joined (Max column) = presence_fault (kind_among own joined column)

-- the first fault of a plan's columns: of the join, the conditions, the grouping and the aggregates in turn
abbrev pub column_faults : List Kind → List Kind → Plan → Option PlanFault
column_faults own joined plan = first (
    join_fault own plan.join
    ∷ first (map (condition_fault own joined) plan.conditions)
    ∷ first (map (group_fault own joined) plan.groups)
    ∷ first (map (aggregate_fault own joined) plan.aggregates)
    ∷ [])

-- whether a plan has more conditions, columns to group by or aggregates than it may
abbrev pub is_too_many : Plan → Bool
is_too_many plan =
    nat_lt conditions_max (length plan.conditions)
    || nat_lt groups_max (length plan.groups)
    || nat_lt aggregates_max (length plan.aggregates)

-- the kinds of the columns that are joined, none without a join; `None` if the table is not there
abbrev pub joined_kinds : Shape → Option Join → Option (List Kind)
joined_kinds shape None = Some []
joined_kinds shape (Some join) = slice_get shape join.table

-- the faults of columns, if both tables are there
abbrev pub fault_by_tables : Option (List Kind) → Option (List Kind) → Plan → Option PlanFault
fault_by_tables None joined plan = Some NoTable
fault_by_tables (Some own) None plan = Some NoTable
fault_by_tables (Some own) (Some joined) plan = column_faults own joined plan

-- the first fault of a plan, given the columns of both tables, if they are there
abbrev pub fault_among : Option (List Kind) → Option (List Kind) → Plan → Option PlanFault
fault_among own joined plan =
    if is_too_many plan then Some TooMany else
    if length plan.aggregates == 0 then Some NoAggregate else
    fault_by_tables own joined plan

-- the first fault of a plan for tables of these columns
abbrev pub plan_fault : Shape → Plan → Option PlanFault
plan_fault shape plan = fault_among (slice_get shape plan.table) (joined_kinds shape plan.join) plan

-- what a check answers, by the first fault
abbrev pub refused_by : Option PlanFault → Result (Unit {0}) PlanFault
refused_by None = Ok tt
refused_by (Some fault) = Err fault

-- whether a plan fits, or its first fault
abbrev pub checked : Shape → Plan → Result (Unit {0}) PlanFault
checked shape plan = refused_by (plan_fault shape plan)
