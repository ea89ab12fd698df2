-- A plan for which no fault stands: both tables are there, and no part of its columns has a fault.
use Rattle.std.proofs.Common.{◌≡◌, Bool, true, false, ◌==◌, cond, List, [], ◌∷◌, length, map, Option, None, Some}
use Rattle.std.proofs.Common.{Ok, slice_get, refl}
use Rattle.std.specs.List.{AllByRecursion}
use Rattle.std.specs.Option.{option_or}
use Rattle.rows.specs.declared.kind.Kind.{Kind}
use Rattle.rows.specs.Shape.{Shape}
use Rattle.queries.specs.declared.plan.Plan.{Plan}
use Rattle.queries.specs.declared.faults.PlanFault.{PlanFault}
use Rattle.queries.specs.declared.faults.PlanFault.TheVariants.{TooMany, NoAggregate}
use Rattle.queries.specs.Checking.{first, join_fault, condition_fault, group_fault, aggregate_fault}
use Rattle.queries.specs.Checking.{column_faults, is_too_many, joined_kinds, fault_by_tables, plan_fault, checked, refused_by}
use Rattle.queries.specs.Laws.{EachPartFits}

-- ---- no fault stands

refused-none : (fault : Option PlanFault) → refused_by fault ≡ Ok tt → fault ≡ None
refused-none None e = refl
refused-none (Some fault) e = cc

-- the kinds of a plan's tables, and that none of its columns has a fault
pub record HasTables (shape : Shape) (plan : Plan) : Type 0 where
  pub own : List Kind
  pub joined : List Kind
  pub table : slice_get shape plan.table ≡ Some own
  pub join : joined_kinds shape plan.join ≡ Some joined
  pub columns : column_faults own joined plan ≡ None

tables-there : (shape : Shape) (plan : Plan) (own joined : Option (List Kind)) → slice_get shape plan.table ≡ own
    → joined_kinds shape plan.join ≡ joined → fault_by_tables own joined plan ≡ None → HasTables shape plan
tables-there shape plan None joined table join e = absurd (cc)
tables-there shape plan (Some own) None table join e = absurd (cc)
tables-there shape plan (Some own) (Some joined) table join e =
    record { own = own; joined = joined; table = table; join = join; columns = e }

pub has-tables : (shape : Shape) (plan : Plan) → checked shape plan ≡ Ok tt → HasTables shape plan
has-tables shape plan e = by (is_too_many plan) (length plan.aggregates == 0) (refused-none (plan_fault shape plan) e)
  where
    open_tables : fault_by_tables (slice_get shape plan.table) (joined_kinds shape plan.join) plan ≡ None → HasTables shape plan
    open_tables h = tables-there shape plan (slice_get shape plan.table) (joined_kinds shape plan.join) refl refl h

    by : (many none : Bool)
        → cond many (Some TooMany)
        (cond none (Some NoAggregate) (fault_by_tables (slice_get shape plan.table) (joined_kinds shape plan.join) plan)) ≡ None
        → HasTables shape plan
    by true none h = absurd (cc)
    by false true h = absurd (cc)
    by false false h = open_tables h

pub or_none : (fault other : Option PlanFault) → option_or fault other ≡ None → (fault ≡ None) × (other ≡ None)
or_none None other e = (refl, e)
or_none (Some fault) other e = absurd (cc)

each : {X : Type 0} (fault : X → Option PlanFault) (xs : List X) → first (map fault xs) ≡ None
    → AllByRecursion (λ x. fault x ≡ None) xs
each fault [] e = tt
each fault (x ∷ xs) e =
    let parts = or_none (fault x) (first (map fault xs)) e in
    (parts.0, each fault xs parts.1)

-- the four parts of a plan's columns
pub record NoFault (own joined : List Kind) (plan : Plan) : Type 0 where
  pub join : join_fault own plan.join ≡ None
  pub conditions : first (map (condition_fault own joined) plan.conditions) ≡ None
  pub groups : first (map (group_fault own joined) plan.groups) ≡ None
  pub aggregates : first (map (aggregate_fault own joined) plan.aggregates) ≡ None

pub no-fault : (own joined : List Kind) (plan : Plan) → column_faults own joined plan ≡ None → NoFault own joined plan
no-fault own joined plan e =
    let conditions = first (map (condition_fault own joined) plan.conditions) in
    let groups = first (map (group_fault own joined) plan.groups) in
    let aggregates = first (map (aggregate_fault own joined) plan.aggregates) in
    let a = or_none (join_fault own plan.join) (option_or conditions (option_or groups (option_or aggregates None))) e in
    let b = or_none conditions (option_or groups (option_or aggregates None)) a.1 in
    let c = or_none groups (option_or aggregates None) b.1 in
    let d = or_none aggregates None c.1 in
    record { join = a.0; conditions = b.0; groups = c.0; aggregates = d.0 }

pub each-part-fits : EachPartFits
each-part-fits shape plan e =
    let there = has-tables shape plan e in
    let none = no-fault there.own there.joined plan there.columns in
    record {
      own = there.own;
      joined = there.joined;
      own_there = there.table;
      joined_there = there.join;
      join = none.join;
      conditions = each (condition_fault there.own there.joined) plan.conditions none.conditions;
      groups = each (group_fault there.own there.joined) plan.groups none.groups;
      aggregates = each (aggregate_fault there.own there.joined) plan.aggregates none.aggregates;
    }
