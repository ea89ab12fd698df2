-- A plan that fits still fits where a table has one column more: each column that it names has the kind that it had.
use Rattle.std.proofs.Common.{◌≡◌, ℕ, zero, suc, Bool, true, false, ◌==◌, cond, List, [], ◌∷◌, ◌++◌, length, map, Option, None, Some}
use Rattle.std.proofs.Common.{Ok, slice_get, refl, ap, ◌∙◌}
use Rattle.std.specs.Option.{option_or}
use Rattle.std.proofs.lemmas.Option.{same_Some}
use Rattle.rows.specs.declared.kind.Kind.{Kind}
use Rattle.rows.specs.Shape.{Shape}
use Rattle.queries.specs.declared.aggregate.Aggregate.{Aggregate}
use Rattle.queries.specs.declared.aggregate.Aggregate.TheVariants.{Count, Sum, Min, Max}
use Rattle.queries.specs.declared.column.Column.{Column}
use Rattle.queries.specs.declared.column.Column.TheVariants.{Own, Joined}
use Rattle.queries.specs.declared.condition.Condition.{Condition}
use Rattle.queries.specs.declared.plan.Join.{Join}
use Rattle.queries.specs.declared.plan.Plan.{Plan}
use Rattle.queries.specs.declared.faults.PlanFault.{PlanFault}
use Rattle.queries.specs.declared.faults.PlanFault.TheVariants.{TooMany, NoAggregate}
use Rattle.queries.specs.Checking.{first, kind_among, number_fault, presence_fault, join_fault, value_fault, condition_fault, group_fault}
use Rattle.queries.specs.Checking.{aggregate_fault, column_faults, is_too_many, joined_kinds, fault_by_tables, refused_by}
use Rattle.queries.specs.Laws.{PlanStillFits}
use Rattle.queries.proofs.Faultless.{HasTables, has-tables, no-fault, or_none}

-- ---- columns that are there stay

-- each column of the first has its kind in the second
abbrev IsWithin : List Kind → List Kind → Type 0
IsWithin columns wider = (column : ℕ) (kind : Kind) → slice_get columns column ≡ Some kind → slice_get wider column ≡ Some kind

within-itself : (columns : List Kind) → IsWithin columns columns
within-itself columns column kind e = e

within-wider : (columns : List Kind) (added : Kind) → IsWithin columns (columns ++ added ∷ [])
within-wider [] added column kind e = absurd (cc)
within-wider (first ∷ columns) added zero kind e = e
within-wider (first ∷ columns) added (suc column) kind e = within-wider columns added column kind e

-- the columns of a table that was there
record Widened (shape : Shape) (table : ℕ) (columns : List Kind) : Type 0 where
  pub wider : List Kind
  pub there : slice_get shape table ≡ Some wider
  pub within : IsWithin columns wider

widened : (front back : Shape) (columns : List Kind) (added : Kind) (table : ℕ) (own : List Kind)
    → slice_get (front ++ columns ∷ back) table ≡ Some own → Widened (front ++ (columns ++ added ∷ []) ∷ back) table own
widened [] back columns added zero own e =
    record {
      wider = columns ++ added ∷ [];
      there = refl;
      within = λ column kind h. within-wider columns added column kind (ap (λ kinds. slice_get kinds column) (same_Some columns own e) ∙ h);
    }
widened [] back columns added (suc table) own e = record { wider = own; there = e; within = within-itself own }
widened (first ∷ front) back columns added zero own e = record { wider = own; there = e; within = within-itself own }
widened (first ∷ front) back columns added (suc table) own e =
    let rest = widened front back columns added table own e in
    record { wider = rest.wider; there = rest.there; within = rest.within }

joined-widened : (front back : Shape) (columns : List Kind) (added : Kind) (join : Option Join) (joined : List Kind)
    → joined_kinds (front ++ columns ∷ back) join ≡ Some joined
    → (wider : List Kind) × (joined_kinds (front ++ (columns ++ added ∷ []) ∷ back) join ≡ Some wider) × IsWithin joined wider
joined-widened front back columns added None joined e = (joined, e, within-itself joined)
joined-widened front back columns added (Some join) joined e =
    let table = widened front back columns added join.table joined e in
    (table.wider, table.there, table.within)

-- ---- so no fault comes

neither : (fault other : Option PlanFault) → fault ≡ None → other ≡ None → option_or fault other ≡ None
neither fault other e h = ap (λ f. option_or f other) e ∙ h

-- what a column's fault says, where the column is not there or has a kind
still-none : (fault_of : Option Kind → Option PlanFault) (found wider : Option Kind) → (fault_of None ≡ None → ⊥)
    → ((kind : Kind) → found ≡ Some kind → wider ≡ Some kind) → fault_of found ≡ None → fault_of wider ≡ None
still-none fault_of None wider missing stays e = absurd (missing e)
still-none fault_of (Some kind) wider missing stays e = ap fault_of (stays kind refl) ∙ e

kind-stays : (own joined own_wider joined_wider : List Kind) → IsWithin own own_wider → IsWithin joined joined_wider → (column : Column)
    (kind : Kind) → kind_among own joined column ≡ Some kind → kind_among own_wider joined_wider column ≡ Some kind
kind-stays own joined own_wider joined_wider a b (Own column) kind e = a column kind e
kind-stays own joined own_wider joined_wider a b (Joined column) kind e = b column kind e

each-still : {X : Type 0} (fault wider : X → Option PlanFault) → ((x : X) → fault x ≡ None → wider x ≡ None) → (xs : List X)
    → first (map fault xs) ≡ None → first (map wider xs) ≡ None
each-still fault wider stays [] e = refl
each-still fault wider stays (x ∷ xs) e =
    let parts = or_none (fault x) (first (map fault xs)) e in
    neither (wider x) (first (map wider xs)) (stays x parts.0) (each-still fault wider stays xs parts.1)

-- no column of a plan has a fault among wider tables
module _ (own joined own_wider joined_wider : List Kind) (a : IsWithin own own_wider) (b : IsWithin joined joined_wider) where
  column-still : (fault_of : Option Kind → Option PlanFault) → (fault_of None ≡ None → ⊥) → (column : Column)
      → fault_of (kind_among own joined column) ≡ None → fault_of (kind_among own_wider joined_wider column) ≡ None
  column-still fault_of missing column e =
      still-none fault_of (kind_among own joined column) (kind_among own_wider joined_wider column) missing
      (kind-stays own joined own_wider joined_wider a b column) e

  join-still : (join : Option Join) → join_fault own join ≡ None → join_fault own_wider join ≡ None
  join-still None e = refl
  join-still (Some join) e =
      still-none number_fault (slice_get own join.column) (slice_get own_wider join.column) (λ h. cc) (a join.column) e

  condition-still : (condition : Condition) → condition_fault own joined condition ≡ None
      → condition_fault own_wider joined_wider condition ≡ None
  condition-still condition e = column-still (value_fault condition.value) (λ h. cc) condition.column e

  group-still : (column : Column) → group_fault own joined column ≡ None → group_fault own_wider joined_wider column ≡ None
  group-still column e = column-still presence_fault (λ h. cc) column e

  aggregate-still : (aggregate : Aggregate) → aggregate_fault own joined aggregate ≡ None
      → aggregate_fault own_wider joined_wider aggregate ≡ None
  aggregate-still Count e = refl
  aggregate-still (Sum column) e = column-still number_fault (λ h. cc) column e
  aggregate-still (Min column) e = column-still presence_fault (λ h. cc) column e
  aggregate-still (Max column) e = column-still presence_fault (λ h. cc) column e

  columns-still : (plan : Plan) → column_faults own joined plan ≡ None → column_faults own_wider joined_wider plan ≡ None
  columns-still plan e =
      let none = no-fault own joined plan e in
      let conditions = first (map (condition_fault own_wider joined_wider) plan.conditions) in
      let groups = first (map (group_fault own_wider joined_wider) plan.groups) in
      let aggregates = first (map (aggregate_fault own_wider joined_wider) plan.aggregates) in
      neither (join_fault own_wider plan.join) (option_or conditions (option_or groups (option_or aggregates None)))
      (join-still plan.join none.join)
      (neither conditions (option_or groups (option_or aggregates None))
      (each-still (condition_fault own joined) (condition_fault own_wider joined_wider) condition-still plan.conditions none.conditions)
      (neither groups (option_or aggregates None)
      (each-still (group_fault own joined) (group_fault own_wider joined_wider) group-still plan.groups none.groups)
      (neither aggregates None
      (each-still (aggregate_fault own joined) (aggregate_fault own_wider joined_wider) aggregate-still plan.aggregates none.aggregates)
      refl)))

pub still-fits : PlanStillFits
still-fits front back columns kind plan e =
    by (is_too_many plan) (length plan.aggregates == 0) e
  where
    shape : Shape
    shape = front ++ columns ∷ back

    wider : Shape
    wider = front ++ (columns ++ kind ∷ []) ∷ back

    -- both tables are there, with their columns
    found : HasTables shape plan → fault_by_tables (slice_get wider plan.table) (joined_kinds wider plan.join) plan ≡ None
    found fitting =
        let own = widened front back columns kind plan.table fitting.own fitting.table in
        let joined = joined-widened front back columns kind plan.join fitting.joined fitting.join in
        rw (own.there, joined.1)
        (columns-still fitting.own fitting.joined own.wider joined.0 own.within joined.2 plan fitting.columns)

    by : (many none : Bool)
        → refused_by (cond many (Some TooMany)
        (cond none (Some NoAggregate) (fault_by_tables (slice_get shape plan.table) (joined_kinds shape plan.join) plan))) ≡ Ok tt
        → refused_by (cond many (Some TooMany)
        (cond none (Some NoAggregate) (fault_by_tables (slice_get wider plan.table) (joined_kinds wider plan.join) plan))) ≡ Ok tt
    by true none h = absurd (cc)
    by false true h = absurd (cc)
    by false false h = ap refused_by (found (has-tables shape plan e))
