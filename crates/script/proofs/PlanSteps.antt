-- The plan that words give, from what its parts give.
use Rattle.std.proofs.Common.{◌≡◌, ℕ, ◌<◌, List, [], ◌∷◌, length, Option, None, Some, Result, Ok, Err, refl, sym, subst, arith}
use Rattle.rows.specs.declared.kind.Kind.{Kind}
use Rattle.queries.specs.declared.aggregate.Aggregate.{Aggregate}
use Rattle.queries.specs.declared.column.Column.{Column}
use Rattle.queries.specs.declared.condition.Condition.{Condition}
use Rattle.queries.specs.declared.plan.Join.{Join}
use Rattle.queries.specs.declared.plan.Plan.{Plan}
use Rattle.script.specs.declared.faults.LineFault.{LineFault}
use Rattle.script.specs.declared.faults.Reason.{Reason}
use Rattle.script.specs.declared.faults.Reason.TheVariants.{BadWords}
use Rattle.script.specs.Inner.LineFaults.{Gives, because}
use Rattle.script.specs.Inner.WordReading.{table_of}
use Rattle.script.specs.Inner.PlanReading.{query_of, join_of, join_table, conditions_of, groups_of, aggregates_of, plan_on, whole, plan_of}

pub plan-of-parts : (schema : List (List ℕ × List Kind)) (words : List (List ℕ)) (name : List ℕ) (behind_name : List (List ℕ))
    (join : Option (ℕ × List ℕ)) (behind_join : List (List ℕ)) (conditions : List Condition) (behind_conditions : List (List ℕ))
    (groups : List Column) (behind_groups : List (List ℕ)) (aggregates : List Aggregate) (left : List (List ℕ))
    → query_of words ≡ Some (name, behind_name) → join_of behind_name ≡ (join, behind_join)
    → conditions_of behind_join ≡ (conditions, behind_conditions) → groups_of behind_conditions ≡ (groups, behind_groups)
    → aggregates_of behind_groups ≡ (aggregates, left)
    → plan_of schema words ≡ whole (table_of schema name) (join_table schema join) conditions groups aggregates left
unfolding plan_of
plan-of-parts schema words name r1 join r2 conditions r3 groups r4 aggregates r5 q j c g a = rw q (rw j (rw c (rw g (rw a refl))))

pub plan-of-none : (schema : List (List ℕ × List Kind)) (words : List (List ℕ)) → query_of words ≡ None
    → plan_of schema words ≡ Err BadWords
unfolding plan_of
plan-of-none schema words none = rw none refl

pub whole-none : (table : Result ℕ Reason) (join : Result (Option Join) Reason) (conditions : List Condition) (groups : List Column)
    (aggregates : List Aggregate) (left : List (List ℕ)) → length aggregates ≡ 0
    → whole table join conditions groups aggregates left ≡ Err BadWords
whole-none table join conditions groups [] left none = refl
whole-none table join conditions groups (first ∷ more) left none = absurd (omega arith)

pub whole-left : (table : Result ℕ Reason) (join : Result (Option Join) Reason) (conditions : List Condition) (groups : List Column)
    (aggregates : List Aggregate) (left : List (List ℕ)) → 0 < length left
    → whole table join conditions groups aggregates left ≡ Err BadWords
whole-left table join conditions groups [] left some = refl
whole-left table join conditions groups (first ∷ more) [] some = absurd (omega arith)
whole-left table join conditions groups (first ∷ more) (word ∷ words) some = refl

pub whole-on : (table : Result ℕ Reason) (join : Result (Option Join) Reason) (conditions : List Condition) (groups : List Column)
    (aggregates : List Aggregate) (left : List (List ℕ)) → 0 < length aggregates → length left ≡ 0
    → whole table join conditions groups aggregates left ≡ plan_on table join conditions groups aggregates
whole-on table join conditions groups [] left some none = absurd (omega arith)
whole-on table join conditions groups (first ∷ more) [] some none = refl
whole-on table join conditions groups (first ∷ more) (word ∷ words) some none = absurd (omega arith)

pub gives-because : (reading other : Result Plan Reason) (result : Result Plan LineFault) → reading ≡ other → result ≡ because other
    → Gives reading result
gives-because reading other result same is =
    let P : Result Plan LineFault → Type 0 = λ it. Gives reading it in
    subst P (sym is) (by other same)
  where
    by : (other : Result Plan Reason) → reading ≡ other → Gives reading (because other)
    by (Ok plan) e = e
    by (Err reason) e = e
