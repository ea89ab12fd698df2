-- The groups so far are those of the keys before the number.
use Rattle.std.proofs.Common.{◌≡◌, ℕ, length, take, List, None, cond}
use Rattle.std.specs.BTreeMap.{is_at}
use Rattle.std.specs.List.{list_any}
use Rattle.std.specs.Map.{lookup}
use Rattle.std.specs.Ordering.{is_eq}
use Rattle.rows.specs.declared.value.Value.{Value}
use Rattle.queries.specs.Order.{group_cmp}
use Rattle.queries.specs.Answers.{JoinedRow}
use Rattle.plans.specs.Inner.Kept.{AreWithin, kept_at}
use Rattle.plans.specs.Inner.Numbered.{IsShaped, IsTallied}
use Rattle.plans.proofs.tallies.Tallies.groups.Given as goal

abbrev pub invariant-loop-number : goal.invariant-loop-number
invariant-loop-number l = record {
  found : (rows : List JoinedRow) (count : ℕ) → IsShaped (length l.keys) count l.plan.aggregates l.self
      → IsTallied l.plan.groups l.plan.aggregates l.keys rows l.self
      → (group : List Value) → lookup (is_at (group_cmp group)) l.groups
      ≡ cond (list_any (λ key. is_eq (group_cmp group key)) (take l.number l.keys)) (kept_at l.plan rows group) None;
  within : (rows : List JoinedRow) (count : ℕ) → IsShaped (length l.keys) count l.plan.aggregates l.self
      → IsTallied l.plan.groups l.plan.aggregates l.keys rows l.self → AreWithin count l.groups;
}
