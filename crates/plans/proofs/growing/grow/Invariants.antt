-- The fields before the index have grown, and those from it on are to grow; so far each is within its rows, or one more.
use Rattle.std.proofs.Common.{◌≡◌, ℕ, ◌+◌, ◌<◌, ◌≤◌, ◌++◌, length, take, drop, get_or}
use Rattle.std.specs.List.{All, AllByRecursion}
use Rattle.queries.specs.declared.field.Field.{Field}
use Rattle.plans.specs.Inner.Kept.{grown_all, HasInput, IsWithin}
use Rattle.plans.specs.Inner.Places.{row_at_place}
use Rattle.plans.proofs.growing.grow.Given as goal

abbrev pub invariant-loop-index : goal.invariant-loop-index
invariant-loop-index g l = record {
  there : AllByRecursion (HasInput (row_at_place (g.S.Store.values_at l.store) l.row)) (drop l.index l.aggregates);
  whole : take l.index l.fields
      ++ grown_all (row_at_place (g.S.Store.values_at l.store) l.row) (drop l.index l.aggregates) (drop l.index l.fields)
      ≡ grown_all (row_at_place (g.S.Store.values_at l.store) l.row) l.aggregates l.initial.fields;
  rest : (k : ℕ) (d : Field) → l.index ≤ k → k < length l.fields → IsWithin l.rows (get_or l.fields k d);
  all : All (IsWithin (l.rows + 1)) l.fields;
}
