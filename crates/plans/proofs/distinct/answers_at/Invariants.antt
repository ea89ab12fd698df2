-- These are the answers at the places before the index.
use Rattle.std.proofs.Common.{◌≡◌, ℕ, ◌<◌, List, length, get_or}
use Rattle.queries.specs.declared.field.Field.{Field}
use Rattle.plans.proofs.distinct.answers_at.Given as goal

abbrev pub invariant-loop-index : goal.invariant-loop-index
invariant-loop-index l = record {
  sizes : length l.copies.items ≡ l.index;
  each : (p : ℕ) (n : ℕ) (d : List (List Field)) → p < l.index → get_or l.copies.items p d ≡ get_or l.answers (get_or l.places p n) d;
}
