-- Plans that are equal.
use Rattle.std.specs.Prelude.{◌≡◌, ℕ, ◌<◌, ◌≤◌, List, length, slice_index_or}
use Rattle.queries.specs.declared.field.Field.{Field}
use Rattle.queries.specs.declared.plan.Plan.{Plan}

-- this plan stands there
pub record IsAt (plans : List Plan) (plan : Plan) (place : ℕ) : Type 0 where
  pub within : place < length plans
  pub same : (d : Plan) → slice_index_or plans place d ≡ plan

-- plans and perhaps one more behind them, one of which is this plan, at a place
pub record IsPlaced (old : List Plan) (plan : Plan) (new : List Plan) (place : ℕ) : Type 0 where
  pub here : IsAt new plan place
  pub grows : length old ≤ length new
  pub stays : (k : ℕ) (d : Plan) → k < length old → slice_index_or new k d ≡ slice_index_or old k d
  pub added : (k : ℕ) (d : Plan) → length old ≤ k → k < length new → slice_index_or new k d ≡ plan

-- each plan stands at its place, and each that stands there is one of the plans
pub record ArePlaced (plans firsts : List Plan) (places : List ℕ) : Type 0 where
  pub sizes : length places ≡ length plans
  pub within : (p : ℕ) (n : ℕ) → p < length plans → slice_index_or places p n < length firsts
  pub same : (p : ℕ) (n : ℕ) (d : Plan) → p < length plans → slice_index_or firsts (slice_index_or places p n) d ≡ slice_index_or plans p d
  pub from : (j : ℕ) → j < length firsts
      → (p : ℕ) × (p < length plans) × ((d : Plan) → slice_index_or firsts j d ≡ slice_index_or plans p d)

-- these are the answers at places
pub record AreAt (answers : List (List (List Field))) (places : List ℕ) (copies : List (List (List Field))) : Type 0 where
  pub sizes : length copies ≡ length places
  pub each : (p : ℕ) (n : ℕ) (d : List (List Field)) → p < length places
      → slice_index_or copies p d ≡ slice_index_or answers (slice_index_or places p n) d
