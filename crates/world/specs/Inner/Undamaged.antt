-- Only for proofs: a world in which nothing is damaged.
use Rattle.std.specs.Prelude.{◌≡◌, ℕ, ◌≤◌, length, true, false, Some, slice_get, is_ok}
use Rattle.rows.specs.Tables.{apply_entries}
use Rattle.rows.specs.Commits.{tables_after}
use Rattle.rows.specs.Shape.{shape_of}
use Rattle.mvcc.specs.Transaction.{Transaction}
use Rattle.primary.specs.State.{Primary}
use Rattle.world.specs.Steps.{World}

-- a transaction that the primary began: its entries are defined on the rows at a version that is durable
pub record IsBegunTransaction (p : Primary) (draft : Transaction) : Type 0 where
  pub known : draft.snapshot ≤ length p.durable
  pub defined : is_ok (apply_entries (tables_after (shape_of p.schema) p.durable draft.snapshot) draft.entries) ≡ true

pub record IsUndamaged (w : World) : Type 0 where
  pub whole : w.primary.failed ≡ false
  pub begun : (i : ℕ) (draft : Transaction) → slice_get w.transactions i ≡ Some (Some draft) → IsBegunTransaction w.primary draft
