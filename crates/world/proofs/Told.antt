-- A transaction's calls answer by the commits up to its snapshot: those behind the durable ones change nothing.
use Rattle.std.proofs.Common.{◌≡◌, ℕ, ◌≤◌, List, ◌++◌, length, refl}
use Rattle.rows.specs.declared.commit.Commit.{Commit}
use Rattle.rows.specs.Shape.{Shape}
use Rattle.mvcc.specs.Transaction.{Transaction}
use Rattle.mvcc.specs.Transactions.{get_answer}
use Rattle.script.specs.declared.event.Event.{Event}
use Rattle.script.specs.declared.event.Event.TheVariants as events
use Rattle.world.specs.Inner.CoreSteps.{change_answer}
use Rattle.world.proofs.Durable.{tables-stay}

module _ (shape : Shape) (durable pending : List Commit) (draft : Transaction)
    (known : draft.snapshot ≤ length durable) where
  pub change-told : (event : Event) → change_answer shape (durable ++ pending) event draft ≡ change_answer shape durable event draft
  change-told (events.Insert transaction table row values) = rw (tables-stay shape durable pending draft.snapshot known) refl
  change-told (events.Set transaction table row column value) = rw (tables-stay shape durable pending draft.snapshot known) refl
  change-told (events.Delete transaction table row) = rw (tables-stay shape durable pending draft.snapshot known) refl
  change-told (events.AddColumn transaction table default) = rw (tables-stay shape durable pending draft.snapshot known) refl
  change-told other = refl

  pub get-told : (table row column : ℕ) → get_answer shape
      (durable ++ pending) draft table row column ≡ get_answer shape durable draft table row column
  get-told table row column = rw (tables-stay shape durable pending draft.snapshot known) refl
