-- While a transaction has added no column, it sees tables of the kinds that they have at its snapshot.
use Rattle.std.proofs.Common.{◌≡◌, List, ◌∙◌}
use Rattle.rows.specs.declared.commit.Commit.{Commit}
use Rattle.rows.specs.Shape.{Shape}
use Rattle.rows.specs.Tables.{shape_in}
use Rattle.rows.specs.Commits.{tables_after}
use Rattle.rows.specs.Laws.{AppliedTellKinds}
use Rattle.mvcc.specs.Transaction.{Transaction}
use Rattle.mvcc.specs.Transactions.{seen_shape}
use Rattle.mvcc.specs.Inner.Keys.{AreOfRows}
use Rattle.mvcc.proofs.Effects.{kept}

pub seen-shape : (applied : AppliedTellKinds) (shape : Shape) (commits : List Commit) (draft : Transaction) → AreOfRows draft.entries
    → seen_shape shape commits draft ≡ shape_in (tables_after shape commits draft.snapshot)
seen-shape applied shape commits draft of =
    applied (tables_after shape commits draft.snapshot) draft.entries
    ∙ kept (shape_in (tables_after shape commits draft.snapshot)) draft.entries of
