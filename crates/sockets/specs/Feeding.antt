-- What joins the two sides: what a line sends keeps a replica fed.
use Rattle.std.specs.Prelude.{◌≡◌, ℕ, List}
use mathlib.Core.List.{IsPrefix}
use Rattle.rows.specs.declared.commit.Commit.{Commit}
use Rattle.rows.specs.Shape.{Shape}
use Rattle.dispatcher.specs.Feeding.{IsFedFrom}
use Rattle.dispatcher.specs.State.{Replica}
use Rattle.dispatcher.specs.Steps.{received}
use Rattle.desk.specs.Answers.{IsReadable}
use Rattle.shared.specs.Laws.{IsOfList}

-- a replica that is fed from a list stays so by a packet of that list, or of a beginning of it, which can be read back
abbrev pub SentKeepsFed : Type 0
SentKeepsFed =
    (shape : Shape) (workers : ℕ) (sent list : List Commit) (r : Replica) (packet : List ℕ) → IsReadable workers shape sent
    → IsPrefix sent list → IsOfList shape workers sent packet → r.workers ≡ workers → IsFedFrom shape list r
    → IsFedFrom shape list (received r packet).1
