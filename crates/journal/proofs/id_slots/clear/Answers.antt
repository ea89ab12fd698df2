-- The slot at the index is emptied if it has the identifier.
use Rattle.std.proofs.Common.{◌≡◌, ◌<◌, length, get_or, arith, ◌∙◌, sym}
use Rattle.std.proofs.lemmas.List.{get_or_read}
use Rattle.journal.proofs.Slots.{cleared-set, cleared-kept}
use Rattle.journal.proofs.id_slots.clear.Goals as goal
use Rattle.journal.proofs.id_slots.clear.Goals.{then-index-id, else-index-id}

pub loop-at-preserved : goal.loop-at-preserved
loop-at-preserved c =
    let within : c.loop-at.at < length c.loop-at.slots.items = omega (arith, c.loop-at.invariant.len) in
    let read : c.index.result.now ≡ get_or c.loop-at.slots.items c.loop-at.at 0 =
    get_or_read _ _ _ within c.index.ensures 0 in
    elim c.if-index-id.branch [
      | then-index-id w ↦ rw w.slots-is (cleared-set _ _ _ _ _ c.requires.some within c.loop-at.invariant (sym read ∙ w.if-index-id.true))
      | else-index-id w ↦ rw w.slots-is (cleared-kept _ _ _ _ _ c.loop-at.invariant (λ e. w.if-index-id.false (read ∙ e)))
    ]
