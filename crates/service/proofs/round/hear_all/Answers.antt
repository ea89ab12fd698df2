use Rattle.std.proofs.Common.{◌∙◌, sym}
use Rattle.std.proofs.lemmas.Bool.{false≢true}
use Rattle.std.proofs.Math.Seq.{map-set_same}
use Rattle.service.specs.Denials.{WithDenials}
use Rattle.service.specs.Rounds.{sent_at}
use Rattle.service.proofs.ChainLemmas.{Leads-then}
use Rattle.service.proofs.round.hear_all.Goals.{then-hear_at, else-hear_at}
use Rattle.service.proofs.round.hear_all.Goals as goal

pub loop-index-preserved : goal.loop-index-preserved
loop-index-preserved g c = (
  Leads-then (WithDenials g.S.Settle.answers) _ _ _ c.loop-index.invariant.0 c.hear_at.ensures.calls,
  map-set_same sent_at c.loop-index.guests c.loop-index.index c.hear_at.new.place c.index-guests-index-in-loop-index.result
      c.hear_at.ensures.unsent ∙ c.loop-index.invariant.1,
  λ none. elim c.if-hear_at.branch [
    | then-hear_at w ↦ absurd (false≢true (sym none ∙ w.is_any-is))
    | else-hear_at w ↦ c.hear_at.ensures.none w.if-hear_at.false ∙ c.loop-index.invariant.2 (sym w.is_any-is ∙ none)
  ],
)
