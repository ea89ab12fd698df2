use Rattle.std.proofs.Common.{◌∙◌, sym}
use Rattle.std.proofs.lemmas.Bool.{false≢true}
use Rattle.service.specs.Denials.{WithDenials}
use Rattle.service.proofs.ChainLemmas.{Leads-then}
use Rattle.service.proofs.round.hear.Goals as goal

pub loop-preserved : goal.loop-preserved
loop-preserved g c = (
  Leads-then (WithDenials g.S.Settle.answers) _ _ _ c.loop.invariant.0 c.hear_all.ensures.calls,
  c.note.ensures ∙ (c.hear_all.ensures.unsent ∙ c.loop.invariant.1),
  λ none. absurd (false≢true (sym none)),
)
