use Rattle.std.proofs.Common.{◌∙◌}
use Rattle.std.proofs.Math.Seq.{map-set_same}
use Rattle.service.specs.Rounds.{calls_at}
use Rattle.service.proofs.round.tell_all.Goals as goal

pub loop-index-preserved : goal.loop-index-preserved
loop-index-preserved g c =
    map-set_same calls_at c.loop-index.guests c.loop-index.index c.tell_at.new.place c.index-guests-index.result
    c.tell_at.ensures ∙ c.loop-index.invariant
