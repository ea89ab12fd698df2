use Rattle.std.proofs.Common.{◌∙◌}
use Rattle.std.proofs.Math.Seq.{map-set_same}
use Rattle.service.specs.Rounds.{sent_at}
use Rattle.service.proofs.round.note_times.Goals as goal

pub loop-index-preserved : goal.loop-index-preserved
loop-index-preserved c =
    map-set_same sent_at c.loop-index.guests c.loop-index.index c.note_time_at.new.place c.index-guests-index.result
    c.note_time_at.ensures ∙ c.loop-index.invariant
