use Rattle.std.proofs.Math.Seq.{map-set_same}
use Rattle.service.specs.Rounds.{sent_at}
use Rattle.service.proofs.arrivals.note_ready.Goals as goal

pub returns : goal.returns
returns c =
    map-set_same sent_at c.args.guests.now c.args.place c.note_ready_at.new.place c.index-guests-place.result c.note_ready_at.ensures
