use Rattle.std.proofs.Common.{◌-◌}
use Rattle.std.proofs.Math.Seq.{map-set_same}
use Rattle.service.specs.Rounds.{sent_at}
use Rattle.service.proofs.readiness.note_event.Goals as goal

pub returns : goal.returns
returns c =
    map-set_same sent_at c.args.guests.now (c.token-token.result.0 - 1) c.note_at.new.place c.index-guests-token.result c.note_at.ensures
