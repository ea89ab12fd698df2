-- Each packet is one more.
use Rattle.std.proofs.Common.{sym, ◌∷◌, []}
use Rattle.std.proofs.lemmas.List.{map-append}
use Rattle.sockets.specs.Inner.Sending.{to_replicas}
use Rattle.sockets.proofs.Deeding.{sends_then, sends_as}
use Rattle.sockets.proofs.sending.send_row.Goals as goal

pub loop-packet-preserved : goal.loop-packet-preserved
loop-packet-preserved g c = record {
  sends =
      sends_as _ _ _ _ _ _ _ _ _ _ (sym (map-append to_replicas c.loop-packet.yielded (c.in-Some.packet ∷ [])))
      (sends_then _ _ _ _ _ _ _ _ _ _ _ _ c.loop-packet.invariant.sends c.send.ensures);
}
