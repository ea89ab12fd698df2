-- The packets so far.
use Rattle.std.proofs.Common.{◌≡◌, map, take}
use Rattle.primary.specs.Inner.Tail.{packet_to}
use Rattle.primary.proofs.pieces.pulled_outs.Given as goal

abbrev pub invariant-loop-packet : goal.invariant-loop-packet
invariant-loop-packet l = l.outs.items ≡ map (packet_to l.replica) (take l.packet-index l.packet-items)
