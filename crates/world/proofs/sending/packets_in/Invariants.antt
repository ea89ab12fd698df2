-- The datagrams so far, followed by those that are left.
use Rattle.std.proofs.Common.{◌≡◌, ◌++◌, drop}
use Rattle.world.specs.Outputs.{packets_of}
use Rattle.world.proofs.sending.packets_in.Given as goal

abbrev pub invariant-loop-out : goal.invariant-loop-out
invariant-loop-out l = l.packets.items ++ packets_of (drop l.out-index l.outs) ≡ packets_of l.outs
