-- What is left is found behind what was gone over.
use Rattle.std.proofs.Common.{◌≡◌, ◌+◌, ◌++◌, length, drop}
use Rattle.world.specs.Outputs.{sent_from}
use Rattle.world.proofs.sending.sent_behind.Given as goal

abbrev pub invariant-loop-index : goal.invariant-loop-index
invariant-loop-index l =
    l.list.items ++ sent_from (length l.sent + l.index) (drop l.index l.outs) ≡ sent_from (length l.sent) l.outs
