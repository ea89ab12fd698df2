use Rattle.std.proofs.Common.{◌≡◌, ◌-◌, ◌^◌, min, sum_by, take}
use Rattle.service.specs.Waits.{most_at}
use Rattle.service.proofs.round.held_bytes.Given as goal

abbrev pub invariant-loop-place : goal.invariant-loop-place
invariant-loop-place l = l.held ≡ min (sum_by most_at (take l.place-index l.guests)) (2 ^ 64 - 1)
