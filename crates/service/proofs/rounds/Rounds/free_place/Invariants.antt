use Rattle.std.proofs.Common.{take, All, IsSome}
use Rattle.service.specs.Places.{guests_of}
use Rattle.service.proofs.rounds.Rounds.free_place.Given as goal

abbrev pub invariant-loop-place : goal.invariant-loop-place
invariant-loop-place g l = All IsSome (take l.place (guests_of l.fn.self))
