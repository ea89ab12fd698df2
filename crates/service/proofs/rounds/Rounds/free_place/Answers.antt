use Rattle.std.proofs.Common.{arith, ◌∙◌, ap, subst, ◌<◌, ◌≤◌, length, All, IsSome, not}
use Rattle.std.proofs.lemmas.List.{take_all}
use Rattle.std.proofs.lemmas.List.Elements.{All-more}
use Rattle.service.specs.Places.{guests_of}
use Rattle.service.proofs.rounds.Rounds.free_place.Goals as goal

pub loop-place-preserved : goal.loop-place-preserved
loop-place-preserved g c =
    let guests = guests_of c.args.self.now in
    let within : c.loop-place.place < length guests = omega arith in
    All-more IsSome guests c.loop-place.place c.index.result.now within c.loop-place.invariant
    (subst IsSome c.index.ensures (c.is_none.ensures ∙ ap not c.if-is_none.false))

pub returns-then-place-self-clause-full : goal.returns-then-place-self-clause-full
returns-then-place-self-clause-full g c =
    let guests = guests_of c.args.self.now in
    let passed : length guests ≤ c.loop-place.place = omega arith in
    λ _. (omega arith, subst (All IsSome) (take_all c.loop-place.place guests passed) c.loop-place.invariant)
