use Rattle.std.proofs.Common.{◌∙◌, ap, sym, ◌+◌, ◌-◌, ◌^◌, min, sum_by, take}
use Rattle.std.proofs.lemmas.List.{take_all}
use Rattle.std.proofs.lemmas.List.Sums.{sum_by_more}
use Rattle.service.specs.Waits.{most_at}
use Rattle.service.proofs.LoopLemmas.{min_more}
use Rattle.service.proofs.round.held_bytes.Goals as goal

pub loop-place-preserved : goal.loop-place-preserved
loop-place-preserved c =
    let guests = c.args.guests.now in
    let sum = sum_by most_at (take c.loop-place.place-index guests) in
    let most = c.most_at.ensures ∙ ap most_at c.place-item.is in
    c.saturating_add-held.ensures
    ∙ min_more (2 ^ 64 - 1) sum c.loop-place.held c.most_at.result c.loop-place.invariant
    ∙ ap (λ held. min held (2 ^ 64 - 1))
    (ap (λ n. sum + n) most ∙ sym (sum_by_more most_at guests c.loop-place.place-index c.place-item.result c.loop-place-test.true))

pub returns : goal.returns
returns c =
    c.loop-place.invariant
    ∙ ap (λ guests. min (sum_by most_at guests) (2 ^ 64 - 1)) (take_all c.loop-place.place-index c.args.guests.now c.loop-place-test.false)
