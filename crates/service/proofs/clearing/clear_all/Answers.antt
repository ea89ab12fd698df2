use Rattle.std.proofs.Common.{◌∙◌, ap, sym, slice_set}
use Rattle.std.proofs.lemmas.List.Edits.{map_over_more}
use Rattle.service.specs.Waits.{left_at}
use Rattle.service.proofs.LoopLemmas.{map_over_all}
use Rattle.service.proofs.clearing.clear_all.Goals as goal

pub loop-index-preserved : goal.loop-index-preserved
loop-index-preserved c =
    let left = left_at c.args.limits.now c.args.now in
    ap (slice_set c.loop-index.guests c.loop-index.index) (c.clear_at.ensures ∙ ap left (sym c.index-guests-index.is))
    ∙ map_over_more left c.args.guests.now c.loop-index.guests c.loop-index.index c.index-guests-index.result c.loop-index-test.true
    c.loop-index.invariant c.index-guests-index.is

pub returns : goal.returns
returns c =
    map_over_all (left_at c.args.limits.now c.args.now) c.args.guests.now c.loop-index.guests c.loop-index.index c.loop-index-test.false
    c.loop-index.invariant
