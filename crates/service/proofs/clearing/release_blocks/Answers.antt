use Rattle.std.proofs.Common.{arith, ◌∙◌, ap, sym, slice_set}
use Rattle.std.proofs.lemmas.Bool.Decides.{nat_tests}
use Rattle.std.proofs.lemmas.List.Edits.{map_over_more}
use Rattle.service.specs.Waits.{released_at}
use Rattle.service.proofs.LoopLemmas.{map_over_all}
use Rattle.service.proofs.clearing.release_blocks.Goals as goal

pub loop-index-preserved : goal.loop-index-preserved
loop-index-preserved c =
    ap (slice_set c.loop-index.guests c.loop-index.index) (c.release_at.ensures ∙ ap released_at (sym c.index-guests-index.is))
    ∙ map_over_more released_at c.args.guests.now c.loop-index.guests c.loop-index.index c.index-guests-index.result
    c.loop-index-test.true c.loop-index.invariant c.index-guests-index.is

pub returns : goal.returns
returns c =
    let all = map_over_all released_at c.args.guests.now c.loop-index.guests c.loop-index.index c.loop-index-test.false
    c.loop-index.invariant in
    grind (arith, nat_tests)
