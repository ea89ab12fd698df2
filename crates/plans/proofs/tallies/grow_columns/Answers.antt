-- One tally more has places for all keys.
use Rattle.std.proofs.Common.{◌<◌, length, subst, ◌∙◌, arith}
use Rattle.std.proofs.lemmas.List.{length-set}
use Rattle.plans.specs.Inner.Numbered.{IsResized}
use Rattle.plans.proofs.Tallied.{done-more, left-more, at-index}
use Rattle.plans.proofs.tallies.grow_columns.Goals as goal

pub loop-index-preserved : goal.loop-index-preserved
loop-index-preserved c =
    let before = c.args.columns.now in
    let now = c.loop-index.columns in
    let i = c.loop-index.index in
    let new = c.grow_tally.new.tally in
    let kept = c.loop-index.invariant in
    let few : i < length now = omega (arith, c.loop-index-test.true, kept.sizes) in
    record {
      sizes = length-set now i new ∙ kept.sizes;
      done =
          done-more before now i new (λ k old tally. IsResized c.args.keys old tally) few kept.done
          (λ t. subst (λ old. IsResized c.args.keys old new) (at-index before now i new _ t few kept.left) c.in_ok-grow_tally.ensures);
      left = left-more before now i new kept.left;
    }
