-- One block more has dropped it.
use Rattle.std.proofs.Common.{◌<◌, length, map, get_or, slice_set, refl, sym, ap, ◌∙◌, arith}
use Rattle.std.proofs.lemmas.List.{length-map, get_or-map}
use Rattle.apply.specs.Blocks.{narrower}
use Rattle.apply.proofs.Widened.{mixed-at, mixed-more, mixed-all}
use Rattle.apply.proofs.widening.drop_column.Goals as goal

pub loop-k-init : goal.loop-k-init
loop-k-init c = refl

pub loop-k-preserved : goal.loop-k-preserved
loop-k-preserved c =
    let olds = c.args.blocks.now in
    let news = map narrower olds in
    let k = c.loop-k.k in
    let d = c.index-blocks-k.result in
    let few : k < length olds = omega (arith, c.loop-k-test.true, c.loop-k.auto.k-end) in
    let many = length-map olds narrower in
    ap (λ blocks. slice_set blocks k c.drop_column.new.self) c.loop-k.invariant
    ∙ mixed-more k news olds d c.drop_column.new.self many few
    (c.drop_column.ensures ∙ ap narrower (ap (λ blocks. get_or blocks k d) c.loop-k.invariant ∙ mixed-at k news olds d many few)
    ∙ sym (get_or-map narrower olds k d d few))

pub returns : goal.returns
returns c =
    c.loop-k.invariant
    ∙ mixed-all c.loop-k.k (map narrower c.args.blocks.now) c.args.blocks.now (length-map c.args.blocks.now narrower) c.loop-k-test.false
