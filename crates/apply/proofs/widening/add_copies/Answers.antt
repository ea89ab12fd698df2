-- One block more has the column; or those that have it drop it again.
use Rattle.std.proofs.Common.{◌≡◌, ◌<◌, ◌≤◌, ◌++◌, length, map, take, drop, get_or, slice_set, refl, sym, ap, ◌∙◌, arith}
use Rattle.std.proofs.lemmas.List.{length-map, get_or-map, take-map, take-append-drop}
use Rattle.apply.specs.Blocks.{wider, narrower}
use Rattle.apply.proofs.Widened.{mixed-at, mixed-more, mixed-all, mixed-front, mixed-back, set-same, of-ok, of-err, narrower-each}
use Rattle.apply.proofs.widening.add_copies.Goals as goal

pub loop-k-init : goal.loop-k-init
loop-k-init c = refl

pub loop-k-preserved : goal.loop-k-preserved
loop-k-preserved c =
    let olds = c.args.blocks.now in
    let wide = wider c.args.default.now in
    let news = map wide olds in
    let k = c.loop-k.k in
    let d = c.index-blocks-k.result in
    let few : k < length olds = c.loop-k-test.true in
    let many = length-map olds wide in
    let made = of-ok c.add_copy.result _ c.add_copy.ensures.ok (sym c.is_err.ensures.value ∙ c.if-is_err.false) in
    ap (λ blocks. slice_set blocks k c.add_copy.new.self) c.loop-k.invariant
    ∙ mixed-more k news olds d c.add_copy.new.self many few
    (made ∙ ap wide (ap (λ blocks. get_or blocks k d) c.loop-k.invariant ∙ mixed-at k news olds d many few)
    ∙ sym (get_or-map wide olds k d d few))

pub returns-clause-ok : goal.returns-clause-ok
returns-clause-ok c =
    let wide = wider c.args.default.now in
    c.loop-k.invariant
    ∙ mixed-all c.loop-k.k (map wide c.args.blocks.now) c.args.blocks.now (length-map c.args.blocks.now wide) c.loop-k-test.false

pub returns-then-is_err-clause-err : goal.returns-then-is_err-clause-err
returns-then-is_err-clause-err c =
    let olds = c.args.blocks.now in
    let wide = wider c.args.default.now in
    let news = map wide olds in
    let k = c.loop-k.k in
    let d = c.index-blocks-k.result in
    let blocks = c.loop-k.blocks in
    let many = length-map olds wide in
    let le : k ≤ length olds = omega (arith, c.loop-k-test.true) in
    let kept = of-err c.add_copy.result _ c.add_copy.ensures.err (sym c.is_err.ensures.value ∙ c.if-is_err.true) in
    let same : slice_set blocks k c.add_copy.new.self ≡ blocks = set-same blocks k c.add_copy.new.self d kept in
    let all : slice_set blocks k c.add_copy.new.self ≡ take k news ++ drop k olds = same ∙ c.loop-k.invariant in
    let front : c.drop_column.new.blocks ≡ take k olds =
    c.drop_column.ensures ∙ ap (λ blocks. map narrower (take k blocks)) all ∙ ap (map narrower) (mixed-front k news olds many le)
    ∙ ap (map narrower) (take-map wide k olds) ∙ narrower-each c.args.default.now (take k olds) in
    ap (λ blocks. c.drop_column.new.blocks ++ drop k blocks) all
    ∙ ap (λ back. c.drop_column.new.blocks ++ back) (mixed-back k news olds many le)
    ∙ ap (λ front. front ++ drop k olds) front
    ∙ take-append-drop k olds

pub add_copy-requires-clause-within : goal.add_copy-requires-clause-within
add_copy-requires-clause-within c =
    let olds = c.args.blocks.now in
    let wide = wider c.args.default.now in
    let k = c.loop-k.k in
    let d = c.index-blocks-k.result in
    let few : k < length olds = c.loop-k-test.true in
    let same = ap (λ blocks. get_or blocks k d) c.loop-k.invariant ∙ mixed-at k (map wide olds) olds d (length-map olds wide) few in
    rw same (c.requires.within k d few)
