-- One plan more has looked at the row.
use Rattle.std.proofs.Common.{◌≡◌, ◌<◌, length, get_or, sym, subst, ◌∙◌, arith}
use Rattle.std.proofs.lemmas.List.{get_or_default}
use Rattle.plans.specs.Inner.Ranges.{TakesRow}
use Rattle.plans.proofs.Ranged.{takes-next}
use Rattle.plans.proofs.ranging.take_row_each.Goals as goal

pub loop-k-preserved : goal.loop-k-preserved
loop-k-preserved g c =
    let tables = g.S.Store.tables c.args.store.now in
    let plans = c.args.plans.now in
    let groups = c.loop-k.groups in
    let k = c.loop-k.k in
    let table = c.args.table in
    let new = c.take_row_of.new.groups in
    let few : k < length plans = omega (arith, c.loop-k-test.true, c.loop-k.auto.k-end) in
    let lt : k < length groups = omega (arith, few, c.requires.sizes, c.loop-k.auto.groups) in
    takes-next tables plans table c.args.id.0 c.args.count k c.args.groups.now groups new c.loop-k.invariant lt
    (λ d e.
    let plan : get_or plans k d ≡ c.index-plans-k.result = get_or_default plans k d c.index-plans-k.result few ∙ sym c.index-plans-k.is in
    let old = sym (c.loop-k.invariant.left k e (omega arith)) ∙ get_or_default groups k e c.index-groups-k.result lt in
    subst (λ plan. TakesRow tables plan table c.args.id.0 c.args.count (get_or c.args.groups.now k e) new) (sym plan)
    (subst (λ old. TakesRow tables c.index-plans-k.result table c.args.id.0 c.args.count old new) (sym old) c.in_ok-take_row_of.ensures))
