-- One key more; and at the end all are looked at.
use Rattle.std.proofs.Common.{◌<◌, ◌∙◌, [], length, arith}
use Rattle.std.proofs.lemmas.List.{get_or_default}
use Rattle.plans.proofs.Grouped.{found-next, within-next, found-all}
use Rattle.plans.proofs.tallies.Tallies.groups.Goals as goal

pub loop-number-preserved : goal.loop-number-preserved
loop-number-preserved c =
    let keys = c.args.keys.now in
    let n = c.loop-number.number in
    let kept = c.loop-number.invariant in
    let lt : n < length keys = omega (arith, c.loop-number-test.true) in
    record {
      found = λ rows count shaped told.
          found-next c.args.plan.now keys rows count c.args.self.now c.requires shaped told n lt c.index-keys-number.result
          (c.index-keys-number.is ∙ get_or_default keys n _ [] lt) c.loop-number.groups c.put_group.new.groups
          c.in_ok-put_group.ensures.told
          c.in_ok-put_group.ensures.other (kept.found rows count shaped told);
      within = λ rows count shaped told.
          within-next c.args.plan.now keys rows count c.args.self.now c.requires shaped told n lt c.index-keys-number.result
          (c.index-keys-number.is ∙ get_or_default keys n _ [] lt) c.loop-number.groups c.put_group.new.groups
          c.in_ok-put_group.ensures.told
          c.in_ok-put_group.ensures.other (kept.within rows count shaped told);
    }

pub returns : goal.returns
returns c = λ rows count shaped told.
    found-all c.args.plan.now c.args.keys.now rows count c.args.self.now c.requires shaped told c.loop-number.number c.loop-number.groups
    (omega (arith, c.loop-number-test.false)) (c.loop-number.invariant.found rows count shaped told)
    (c.loop-number.invariant.within rows count shaped told)
