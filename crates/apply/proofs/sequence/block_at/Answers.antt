-- The end of the block before the one in the middle tells.
use Rattle.std.proofs.Common.{◌≡◌, ◌+◌, ◌-◌, ◌/◌, ◌<◌, suc, subst, arith}
use Rattle.apply.specs.Inner.Joins.{end_before}
use Rattle.apply.proofs.Ended.{end-is}
use Rattle.apply.proofs.sequence.block_at.Goals as goal

pub loop-low-preserved : goal.loop-low-preserved
loop-low-preserved c =
    let m = c.loop-low.low + (c.loop-low.high - c.loop-low.low) / 2 in
    let middle = end-is c.args.ends.now m (omega (arith, c.loop-low-test.true)) in
    record {
      apart = omega (arith, c.loop-low-test.true);
      within = omega (arith, c.loop-low-test.true, c.loop-low.invariant.within);
      below = c.loop-low.invariant.below;
      above = omega (arith, middle, c.if-ends-middle.false);
    }

pub returns-clause-above : goal.returns-clause-above
returns-clause-above c =
    let next : c.loop-low.high ≡ suc c.loop-low.low = omega (arith, c.loop-low-test.false, c.loop-low.invariant.apart) in
    subst (λ block. c.args.at < end_before c.args.ends.now block) next c.loop-low.invariant.above
