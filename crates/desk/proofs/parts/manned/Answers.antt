-- The seats are new, and numbered as they come.
use Rattle.std.proofs.Common.{rules, refl, ◌∙◌, arith}
use Rattle.desk.specs.State.{IsNew}
use Rattle.desk.proofs.Seats.{all_snoc, numbers_snoc}
use Rattle.desk.proofs.parts.manned.Goals as goal

pub loop-number-preserved : goal.loop-number-preserved
loop-number-preserved g c =
    let inv = c.loop-number.invariant in (
      search rules,
      search rules,
      search rules,
      search rules,
      search rules,
      rw c.push_reserved.ensures.items (all_snoc (IsNew g.L.Origin.first) c.loop-number.free.items _ inv.5 (record {
        list = c.in_ok-reading.ensures ∙ c.requires.told;
        last = refl;
        share = c.split_off-share.ensures.amount;
      })),
      rw c.push_reserved.ensures.items (numbers_snoc 0 c.loop-number.free.items _ inv.6 (omega (arith, inv.3))),
    )

pub returns-clause-numbers : goal.returns-clause-numbers
returns-clause-numbers g c = c.loop-number.invariant.6
