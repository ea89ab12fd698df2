-- The first of those above is passed.
use Rattle.std.proofs.Common.{◌≡◌, ◌^◌, ◌-◌, ◌∷◌, sym, ap, subst, ◌∙◌}
use Rattle.intake.specs.Inner.Held.{seqs_in, AreBelow}
use Rattle.intake.proofs.Holding.{held-more, begins-popped, begins-rest}
use Rattle.intake.proofs.known_seqs.pass_known.Goals as goal

pub loop-above-preserved : goal.loop-above-preserved
loop-above-preserved c =
    let missing = c.loop-above.missing in
    let keys = c.loop-above.above.keys in
    let rest = c.pop_first.new.self.keys in
    let begins = sym c.first_is_at.ensures.begins ∙ c.loop-above-test.true in
    let popped : keys ≡ missing ∷ rest =
    begins-popped keys rest missing c.pop_first.result begins c.pop_first.ensures.variant c.pop_first.ensures.removal in
    record {
      same = held-more missing rest ∙ ap (seqs_in missing) (sym popped) ∙ c.loop-above.invariant.same;
      from =
          begins-rest keys rest missing c.pop_first.result begins c.pop_first.ensures.variant c.pop_first.ensures.removal
          c.pop_first.ensures.all_above;
      below = (subst (AreBelow (2 ^ 64 - 1)) popped c.loop-above.invariant.below).1;
    }
