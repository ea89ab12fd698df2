-- What is left is what is not below.
use Rattle.std.proofs.Common.{sym, ◌∙◌}
use Rattle.intake.proofs.Holding.{from-all}
use Rattle.intake.proofs.known_seqs.drop_under.Goals as goal

pub returns : goal.returns
returns c =
    sym (from-all c.args.base c.loop-above.above.keys (c.first_is_under.ensures.none c.loop-above-test.false)) ∙ c.loop-above.invariant
