-- The number below 256 of a word is the one that is written so.
use Rattle.std.proofs.Common.{◌^◌, arith, rules}
use Rattle.std.proofs.lemmas.Grind.{common_steps}
use Rattle.script.specs.Inner.WordReading.{below_of}
use Rattle.script.proofs.Numbers.{below-exact}
use Rattle.script.proofs.word_reading.small_number.Goals as goal

pub returns-in_err-number-clause-value : goal.returns-in_err-number-clause-value
unfolding below_of
returns-in_err-number-clause-value c = first_of (search rules, grind (arith, common_steps))

pub returns-in_err-number-clause-exact : goal.returns-in_err-number-clause-exact
returns-in_err-number-clause-exact c =
    below-exact (2 ^ 8) c.args.word.now c.from_residual.result (omega arith) (returns-in_err-number-clause-value c)

pub returns-clause-value : goal.returns-clause-value
unfolding below_of
returns-clause-value c = first_of (search rules, grind (arith, common_steps))

pub returns-clause-exact : goal.returns-clause-exact
returns-clause-exact c = below-exact (2 ^ 8) c.args.word.now c.ok.result (omega arith) (returns-clause-value c)
