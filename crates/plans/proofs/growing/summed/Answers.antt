-- One number more of 64 bits.
use Rattle.std.proofs.Common.{arith, rules, FitsSigned, w64}
use Rattle.std.proofs.lemmas.Int.{ints}
use Rattle.plans.proofs.growing.summed.Goals as goal

pub returns-in-Number-clause-within : goal.returns-in-Number-clause-within
returns-in-Number-clause-within c =
    let small = rw c.in-Number.is at c.requires in
    let low = small.0 in
    let high = small.1 in
    let fits : FitsSigned w64 c.integer_of.result = search rules in
    let is = c.from.ensures in
    (omega (arith, ints), omega (arith, ints))
