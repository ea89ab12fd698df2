-- The sums of both are within the rows of both.
use Rattle.std.proofs.Common.{arith}
use Rattle.std.proofs.lemmas.Int.{ints}
use Rattle.plans.proofs.field_merging.added.Goals as goal

pub returns-in-Number-other-clause-within : goal.returns-in-Number-other-clause-within
returns-in-Number-other-clause-within c =
    let one = rw c.in-Number.is at c.requires.field in
    let other = rw c.in-Number-other.is at c.requires.other in
    let low = one.0 in
    let high = one.1 in
    let other_low = other.0 in
    let other_high = other.1 in
    let few = c.requires.few in
    (omega (arith, ints), omega (arith, ints))
