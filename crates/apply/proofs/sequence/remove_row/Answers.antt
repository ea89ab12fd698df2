-- The blocks before the one that changed stay.
use Rattle.std.proofs.Common.{length, take, ap, ◌∙◌, arith}
use Rattle.apply.specs.Inner.Joins.{joined}
use Rattle.apply.proofs.Counted.{fewer-without_row}
use Rattle.apply.proofs.Ended.{ends-length, ends-front}
use Rattle.apply.proofs.sequence.remove_row.Goals as goal

pub renew_ends-requires-clause-before : goal.renew_ends-requires-clause-before
renew_ends-requires-clause-before c =
    let from = c.home_of-home.result in
    ap (take from) c.requires.ends
    ∙ ends-front from c.args.blocks.now.items c.as_slice-2.result.now (ap (take from) c.as_slice-2.ensures.value ∙ c.take_row.ensures.front)

pub renew_ends-requires-clause-room : goal.renew_ends-requires-clause-room
renew_ends-requires-clause-room c =
    let many = ap length c.as_slice-2.ensures.value in
    let ends = ap length c.requires.ends in
    omega (arith, many, c.take_row.ensures.fewer, ends, ends-length 0 c.args.blocks.now.items, c.args.ends.now.ok.0, c.args.ends.now.ok.1)

pub renew_ends-requires-clause-few : goal.renew_ends-requires-clause-few
renew_ends-requires-clause-few c =
    let many = ap (λ blocks. length (joined blocks)) c.as_slice-2.ensures.value in
    let fewer = ap length c.take_row.ensures.rows in
    omega (arith, many, fewer, c.requires.few, fewer-without_row c.args.row (joined c.args.blocks.now.items))
