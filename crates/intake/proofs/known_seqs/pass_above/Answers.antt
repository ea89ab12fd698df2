-- A seq that is there is not the greatest number.
use Rattle.std.proofs.Common.{◌-◌, ◌^◌, sym, ◌∙◌, arith}
use Rattle.intake.proofs.Holding.{is_known-found, known-end}
use Rattle.intake.proofs.known_seqs.pass_above.Goals as goal

pub overflow_add-next : goal.overflow_add-next
overflow_add-next c =
    let keys = c.args.above.now.keys in
    let next = c.loop-next.next in
    let there =
    known-end (2 ^ 64 - 1) keys next c.requires (sym (is_known-found next keys) ∙ sym c.contains.ensures ∙ c.loop-next-test.true) in
    omega (arith, there)
