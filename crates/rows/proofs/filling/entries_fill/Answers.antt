-- Where no entry is read the answer is no; each that is read leaves the answer to what is left.
use Rattle.std.proofs.Common.{is_some, sym, ap, length, length-append, drop, arith}
use Rattle.rows.specs.Reading.{seen, entries_filling}
use Rattle.rows.specs.Spelling.{entry_spelling}
use Rattle.rows.proofs.EntriesFilling.{filled_more, filled_not}
use Rattle.rows.proofs.filling.entries_fill.Goals as goal

pub returns-in-None : goal.returns-in-None
returns-in-None c =
    filled_not c.args.count c.loop.counter c.loop.rest.now (is_some (entries_filling c.args.count c.args.bytes.now)) c.loop-test.true
    (sym c.in-None.ensures.exact) c.loop.invariant

pub split_at-requires : goal.split_at-requires
split_at-requires c =
    let spelled = c.in-Some.ensures.spelled in
    omega (
      arith,
      spelled.size,
      ap length spelled.front,
      length-append (entry_spelling (seen (c.in-Some.field-0-0, c.in-Some.len)).0) (drop c.in-Some.len c.loop.rest.now),
    )

pub loop-preserved : goal.loop-preserved
loop-preserved c =
    rw c.split_at.ensures.back (filled_more c.args.count c.loop.counter c.loop.rest.now (seen (c.in-Some.field-0-0, c.in-Some.len))
    (is_some (entries_filling c.args.count c.args.bytes.now)) c.loop-test.true (sym c.in-Some.ensures.exact) c.loop.invariant)
