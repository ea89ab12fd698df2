use Rattle.std.proofs.Common.{rules, ◌<◌, length, get_or, arith}
use Rattle.apply.specs.declared.cells.Cells.{Cells}
use Rattle.apply.specs.Inner.Edits.{IsPutIn}
use Rattle.apply.proofs.EachColumn.{each-more, same-more, bytes-wide, bytes-more}
use Rattle.std.proofs.lemmas.List.{get_or_default}
use Rattle.apply.proofs.edits.insert_row.Goals as goal

pub insert-requires-clause-wide : goal.insert-requires-clause-wide
insert-requires-clause-wide c =
    let news = c.loop-k.columns in
    let k = c.loop-k.k in
    let d = c.index-columns-k-in-loop-k.result in
    let same = c.loop-k.invariant.others k d (omega arith) in
    rw (same, c.loop-k.invariant.rest) (bytes-wide c.args.columns.now k d c.args.bytes.now c.loop-k-test.true c.requires.wide)

pub split_at-requires : goal.split_at-requires
split_at-requires c =
    let k = c.loop-k.k in
    let d = c.index-columns-k.result in
    let same = c.loop-k.invariant.others k d (omega arith) in
    rw (c.width.ensures, same, c.loop-k.invariant.rest)
    (bytes-wide c.args.columns.now k d c.args.bytes.now c.loop-k-test.true c.requires.wide)

pub loop-k-preserved : goal.loop-k-preserved
loop-k-preserved c =
    let olds = c.args.columns.now in
    let news = c.loop-k.columns in
    let k = c.loop-k.k in
    let bytes = c.args.bytes.now in
    let R = IsPutIn c.args.rows c.args.at olds bytes in
    let within : k < length news = omega (arith, c.loop-k.invariant.len) in
    let put : IsPutIn c.args.rows c.args.at olds bytes k (get_or news k c.index-columns-k-in-loop-k.result) c.insert.new.self =
    rw (← c.loop-k.invariant.rest)
    (record { kind = c.insert.ensures.kind; cells = c.insert.ensures.cells; values = c.insert.ensures.values }) in
    let made : (d : Cells) → IsPutIn c.args.rows c.args.at olds bytes k (get_or news k d) c.insert.new.self = λ d.
    rw (get_or_default news k d c.index-columns-k-in-loop-k.result within) put in
    let d = c.index-columns-k.result in
    record {
      len = search rules;
      put = each-more R olds news k c.insert.new.self within c.loop-k.invariant.put c.loop-k.invariant.others made;
      others = same-more R olds news k c.insert.new.self c.loop-k.invariant.others;
      rest = rw (c.split_at.ensures.back, c.width.ensures, c.loop-k.invariant.rest, c.loop-k.invariant.others k d (omega arith))
          (bytes-more olds k d bytes c.loop-k-test.true);
    }
