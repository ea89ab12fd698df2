use Rattle.std.proofs.Common.{rules, ℕ, ◌<◌, length, get_or, arith}
use Rattle.apply.specs.declared.cells.Cells.{Cells}
use Rattle.apply.specs.Inner.Edits.{IsTaken}
use Rattle.apply.proofs.EachColumn.{each-more, same-more}
use Rattle.std.proofs.lemmas.List.{get_or_default}
use Rattle.apply.proofs.edits.remove_row.Goals as goal

pub loop-k-preserved : goal.loop-k-preserved
loop-k-preserved c =
    let olds = c.args.columns.now in
    let news = c.loop-k.columns in
    let k = c.loop-k.k in
    let R = λ (k : ℕ). IsTaken c.args.rows c.args.at in
    let within : k < length news = omega (arith, c.loop-k.invariant.len) in
    let made : (d : Cells) → IsTaken c.args.rows c.args.at (get_or news k d) c.remove.new.self = λ d.
    rw (get_or_default news k d c.index-columns-k.result within)
    (record { kind = c.remove.ensures.kind; cells = c.remove.ensures.cells; values = c.remove.ensures.values }) in
    record {
      len = search rules;
      taken = each-more R olds news k c.remove.new.self within c.loop-k.invariant.taken c.loop-k.invariant.others made;
      others = same-more R olds news k c.remove.new.self c.loop-k.invariant.others;
    }
