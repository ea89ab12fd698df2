use Rattle.std.proofs.Common.{rules, ℕ, ◌<◌, length, refl, arith}
use Rattle.apply.specs.declared.cells.Cells.{Cells}
use Rattle.apply.specs.Columns.{HasRoom}
use Rattle.apply.proofs.EachColumn.{each-more, keeps-more}
use Rattle.std.proofs.lemmas.List.{get_or_default}
use Rattle.apply.proofs.edits.reserve_row.Goals as goal

pub returns-in_err-reserve-clause-keeps : goal.returns-in_err-reserve-clause-keeps
returns-in_err-reserve-clause-keeps c =
    let news = c.loop-k.columns in
    let within : c.loop-k.k < length news = omega (arith, c.loop-k.invariant.len) in
    keeps-more c.args.columns.now news c.loop-k.k c.reserve.new.self within c.loop-k.invariant.len c.loop-k.invariant.keeps
    (λ d. rw (get_or_default news c.loop-k.k d c.index-columns-k.result within) c.reserve.ensures.keeps)

pub loop-k-preserved : goal.loop-k-preserved
loop-k-preserved c =
    let news = c.loop-k.columns in
    let k = c.loop-k.k in
    let within : k < length news = omega (arith, c.loop-k.invariant.len) in
    let R = λ (k : ℕ) (old new : Cells). HasRoom new in
    record {
      len = search rules;
      keeps = keeps-more c.args.columns.now news k c.reserve.new.self within c.loop-k.invariant.len c.loop-k.invariant.keeps
          (λ d. rw (get_or_default news k d c.index-columns-k.result within) c.reserve.ensures.keeps);
      room = each-more R news news k c.reserve.new.self within c.loop-k.invariant.room (λ k d le. refl) (λ d. c.in_ok-reserve.ensures.ok);
    }
