-- Each key more has a place, without rows.
use Rattle.std.proofs.Common.{◌≡◌, ◌-◌, ◌++◌, length, take, drop, replicate, sym, ap, ◌∙◌}
use Rattle.plans.specs.Inner.Numbered.{IsResized}
use Rattle.plans.proofs.Tallied.{refilled, through}
use Rattle.plans.proofs.Grouped.{shaped-keys, tallied-keys}
use Rattle.plans.proofs.tallies.Tallies.grow.Goals as goal

pub returns-clause-shaped : goal.returns-clause-shaped
returns-clause-shaped c = λ aggregates count.
    let counts = c.args.self.now.counts in
    let tallies = c.args.self.now.columns in
    let news = c.grow_columns.new.columns in
    let grown : take tallies.len (news ++ drop (length news) tallies.items) ≡ news =
    refilled tallies.len tallies.items news (sym (ap length c.as_mut_slice.ensures.value) ∙ c.as_mut_slice.ensures.len)
    (c.grow_columns.auto.columns ∙ ap length c.as_mut_slice.ensures.value) in
    shaped-keys aggregates c.args.self.now _ c.args.keys c.requires
    (c.in_ok-resize.ensures.items ∙ ap (λ n. take c.args.keys counts.items ++ replicate (c.args.keys - n) 0) counts.ok.0)
    (ap length grown ∙ c.grow_columns.auto.columns ∙ ap length c.as_mut_slice.ensures.value)
    (through (λ k old new. IsResized c.args.keys old new) tallies.items c.as_mut_slice.result.now news _ c.as_mut_slice.ensures.value grown
    c.in_ok-grow_columns.ensures.grown) count

pub returns-clause-tallied : goal.returns-clause-tallied
returns-clause-tallied c = λ columns aggregates before more rows count size distinct.
    let counts = c.args.self.now.counts in
    let tallies = c.args.self.now.columns in
    let news = c.grow_columns.new.columns in
    let grown : take tallies.len (news ++ drop (length news) tallies.items) ≡ news =
    refilled tallies.len tallies.items news (sym (ap length c.as_mut_slice.ensures.value) ∙ c.as_mut_slice.ensures.len)
    (c.grow_columns.auto.columns ∙ ap length c.as_mut_slice.ensures.value) in
    tallied-keys aggregates c.args.self.now _ c.args.keys c.requires
    (c.in_ok-resize.ensures.items ∙ ap (λ n. take c.args.keys counts.items ++ replicate (c.args.keys - n) 0) counts.ok.0)
    (ap length grown ∙ c.grow_columns.auto.columns ∙ ap length c.as_mut_slice.ensures.value)
    (through (λ k old new. IsResized c.args.keys old new) tallies.items c.as_mut_slice.result.now news _ c.as_mut_slice.ensures.value grown
    c.in_ok-grow_columns.ensures.grown) columns before more rows count size distinct
