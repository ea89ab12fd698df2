-- The tallies have the block's rows more.
use Rattle.std.proofs.Common.{◌≡◌, ◌+◌, ◌++◌, length, take, drop, get_or, sym, ap, subst, ◌∙◌}
use Rattle.plans.specs.Inner.Picked.{picked}
use Rattle.plans.specs.Inner.Numbered.{IsGrown}
use Rattle.plans.proofs.Tallied.{tallied-more, refilled, through}
use Rattle.plans.proofs.tallies.Tallies.add.Goals as goal

pub returns-clause-tallied : goal.returns-clause-tallied
returns-clause-tallied c = λ columns keys rows more told are takes.
    let counts = c.args.self.now.counts in
    let tallies = c.args.self.now.columns in
    let counted : take counts.len (c.add_counts.new.counts ++ drop (length c.add_counts.new.counts)
    counts.items) ≡ c.add_counts.new.counts =
    refilled counts.len counts.items c.add_counts.new.counts (sym (ap length c.as_mut_slice.ensures.value) ∙ c.as_mut_slice.ensures.len)
    (c.add_counts.auto.counts ∙ ap length c.as_mut_slice.ensures.value) in
    let added : take tallies.len (c.add_columns.new.columns ++ drop (length c.add_columns.new.columns) tallies.items)
    ≡ c.add_columns.new.columns =
    refilled tallies.len tallies.items c.add_columns.new.columns
    (sym (ap length c.as_mut_slice-2.ensures.value) ∙ c.as_mut_slice-2.ensures.len)
    (c.add_columns.auto.columns ∙ ap length c.as_mut_slice-2.ensures.value) in
    tallied-more columns c.args.aggregates.now keys rows more c.args.numbers.now c.args.inputs.now c.args.self.now _ told are takes
    (ap length counted ∙ c.add_counts.auto.counts ∙ ap length c.as_mut_slice.ensures.value)
    (through (λ n old new. new ≡ old + length (picked n c.args.numbers.now c.args.numbers.now)) counts.items c.as_mut_slice.result.now
    c.add_counts.new.counts _ c.as_mut_slice.ensures.value counted c.add_counts.ensures.counts)
    (λ k d e t lt.
    let aggregate = get_or c.args.aggregates.now k d in
    let input = get_or c.args.inputs.now k e in
    subst (λ list. IsGrown c.args.numbers.now aggregate input (get_or tallies.items k t) (get_or list k t)) (sym added)
    (subst (λ list. IsGrown c.args.numbers.now aggregate input (get_or list k t) (get_or c.add_columns.new.columns k t))
    c.as_mut_slice-2.ensures.value (c.add_columns.ensures.grown k d e t lt)))
