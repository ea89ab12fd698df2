-- Each key has a place, so the groups are those of the rows.
use Rattle.std.proofs.Common.{ℕ, List, length, sym, ap, subst}
use Rattle.rows.specs.declared.value.Value.{Value}
use Rattle.queries.specs.Answers.{rows_among}
use Rattle.plans.specs.Inner.Numbered.{AreDistinct, IsShaped, IsTallied}
use Rattle.plans.proofs.scan.all_groups.Goals as goal

pub returns : goal.returns
returns c = λ tables rows count distinct is.
    let plan = c.args.plan.now in
    let before = subst (λ (n : ℕ). IsShaped n count plan.aggregates c.args.tallies.now) (sym is.shaped.counts) is.shaped in
    c.in_ok-groups.ensures (rows_among tables plan rows) count (c.in_ok-grow.ensures.shaped plan.aggregates count before)
    (subst (λ (list : List (List Value)). IsTallied plan.groups plan.aggregates list (rows_among tables plan rows) c.grow.new.self)
    (sym is.split)
    (c.in_ok-grow.ensures.tallied plan.groups plan.aggregates is.before is.more (rows_among tables plan rows) count
    (sym (ap length is.split))
    (subst (λ (list : List (List Value)). AreDistinct list) is.split distinct) before is.tallied))
