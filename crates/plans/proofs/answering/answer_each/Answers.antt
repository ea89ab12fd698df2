-- The rows at all positions are those of the table.
use Rattle.std.proofs.Common.{IfSome, map, ap, subst, ◌∙◌}
use Rattle.plans.specs.Partials.{IsPartial}
use Rattle.plans.specs.Inner.Ranges.{lines_of}
use Rattle.plans.proofs.Ranged.{answers-all, lines-between}
use Rattle.plans.proofs.answering.answer_each.Goals as goal

pub returns-in-Some : goal.returns-in-Some
returns-in-Some g c =
    let tables = g.S.Store.tables c.args.store.now in
    let plans = c.args.plans.now in
    let most = c.longest-most.result in
    let is : IsPartial tables plans 0 most c.in-Some.all =
    subst (λ all. IfSome all (IsPartial tables plans 0 most)) c.in-Some.is c.in_ok-all.ensures in
    c.into_answers.ensures ∙ ap (map lines_of) is.groups ∙ lines-between tables 0 most plans
    ∙ answers-all tables most plans c.longest-most.ensures

pub returns : goal.returns
returns g c =
    let tables = g.S.Store.tables c.args.store.now in
    let plans = c.args.plans.now in
    let most = c.longest-most.result in
    c.into_answers-2.ensures ∙ ap (map lines_of) c.in_ok-all-2.ensures.groups ∙ lines-between tables 0 most plans
    ∙ answers-all tables most plans c.longest-most.ensures
