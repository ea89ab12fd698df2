-- The plan is there already, or is added.
use Rattle.std.proofs.Common.{◌≡◌, ◌++◌, ◌∷◌, [], length, ap, subst, ◌∙◌, arith}
use Rattle.plans.specs.Inner.Equals.{IsAt, IsPlaced}
use Rattle.plans.proofs.Equal.{placed-there, placed-behind}
use Rattle.plans.proofs.distinct.placed.Goals as goal

pub returns-in-Some : goal.returns-in-Some
returns-in-Some c =
    placed-there c.args.firsts.now.items c.args.plan.now c.in-Some.place
    (subst (λ list. IsAt list c.args.plan.now c.in-Some.place) c.as_slice.ensures.value c.in-Some.ensures)

pub returns : goal.returns
returns c =
    let olds = c.args.firsts.now.items in
    let same = c.in_ok-copy.ensures in
    let news = c.in_ok-push.ensures.items ∙ ap (λ plan. olds ++ plan ∷ []) same in
    let place : length olds ≡ c.len-place.result = omega (arith, c.len-place.ensures, c.args.firsts.now.ok) in
    subst (IsPlaced olds c.args.plan.now c.push.new.self.items) place
    (placed-behind olds c.args.plan.now c.push.new.self.items news)
