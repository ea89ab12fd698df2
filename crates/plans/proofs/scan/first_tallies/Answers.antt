-- One plan more has its tallies.
use Rattle.std.proofs.Common.{◌+◌, ◌∙◌, [], List, get_or, ap, subst, arith}
use Rattle.std.proofs.lemmas.List.{get_or_default, length_push}
use Rattle.queries.specs.declared.aggregate.Aggregate.{Aggregate}
use Rattle.queries.specs.declared.plan.Plan.{Plan}
use Rattle.plans.specs.declared.tallies.Tallies.{Tallies}
use Rattle.plans.specs.Inner.Numbered.{IsShaped, IsTallied}
use Rattle.plans.specs.Inner.Scans.{AreFirst}
use Rattle.plans.proofs.Tallied.{pushed}
use Rattle.plans.proofs.scan.first_tallies.Goals as goal

pub loop-plan-preserved : goal.loop-plan-preserved
loop-plan-preserved c =
    let plans = c.args.plans.now in
    let items = c.loop-plan.list.items in
    let i = c.loop-plan.plan-index in
    let kept = c.loop-plan.invariant in
    let tallies = c.in_ok-tallies.tallies in
    let plan : Plan = c.plan-item.result in
    let first : AreFirst plan tallies =
    record {
      shaped = subst (λ (list : List Aggregate). IsShaped 0 0 list tallies) c.as_slice.ensures c.in_ok-tallies.ensures.shaped;
      tallied =
          subst (λ (list : List Aggregate). IsTallied plan.groups list [] [] tallies) c.as_slice.ensures
          (c.in_ok-tallies.ensures.tallied plan.groups);
    } in
    rw c.in_ok-push.ensures.items (record {
      sizes = length_push items tallies ∙ ap (λ n. n + 1) kept.sizes;
      each = λ p e t lt.
          pushed (λ k (held : Tallies). (a : Plan) → AreFirst (get_or plans k a) held) items tallies i kept.sizes
          (λ k u within a. kept.each k a u within)
          (λ a. subst (λ (p : Plan). AreFirst p tallies) (c.plan-item.is ∙ get_or_default plans i _ a c.loop-plan-test.true) first) p t
          lt e;
    })

pub returns-clause-sizes : goal.returns-clause-sizes
returns-clause-sizes c = omega (arith, c.loop-plan.invariant.sizes, c.loop-plan-test.false, c.loop-plan.auto.plan-index-end)

pub returns-clause-tallied : goal.returns-clause-tallied
returns-clause-tallied c = λ p e t lt. c.loop-plan.invariant.each p e t (omega (arith, lt, c.loop-plan-test.false))
