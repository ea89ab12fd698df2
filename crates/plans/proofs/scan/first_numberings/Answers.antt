-- One plan more has its numbers.
use Rattle.std.proofs.Common.{◌≡◌, ◌+◌, ◌∙◌, [], ◌∷◌, get_or, ap, arith}
use Rattle.std.proofs.lemmas.List.{get_or_default, length_push}
use Rattle.plans.specs.declared.numbering.Numbering.{Numbering}
use Rattle.queries.specs.declared.plan.Plan.{Plan}
use Rattle.plans.specs.Inner.Blocks.{IsNumbering}
use Rattle.plans.proofs.Tallied.{pushed}
use Rattle.plans.proofs.scan.first_numberings.Goals as goal

pub loop-plan-preserved : goal.loop-plan-preserved
loop-plan-preserved c =
    let plans = c.args.plans.now in
    let items = c.loop-plan.numberings.items in
    let i = c.loop-plan.plan-index in
    let kept = c.loop-plan.invariant in
    let numbering = c.in_ok-numbering.numbering in
    rw c.in_ok-push.ensures.items (record {
      sizes = length_push items numbering ∙ ap (λ n. n + 1) kept.sizes;
      each =
          pushed (λ k (n : Numbering). IsNumbering n) items numbering i kept.sizes (λ k t lt. kept.each k t lt)
          c.in_ok-numbering.ensures.numbering;
      one = λ r d e lt.
          pushed (λ k (n : Numbering). (a : Plan) → (get_or plans k a).groups ≡ [] → n.keys.items ≡ [] ∷ []) items numbering i kept.sizes
          (λ k t within a. kept.one k t a within)
          (λ a none. c.in_ok-numbering.ensures.one
          (ap (λ (plan : Plan). plan.groups) (c.plan-item.is ∙ get_or_default plans i _ a c.loop-plan-test.true) ∙ none)) r d lt e;
    })

pub returns : goal.returns
returns c = record {
  sizes = omega (arith, c.loop-plan.invariant.sizes, c.loop-plan-test.false, c.loop-plan.auto.plan-index-end);
  each = λ r d lt. c.loop-plan.invariant.each r d (omega (arith, lt, c.loop-plan-test.false));
  one = λ r d e lt. c.loop-plan.invariant.one r d e (omega (arith, lt, c.loop-plan-test.false));
}
