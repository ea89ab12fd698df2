-- The queries so far were offered, each as the replica takes or drops it.
use Rattle.std.proofs.Common.{◌≡◌, [], ◌++◌, List, refl, sym, ap, ◌∙◌, arith}
use Rattle.std.proofs.lemmas.List.{append-nil}
use Rattle.queries.specs.declared.plan.Plan.{Plan}
use Rattle.queries.specs.declared.faults.PlanFault.{PlanFault}
use Rattle.dispatcher.specs.declared.faults.OpenFault.TheVariants as opens
use Rattle.sockets.proofs.Stepping.{opens_nothing, opens_then, offer_opens, opened_is_offer}
use Rattle.sockets.proofs.Stepping.{dropped_is_offer, opens_as, own_fault, none_left, left_behind}
use Rattle.sockets.proofs.replica_node.open_all.Goals as goal

pub loop-plan-init : goal.loop-plan-init
loop-plan-init g c = record { opens = opens_nothing _ _ refl; whole = c.into_iter-plan-iterator.ensures.into_iter_gives.0 }

pub loop-plan-preserved-in-Ok : goal.loop-plan-preserved-in-Ok
loop-plan-preserved-in-Ok g c = record {
  opens =
      opens_then _ _ _ _ _ c.loop-plan.invariant.opens
      (offer_opens _ _ _ (opened_is_offer c.loop-plan.replica c.open.new.self c.in-Some.plan c.in-Ok.field-0 c.in-Ok.ensures.ok));
  whole = left_behind _ _ _ _ _ c.in-Some.ensures.steps.0 c.loop-plan.invariant.whole;
}

-- neither refusal is that of memory
unfit_is_other : (fault : PlanFault) → opens.BadPlan fault ≡ opens.Memory → ⊥
unfit_is_other fault same = absurd (cc)

full_is_other : opens.BatchFull ≡ opens.Memory → ⊥
full_is_other same = absurd (cc)

pub loop-plan-preserved-in-Err-BadPlan : goal.loop-plan-preserved-in-Err-BadPlan
loop-plan-preserved-in-Err-BadPlan g c = record {
  opens =
      opens_then _ _ _ _ _ c.loop-plan.invariant.opens
      (offer_opens _ _ _
      (dropped_is_offer c.loop-plan.replica c.open.new.self c.in-Some.plan c.in-Err-BadPlan.field-0 c.in-Err-BadPlan.ensures.refused.0
      (own_fault _ _ _ (λ same. unfit_is_other _ (sym c.in-Err-BadPlan.field-0-is ∙ same)) c.in-Err-BadPlan.ensures.refused.1)));
  whole = left_behind _ _ _ _ _ c.in-Some.ensures.steps.0 c.loop-plan.invariant.whole;
}

pub loop-plan-preserved : goal.loop-plan-preserved
loop-plan-preserved g c = record {
  opens =
      opens_then _ _ _ _ _ c.loop-plan.invariant.opens
      (offer_opens _ _ _
      (dropped_is_offer c.loop-plan.replica c.open.new.self c.in-Some.plan c.in-Err-BatchFull.field-0 c.in-Err-BatchFull.ensures.refused.0
      (own_fault _ _ _ (λ same. full_is_other (sym c.in-Err-BatchFull.field-0-is ∙ same)) c.in-Err-BatchFull.ensures.refused.1)));
  whole = left_behind _ _ _ _ _ c.in-Some.ensures.steps.0 c.loop-plan.invariant.whole;
}

pub returns-in-Err-Broken-clause-opens : goal.returns-in-Err-Broken-clause-opens
returns-in-Err-Broken-clause-opens g c = record {
  offered = c.loop-plan.yielded;
  opens = opens_as _ _ _ _ c.in-Err-Broken.ensures.refused.0 c.loop-plan.invariant.opens;
  in_order = (c.loop-plan.plan-iterator.rest.items, c.loop-plan.invariant.whole);
  all = tt;
  no_failure = refl;
}

pub returns-in-Err-Memory-clause-opens : goal.returns-in-Err-Memory-clause-opens
returns-in-Err-Memory-clause-opens g c = record {
  offered = c.loop-plan.yielded;
  opens = opens_as _ _ _ _ c.in-Err-Memory.ensures.refused.0 c.loop-plan.invariant.opens;
  in_order = (c.loop-plan.plan-iterator.rest.items, c.loop-plan.invariant.whole);
  all = tt;
  no_failure = refl;
}

pub returns-clause-opens : goal.returns-clause-opens
returns-clause-opens g c =
    let none = none_left _ (omega (arith, c.loop-plan.plan-iterator.rest.ok, c.in-None.ensures.steps.0)) in
    let all = sym (append-nil c.loop-plan.yielded) ∙ ap (λ (l : List Plan). c.loop-plan.yielded ++ l) (sym none)
    ∙ c.loop-plan.invariant.whole in
    record {
      offered = c.loop-plan.yielded;
      opens = c.loop-plan.invariant.opens;
      in_order = ([], append-nil c.loop-plan.yielded ∙ all);
      all = all;
      no_failure = refl;
    }
