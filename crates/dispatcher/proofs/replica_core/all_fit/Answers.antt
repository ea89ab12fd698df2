-- Each of them is looked at.
use Rattle.std.proofs.Common.{◌≡◌, true, false, Result, Ok, Err, refl, sym, ap, ◌∙◌, arith}
use Rattle.std.specs.Result.{is_err}
use Rattle.rows.specs.Tables.{shape_in}
use Rattle.queries.specs.Checking.{checked}
use Rattle.queries.specs.declared.faults.PlanFault.{PlanFault}
use Rattle.dispatcher.proofs.Widened.{here-is, fit-next, not-fit, fit-ends}
use Rattle.dispatcher.proofs.replica_core.all_fit.Goals as goal

is-refused : (told : Result (Unit {0}) PlanFault) → is_err told ≡ true → told ≡ Ok tt → ⊥
is-refused (Ok fits) h e = absurd (cc)
is-refused (Err fault) h e = absurd (cc)

is-taken : (told : Result (Unit {0}) PlanFault) → is_err told ≡ false → told ≡ Ok tt
is-taken (Ok fits) h = refl
is-taken (Err fault) h = absurd (cc)

pub returns-clause-fits : goal.returns-clause-fits
returns-clause-fits g c = λ is.
    fit-ends (shape_in (g.S.Store.tables c.args.store.now)) c.args.plans.now c.loop-plan.plan-index c.loop-plan.invariant
    (omega (arith, c.loop-plan-test.false))

pub returns-then-is_err-clause-not : goal.returns-then-is_err-clause-not
returns-then-is_err-clause-not g c = λ is.
    let shape = shape_in (g.S.Store.tables c.args.store.now) in
    not-fit shape c.args.plans.now c.loop-plan.plan-index c.plan-item.result
    (here-is c.args.plans.now c.loop-plan.plan-index c.plan-item.result c.loop-plan-test.true c.plan-item.is)
    (is-refused (checked shape c.plan-item.result)
    (ap is_err (sym c.check_on.ensures) ∙ sym c.is_err.ensures.value ∙ c.if-is_err.true)) c.loop-plan.invariant

pub loop-plan-preserved : goal.loop-plan-preserved
loop-plan-preserved g c =
    let shape = shape_in (g.S.Store.tables c.args.store.now) in
    fit-next shape c.args.plans.now c.loop-plan.plan-index c.plan-item.result
    (here-is c.args.plans.now c.loop-plan.plan-index c.plan-item.result c.loop-plan-test.true c.plan-item.is)
    (is-taken (checked shape c.plan-item.result)
    (ap is_err (sym c.check_on.ensures) ∙ sym c.is_err.ensures.value ∙ c.if-is_err.false)) c.loop-plan.invariant
