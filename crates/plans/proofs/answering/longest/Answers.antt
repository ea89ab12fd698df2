-- One table more.
use Rattle.std.proofs.Common.{◌≤◌, length, take, subst, arith}
use Rattle.std.proofs.lemmas.List.Elements.{All-more, All-weaker}
use Rattle.rows.specs.Tables.{rows_of}
use Rattle.plans.proofs.answering.longest.Goals as goal

pub loop-plan-preserved : goal.loop-plan-preserved
loop-plan-preserved g c =
    let tables = g.S.Store.tables c.args.store.now in
    let plans = c.args.plans.now in
    let i = c.loop-plan.plan-index in
    let plan = c.plan-item.result in
    let len = c.len.ensures c.requires in
    All-more (λ plan. length (rows_of tables plan.table) ≤ c.max-rows.result) plans i plan c.loop-plan-test.true
    (All-weaker (λ plan. length (rows_of tables plan.table) ≤ c.loop-plan.rows)
    (λ plan. length (rows_of tables plan.table) ≤ c.max-rows.result)
    (λ plan le. omega (arith, le, c.max-rows.ensures)) (take i plans) c.loop-plan.invariant)
    (subst (λ plan. length (rows_of tables plan.table) ≤ c.max-rows.result) c.plan-item.is (omega (arith, len, c.max-rows.ensures)))
