-- A condition more is read, or the words that are left are none.
use Rattle.std.proofs.Common.{◌∙◌, ◌-◌, ◌+◌, List, ℕ, ◌∷◌, ◌++◌, [], length, sym, ap, codes, arith}
use Rattle.std.proofs.lemmas.List.{length-map}
use Rattle.queries.specs.declared.condition.Condition.{Condition}
use Rattle.script.specs.Inner.PlanParts.{lent_lists}
use Rattle.script.specs.Inner.PlanReading.{condition_behind, conditions_of}
use Rattle.script.proofs.PlanSeries.{series-none, series-begun, many-step, many-stopped, many-done}
use Rattle.script.proofs.plan_reading.read_conditions.Goals as goal

pub returns-in_default : goal.returns-in_default
unfolding conditions_of
returns-in_default c =
    let none = ap (λ (word : List ℕ). condition_behind word (lent_lists c.args.words.now)) (sym c.as_slice.ensures)
    ∙ c.in_default.ensures in
    series-none (condition_behind (codes "where") (lent_lists c.args.words.now)) (condition_behind (codes "and"))
    (lent_lists c.args.words.now) none
    ∙ ap (λ (items : List Condition). (items, lent_lists c.args.words.now)) (sym c.new-conditions.ensures.items)

pub loop-init : goal.loop-init
unfolding conditions_of
loop-init c =
    let is = ap (λ (word : List ℕ). condition_behind word (lent_lists c.args.words.now)) (sym c.as_slice.ensures) ∙ c.in-Some.ensures in
    series-begun (condition_behind (codes "where") (lent_lists c.args.words.now)) (condition_behind (codes "and"))
    (lent_lists c.args.words.now)
    (lent_lists c.in-Some.behind_first.now) c.in-Some.first _ (length c.in-Some.behind_first.now - 0) is
    (c.in_ok-push.ensures.items ∙ ap (λ (items : List Condition). items ++ c.in-Some.first ∷ []) c.new-conditions.ensures.items)
    (omega (arith, length-map c.in-Some.behind_first.now (λ word. word.now)))

pub loop-preserved : goal.loop-preserved
loop-preserved c =
    let is = ap (λ (word : List ℕ). condition_behind word (lent_lists c.loop.left.now)) (sym c.as_slice-in-loop.ensures)
    ∙ c.in-Some-condition_behind.ensures in
    c.loop.invariant
    ∙ many-step (condition_behind (codes "and")) (lent_lists c.loop.left.now) (lent_lists c.in-Some-condition_behind.behind.now)
    c.in-Some-condition_behind.condition c.loop.conditions.items _ (length c.in-Some.behind_first.now - c.loop.counter)
    (length c.in-Some.behind_first.now - (c.loop.counter + 1)) is c.in_ok-push-2.ensures.items (omega arith)

pub returns-in_default-condition_behind : goal.returns-in_default-condition_behind
returns-in_default-condition_behind c =
    let none = ap (λ (word : List ℕ). condition_behind word (lent_lists c.loop.left.now)) (sym c.as_slice-in-loop.ensures)
    ∙ c.in_default-condition_behind.ensures in
    c.loop.invariant
    ∙ many-stopped (condition_behind (codes "and")) (lent_lists c.loop.left.now) c.loop.conditions.items
    (length c.in-Some.behind_first.now - c.loop.counter) none

pub returns : goal.returns
returns c =
    c.loop.invariant
    ∙ many-done (condition_behind (codes "and")) (lent_lists c.loop.left.now) c.loop.conditions.items
    (length c.in-Some.behind_first.now - c.loop.counter) (omega arith)
