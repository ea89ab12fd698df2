-- The last of the others that are left is merged, if its plan is on the table.
use Rattle.std.proofs.Common.{◌≡◌, ◌+◌, ◌<◌, length, get_or, set, sym, ap, subst, ◌∙◌, arith}
use Rattle.std.proofs.lemmas.List.{get_or_default, length_push}
use Rattle.queries.specs.declared.plan.Plan.{Plan}
use Rattle.plans.specs.Inner.Kept.{AreWithin}
use Rattle.plans.specs.Inner.Ranges.{AreMerged}
use Rattle.plans.proofs.MergedPieces.{PlansMerge, plans-init, plans-skip, plans-next, last-is}
use Rattle.plans.proofs.together.merge_piece.Goals as goal

pub loop-other-init : goal.loop-other-init
loop-other-init c =
    plans-init c.args.plans.now c.args.table (c.args.rows + c.args.other_rows) c.args.groups.now c.args.others.items
    c.requires.others_sizes

pub loop-other-preserved-then-plan-table : goal.loop-other-preserved-then-plan-table
loop-other-preserved-then-plan-table c =
    let plans = c.args.plans.now in
    let rest = c.pop.new.self.items in
    let all = c.pop.new.self.ok.0 in
    let place : c.len-index.result ≡ length rest = omega (arith, all, c.len-index.ensures) in
    let size = ap length c.in-Some.ensures.items ∙ length_push rest c.in-Some.other in
    let fewer = c.loop-other.invariant.fewer in
    let lt : length rest < length plans = omega (arith, size, fewer, c.requires.others_sizes) in
    let here : (d : Plan) → get_or plans (length rest) d ≡ c.index-plans-index.result =
    λ d.
    get_or_default plans (length rest) d c.index-plans-index.result lt
    ∙ ap (λ n. get_or plans n c.index-plans-index.result) (sym place)
    ∙ sym c.index-plans-index.is in
    plans-skip plans c.args.table (c.args.rows + c.args.other_rows) c.args.groups.now c.args.others.items c.loop-other.groups
    c.loop-other.others.items rest c.in-Some.other c.loop-other.invariant c.in-Some.ensures.items
    (λ d on. c.if-plan-table.true (ap (λ (plan : Plan). plan.table) (sym (here d)) ∙ on))

pub merge-requires-clause-others : goal.merge-requires-clause-others
merge-requires-clause-others c =
    let plans = c.args.plans.now in
    let rest = c.pop.new.self.items in
    let all = c.pop.new.self.ok.0 in
    let place : c.len-index.result ≡ length rest = omega (arith, all, c.len-index.ensures) in
    let size = ap length c.in-Some.ensures.items ∙ length_push rest c.in-Some.other in
    let fewer = c.loop-other.invariant.fewer in
    let lt : length rest < length plans = omega (arith, size, fewer, c.requires.others_sizes) in
    let plan = c.index-plans-index.result in
    let here : get_or plans (length rest) plan ≡ plan = ap (λ n. get_or plans n plan) (sym place) ∙ sym c.index-plans-index.is in
    subst (AreWithin c.args.other_rows)
    (last-is plans c.args.table (c.args.rows + c.args.other_rows) c.args.groups.now c.args.others.items c.loop-other.groups
    c.loop-other.others.items rest c.in-Some.other c.loop-other.invariant c.in-Some.ensures.items c.in-Some.other)
    (c.requires.others (length rest) plan c.in-Some.other lt (ap (λ (plan : Plan). plan.table) here ∙ c.if-plan-table.false))

pub loop-other-preserved : goal.loop-other-preserved
loop-other-preserved c =
    let plans = c.args.plans.now in
    let groups = c.loop-other.groups in
    let rest = c.pop.new.self.items in
    let new = c.merge.new.self in
    let total = c.args.rows + c.args.other_rows in
    let all = c.pop.new.self.ok.0 in
    let place : c.len-index.result ≡ length rest = omega (arith, all, c.len-index.ensures) in
    let size = ap length c.in-Some.ensures.items ∙ length_push rest c.in-Some.other in
    let fewer = c.loop-other.invariant.fewer in
    let same = c.loop-other.invariant.sizes in
    let lt : length rest < length plans = omega (arith, size, fewer, c.requires.others_sizes) in
    let in_groups : length rest < length groups = omega (arith, lt, same, c.requires.sizes) in
    let here : (d : Plan) → get_or plans (length rest) d ≡ c.index-plans-index.result =
    λ d.
    get_or_default plans (length rest) d c.index-plans-index.result lt
    ∙ ap (λ n. get_or plans n c.index-plans-index.result) (sym place)
    ∙ sym c.index-plans-index.is in
    subst (λ n. PlansMerge plans c.args.table total c.args.groups.now c.args.others.items (set groups n new) rest) (sym place)
    (plans-next plans c.args.table total c.args.groups.now c.args.others.items groups c.loop-other.others.items rest c.in-Some.other
    c.loop-other.invariant c.in-Some.ensures.items c.index-plans-index.result new in_groups here c.if-plan-table.false
    (λ e.
    subst (λ list. AreMerged list (get_or groups (length rest) e) c.in-Some.other new) c.as_slice.ensures
    (subst (λ old. AreMerged c.as_slice.result.now old c.in-Some.other new)
    (ap (λ n. get_or groups n c.index-groups-index.result) place
    ∙ get_or_default groups (length rest) c.index-groups-index.result e in_groups)
    c.in_ok-merge.ensures.found))
    c.in_ok-merge.ensures.within)
