-- The last of the others that are left is merged, if a plan has it.
use Rattle.std.proofs.Common.{◌≡◌, ◌<◌, length, get_or, set, sym, ap, subst, ◌∙◌, arith}
use Rattle.std.proofs.lemmas.List.{get_or_default}
use Rattle.plans.specs.Inner.Ranges.{AreMerged}
use Rattle.plans.proofs.Ranged.{each-init, each-next, popped-within}
use Rattle.plans.proofs.partials.merge_each.Goals as goal

pub loop-other-init : goal.loop-other-init
loop-other-init c =
    each-init c.args.aggregates.now c.args.groups.now c.args.others.items c.args.rows c.args.other_rows c.requires.within

pub merge-requires-clause-others : goal.merge-requires-clause-others
merge-requires-clause-others c =
    popped-within c.args.aggregates.now c.args.groups.now c.args.others.items c.loop-other.groups c.loop-other.others.items
    c.pop.new.self.items c.args.rows c.args.other_rows c.in-Some.other c.loop-other.invariant c.in-Some.ensures.items c.requires.others

pub loop-other-preserved-then-index-aggregates : goal.loop-other-preserved-then-index-aggregates
loop-other-preserved-then-index-aggregates c =
    let aggregates = c.args.aggregates.now in
    let groups = c.loop-other.groups in
    let rest = c.pop.new.self.items in
    let new = c.merge.new.self in
    let all = c.pop.new.self.ok.0 in
    let place : c.len-index.result ≡ length rest = omega (arith, all, c.len-index.ensures) in
    let in_groups : length rest < length groups = omega (arith, place, c.if-index-groups.true) in
    let in_lists : length rest < length aggregates = omega (arith, place, c.if-index-aggregates.true) in
    each-next aggregates c.args.groups.now c.args.others.items groups c.loop-other.others.items rest c.args.rows c.args.other_rows
    c.in-Some.other c.loop-other.invariant c.in-Some.ensures.items (set groups c.len-index.result new) c.as_slice.result.now new in_groups
    (λ d.
    get_or_default aggregates (length rest) d c.index-aggregates-index.result in_lists
    ∙ ap (λ n. get_or aggregates n c.index-aggregates-index.result) (sym place)
    ∙ sym c.index-aggregates-index.is ∙ sym c.as_slice.ensures)
    (ap (λ n. set groups n new) place)
    (λ e.
    subst (λ old. AreMerged c.as_slice.result.now old c.in-Some.other new)
    (ap (λ n. get_or groups n c.index-groups-index.result) place
    ∙ get_or_default groups (length rest) c.index-groups-index.result e in_groups)
    c.in_ok-merge.ensures.found)
    c.in_ok-merge.ensures.within
