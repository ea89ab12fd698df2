-- One plan more has its groups; and at the end all have.
use Rattle.std.proofs.Common.{◌≡◌, ◌+◌, ◌<◌, List, length, get_or, sym, ap, subst, ◌∙◌, arith, length-append}
use Rattle.std.proofs.lemmas.List.{get_or_default, get_or-set_other, length_push, length-set}
use Rattle.rows.specs.declared.value.Value.{Value}
use Rattle.plans.specs.declared.numbering.Numbering.{Numbering}
use Rattle.queries.specs.declared.plan.Plan.{Plan}
use Rattle.plans.specs.declared.tallies.Tallies.{Tallies as AnyTallies}
use Rattle.plans.specs.Inner.Kept.{GroupList, AreKept}
use Rattle.plans.specs.Inner.Numbered.{AreDistinct}
use Rattle.plans.specs.Inner.Scans.{IsScanned}
use Rattle.plans.proofs.Sharing.{distinct}
use Rattle.plans.proofs.Tallied.{pushed}
use Rattle.plans.proofs.scan.groups_of.Goals as goal

pub all_groups-requires-clause-one : goal.all_groups-requires-clause-one
all_groups-requires-clause-one c = λ none.
    let plans = c.args.plans.now in
    let i = c.loop-plan.plan in
    let plan = c.index-plans-plan.result in
    let class = get_or c.args.classes.now i 0 in
    let lt : i < length plans = c.loop-plan-test.true in
    let alike = c.requires.classes.alike i 0 plan lt in
    c.keys-keys.ensures
    ∙ ap (λ (n : Numbering). n.keys.items) c.index-numberings-classes.is
    ∙ c.requires.numberings.one class c.index-numberings-classes.result plan (c.requires.classes.within i 0 lt)
    (alike.groups ∙ ap (λ (p : Plan). p.groups) (sym c.index-plans-plan.is) ∙ none)

pub all_groups-requires-clause-places : goal.all_groups-requires-clause-places
all_groups-requires-clause-places c =
    let plans = c.args.plans.now in
    let i = c.loop-plan.plan in
    let plan = c.index-plans-plan.result in
    let t = c.index-tallies-plan.result in
    let table = ap (λ (p : Plan). p.table) (sym c.index-plans-plan.is) ∙ c.if-this-table.false in
    let is = c.requires.scanned.3 i 0 c.index-numberings-classes.result plan t c.loop-plan-test.true table in
    let same = ap (λ (held : AnyTallies). length held.counts.items) (c.loop-plan.invariant.left i t (omega arith)) in
    let keys = ap length (c.keys-keys.ensures ∙ ap (λ (n : Numbering). n.keys.items) c.index-numberings-classes.is) in
    let split = ap length is.split ∙ length-append is.before is.more in
    omega (arith, same, is.shaped.counts, split, keys)

pub loop-plan-preserved : goal.loop-plan-preserved
loop-plan-preserved c =
    let plans = c.args.plans.now in
    let items = c.loop-plan.list.items in
    let i = c.loop-plan.plan in
    let kept = c.loop-plan.invariant in
    let plan = c.index-plans-plan.result in
    let lt : i < length plans = c.loop-plan-test.true in
    let groups : GroupList = c.in_ok-groups.groups in
    let now = c.loop-plan.tallies in
    let new = c.all_groups.new.tallies in
    let t = c.index-tallies-plan.result in
    let d = c.index-numberings-classes.result in
    rw c.in_ok-push-2.ensures.items (record {
      sizes = length_push items c.in_ok-groups.groups ∙ ap (λ n. n + 1) kept.sizes;
      tallies = length-set now i new ∙ kept.tallies;
      left = λ p u le. get_or-set_other now i p new u (λ same. absurd (omega (arith, le, same))) ∙ kept.left p u (omega (arith, le));
      kept = λ tables rows count are p e g before table.
          pushed (λ k (held : GroupList). (a : Plan) → (get_or plans k a).table ≡ c.args.table → AreKept tables (get_or plans k a) rows
          count held)
          items c.in_ok-groups.groups i kept.sizes (λ k u within a on. kept.kept tables rows count are k a u within on)
          (λ a on.
          subst (λ (p : Plan). AreKept tables p rows count groups) (c.index-plans-plan.is ∙ get_or_default plans i _ a lt)
          (c.in_ok-groups.ensures tables rows count
          (subst (λ (keys : List (List Value)). AreDistinct keys)
          (sym (c.keys-keys.ensures ∙ ap (λ (n : Numbering). n.keys.items) c.index-numberings-classes.is))
          (distinct (get_or c.args.numberings.now (get_or c.args.classes.now i 0) d)
          (c.requires.numberings.each (get_or c.args.classes.now i 0) d (c.requires.classes.within i 0 lt))))
          (subst (λ (keys : List (List Value)). IsScanned tables plan keys rows count (get_or now i t))
          (sym (c.keys-keys.ensures ∙ ap (λ (n : Numbering). n.keys.items) c.index-numberings-classes.is))
          (subst (λ (held : AnyTallies). IsScanned tables plan (get_or c.args.numberings.now (get_or c.args.classes.now i 0)
          d).keys.items rows count held)
          (sym (kept.left i t (omega arith)))
          (subst (λ (p : Plan). IsScanned tables p (get_or c.args.numberings.now (get_or c.args.classes.now i 0) d).keys.items rows count
          (get_or c.args.tallies.now i t)) (sym (c.index-plans-plan.is))
          (are i 0 d plan t lt (ap (λ (p : Plan). p.table) (sym c.index-plans-plan.is) ∙ c.if-this-table.false)))))))
          p g before e table;
    })

pub loop-plan-preserved-then-this-table : goal.loop-plan-preserved-then-this-table
loop-plan-preserved-then-this-table c =
    let plans = c.args.plans.now in
    let items = c.loop-plan.list.items in
    let i = c.loop-plan.plan in
    let kept = c.loop-plan.invariant in
    let none : GroupList = c.empty.result in
    rw c.in_ok-push.ensures.items (record {
      sizes = length_push items c.empty.result ∙ ap (λ n. n + 1) kept.sizes;
      tallies = kept.tallies;
      left = λ p u le. kept.left p u (omega (arith, le));
      kept = λ tables rows count are p e g before table.
          pushed (λ k (held : GroupList). (a : Plan) → (get_or plans k a).table ≡ c.args.table → AreKept tables (get_or plans k a) rows
          count held)
          items c.empty.result i kept.sizes (λ k u within a on. kept.kept tables rows count are k a u within on)
          (λ a on. absurd (c.if-this-table.true
          (ap (λ (p : Plan). p.table) (c.index-plans-plan.is ∙ get_or_default plans i _ a c.loop-plan-test.true) ∙ on)))
          p g before e table;
    })

pub returns-clause-kept : goal.returns-clause-kept
returns-clause-kept c = λ tables rows count are p e d lt table.
    c.loop-plan.invariant.kept tables rows count are p e d (omega (arith, lt, c.loop-plan-test.false)) table
