-- At first no table was scanned; at the end those of all plans were.
use Rattle.std.proofs.Common.{◌≡◌, ◌-◌, ◌<◌, Bool, false, true, get_or, length, replicate, sym, ap, subst, ◌∙◌, arith, rules}
use Rattle.std.proofs.lemmas.List.{length-replicate, length-set, get_or_default}
use Rattle.plans.specs.Partials.{rows_between}
use Rattle.plans.specs.Inner.Kept.{GroupsAreKept}
use Rattle.plans.proofs.Ranged.{none-marked, scanned-init, scanned-next, named-next}
use Rattle.plans.proofs.together.scan_tables.Goals as goal

pub loop-plan-init : goal.loop-plan-init
loop-plan-init g c = record {
  size = length-replicate {A = Bool} 256 false;
  named = λ k d lt. absurd (omega (arith, lt));
  state = scanned-init (g.S.Store.tables c.args.store.now) c.args.plans.now 0 c.args.most (replicate 256 false) c.args.groups.now
      (none-marked 256) c.requires.opening;
}

pub loop-plan-preserved : goal.loop-plan-preserved
loop-plan-preserved g c =
    let tables = g.S.Store.tables c.args.store.now in
    let plans = c.args.plans.now in
    let scanned = c.loop-plan.scanned in
    let groups = c.loop-plan.groups in
    let after = c.merge_pieces.new.groups in
    let i = c.loop-plan.plan-index in
    let table = c.plan-item.result.table in
    let within : table < length scanned = search rules in
    let looks = c.in_ok-merge_pieces.ensures c.if-not-branch.false in
    record {
      size = length-set scanned table true ∙ c.loop-plan.invariant.size;
      named =
          named-next tables plans 0 c.args.most table scanned groups after c.loop-plan.invariant.state within c.if-scanned-table.false
          looks i
          c.loop-plan.invariant.named
          (λ d. ap (λ plan. plan.table) (get_or_default plans i d c.plan-item.result c.loop-plan-test.true ∙ sym c.plan-item.is));
      state =
          scanned-next tables plans 0 c.args.most table scanned groups after c.loop-plan.invariant.state within c.if-scanned-table.false
          looks;
    }

pub returns : goal.returns
returns g c = λ all k d e lt.
    let most : c.args.most - 0 ≡ c.args.most = omega arith in
    let plan = get_or c.args.plans.now k d in
    subst
    (λ n. GroupsAreKept plan (rows_between (g.S.Store.tables c.args.store.now) 0 c.args.most plan) n (get_or c.loop-plan.groups k e)) most
    (c.loop-plan.invariant.state.kept k d e lt (c.loop-plan.invariant.named k d (omega (arith, lt, c.loop-plan-test.false))))
