-- One plan more has the block's rows; and at the end all have.
use Rattle.std.proofs.Common.{◌≡◌, ℕ, ◌+◌, ◌<◌, List, [], ◌++◌, length, get_or, Option, IfSome, Ok, sym, ap, subst, ◌∙◌, arith}
use Rattle.std.proofs.lemmas.List.{get_or_default, length-set}
use Rattle.rows.specs.declared.value.Value.{Value}
use Rattle.rows.specs.Tables.{shape_in}
use Rattle.plans.specs.declared.numbering.Numbering.{Numbering}
use Rattle.queries.specs.declared.plan.Plan.{Plan}
use Rattle.plans.specs.declared.shared_rows.SharedRows.{SharedRows}
use Rattle.queries.specs.Checking.{checked}
use Rattle.plans.specs.Inner.Blocks.{Extends, StaysIfKnown}
use Rattle.plans.specs.Inner.BlockRows.{rows_of_block}
use Rattle.plans.specs.Inner.Scans.{IsScanned}
use Rattle.plans.specs.Inner.Shared.{IsShared}
use Rattle.plans.proofs.Fitting.{all-at}
use Rattle.plans.proofs.Scanned.{keys_at, numberings-set, added-more, added-none, added-all, shared-of, shared-set}
use Rattle.plans.proofs.scan.add_block.Goals as goal

pub loop-plan-init : goal.loop-plan-init
loop-plan-init g c = record {
  numberings = c.requires.numberings;
  tallies_size = c.requires.sizes;
  shared_size = ap length c.as_mut_slice-shared.ensures.value ∙ c.in_ok-list.ensures.sizes;
  shared = λ r e d o lt.
      subst (λ (held : Option (SharedRows _)). IfSome held (IsShared (g.S.Store.tables c.args.store.now)
      (g.S.Store.values_at c.args.store.now)
      c.args.block.now (get_or c.args.plans.now r e) (keys_at c.args.numberings.now r d)))
      (sym (ap (λ (list : List (Option (SharedRows _))). get_or list r o) c.as_mut_slice-shared.ensures.value
      ∙ c.in_ok-list.ensures.none r o lt)) tt;
  scanned = λ scanned are.
      added-none (g.S.Store.tables c.args.store.now) c.args.plans.now c.args.classes.now c.args.block.now scanned c.args.block.now.from
      c.args.numberings.now c.args.tallies.now are;
}

pub add_plan-requires-clause-table : goal.add_plan-requires-clause-table
add_plan-requires-clause-table g c = λ _ _. c.if-this-block.false

pub add_plan-requires-clause-checked : goal.add_plan-requires-clause-checked
add_plan-requires-clause-checked g c = λ _ _.
    let shape = shape_in (g.S.Store.tables c.args.store.now) in
    subst (λ (plan : Plan). checked shape plan ≡ Ok tt) (sym c.index-plans-plan.is)
    (all-at (λ plan. checked shape plan ≡ Ok tt) c.args.plans.now c.requires.checked c.loop-plan.plan c.index-plans-plan.result
    c.loop-plan-test.true)

pub add_plan-requires-clause-numbering : goal.add_plan-requires-clause-numbering
add_plan-requires-clause-numbering g c = λ _ _.
    c.loop-plan.invariant.numberings.each (get_or c.args.classes.now c.loop-plan.plan 0) c.index-numberings-class.result
    (c.requires.classes.within c.loop-plan.plan 0 c.loop-plan-test.true)

pub add_plan-requires-clause-shared : goal.add_plan-requires-clause-shared
add_plan-requires-clause-shared g c = λ _ _.
    let tables = g.S.Store.tables c.args.store.now in
    let values = g.S.Store.values_at c.args.store.now in
    let class = get_or c.args.classes.now c.loop-plan.plan 0 in
    subst (λ (plan : Plan). IfSome (get_or c.loop-plan.shared class c.index-shared-class.result)
    (IsShared tables values c.args.block.now plan (keys_at c.loop-plan.numberings class c.index-numberings-class.result)))
    (sym c.index-plans-plan.is)
    (shared-of tables values c.args.block.now c.args.plans.now c.args.classes.now c.loop-plan.numberings c.loop-plan.shared
    c.requires.classes
    c.loop-plan.invariant.shared c.loop-plan.plan 0 c.index-numberings-class.result c.index-plans-plan.result c.index-shared-class.result
    c.loop-plan-test.true)

pub add_plan-requires-clause-scanned : goal.add_plan-requires-clause-scanned
add_plan-requires-clause-scanned g c = λ _ _.
    let tables = g.S.Store.tables c.args.store.now in
    let i = c.loop-plan.plan in
    let plan = c.index-plans-plan.result in
    let numbering = c.index-numberings-class.result in
    let tallies = c.index-tallies-plan.result in
    let class = get_or c.args.classes.now i 0 in
    let scanned = c.requires.scanned.0 in (
      scanned,
      subst (λ (p : Plan). IsScanned tables p (keys_at c.loop-plan.numberings class numbering) scanned c.args.block.now.from
          (get_or c.loop-plan.tallies i tallies)) (sym c.index-plans-plan.is)
          ((c.loop-plan.invariant.scanned scanned c.requires.scanned.1 i 0 numbering plan tallies c.loop-plan-test.true
          (ap (λ (p : Plan). p.table) (sym c.index-plans-plan.is) ∙ c.if-this-block.false)).1 (omega arith)),
    )

pub loop-plan-preserved : goal.loop-plan-preserved
loop-plan-preserved g c =
    let tables = g.S.Store.tables c.args.store.now in
    let values = g.S.Store.values_at c.args.store.now in
    let plans = c.args.plans.now in
    let classes = c.args.classes.now in
    let block = c.args.block.now in
    let i = c.loop-plan.plan in
    let plan = c.index-plans-plan.result in
    let lt : i < length plans = c.loop-plan-test.true in
    let class = get_or classes i 0 in
    let numberings = c.loop-plan.numberings in
    let old = c.index-numberings-class.result in
    let new = c.add_plan.new.numbering in
    let kept = c.loop-plan.invariant in
    let within : class < length plans = c.requires.classes.within i 0 lt in
    let there : class < length numberings = omega (arith, within, kept.numberings.sizes) in
    let room : class < length c.loop-plan.shared = omega (arith, within, kept.shared_size) in
    let place : i < length c.loop-plan.tallies = omega (arith, lt, kept.tallies_size) in
    let same : (n : ℕ) → class ≡ get_or classes i n = λ n. get_or_default classes i 0 n (omega (arith, lt, c.requires.classes.sizes)) in
    let this : (e : Plan) → plan ≡ get_or plans i e = λ e. c.index-plans-plan.is ∙ get_or_default plans i plan e lt in
    let held : (d : Numbering) → keys_at numberings class old ≡ keys_at numberings class d =
    λ d. ap (λ (n : Numbering). n.keys.items) (get_or_default numberings class old d there) in
    record {
      numberings =
          numberings-set numberings class new there plans kept.numberings c.in_ok-add_plan.ensures.numbering
          (λ d e none. subst (λ (keys : List (List Value)). StaysIfKnown [] keys new.keys.items) (held d)
          (c.in_ok-add_plan.ensures.stays
          (ap (λ (p : Plan). p.groups) (this e) ∙ sym (c.requires.classes.alike i 0 e lt).groups ∙ none)));
      tallies_size = length-set c.loop-plan.tallies i c.add_plan.new.tallies ∙ kept.tallies_size;
      shared_size = length-set c.loop-plan.shared class c.add_plan.new.shared ∙ kept.shared_size;
      shared =
          shared-set tables values block plans classes numberings c.loop-plan.shared c.requires.classes kept.shared i class new
          c.add_plan.new.shared lt same there room
          (λ e. subst (λ (p : Plan). IfSome c.add_plan.new.shared (IsShared tables values block p new.keys.items)) (this e)
          c.in_ok-add_plan.ensures.shared);
      scanned = λ scanned are.
          let added = kept.scanned scanned are in
          let before =
          subst (λ (p : Plan). IsScanned tables p (keys_at numberings class old) scanned block.from
          (get_or c.loop-plan.tallies i c.index-tallies-plan.result))
          (sym c.index-plans-plan.is)
          ((added i 0 old plan c.index-tallies-plan.result lt (ap (λ (p : Plan). p.table) (sym c.index-plans-plan.is)
          ∙ c.if-this-block.false)).1
          (omega arith)) in
          added-more tables plans classes block scanned block.from i numberings c.loop-plan.tallies added class new
          c.add_plan.new.tallies same
          there place
          (λ d. subst (λ (keys : List (List Value)). Extends keys new.keys.items) (held d) c.in_ok-add_plan.ensures.extends)
          (λ e. subst (λ (p : Plan). IsScanned tables p new.keys.items (scanned ++ rows_of_block tables block)
          (block.from + length block.ids.now) c.add_plan.new.tallies) (this e) (c.in_ok-add_plan.ensures.scanned scanned before));
    }

pub returns-clause-scanned : goal.returns-clause-scanned
returns-clause-scanned g c = λ scanned are.
    added-all (g.S.Store.tables c.args.store.now) c.args.plans.now c.args.classes.now c.args.block.now scanned c.args.block.now.from
    c.loop-plan.plan c.loop-plan.numberings c.loop-plan.tallies c.loop-plan-test.false (c.loop-plan.invariant.scanned scanned are)
