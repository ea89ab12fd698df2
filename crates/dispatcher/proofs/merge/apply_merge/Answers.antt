-- One part more is applied, and the next one taken.
use Rattle.std.proofs.Common.{Err, refl, sym, subst, ◌∙◌}
use Rattle.dispatcher.specs.declared.faults.CatchUpFault.{CatchUpFault}
use Rattle.dispatcher.specs.Inner.Merging.{MergeApplies, merging_of}
use Rattle.dispatcher.proofs.Merging.{taken-begins, taken-ends, taken-fails, taken-more, taken-stops}
use Rattle.dispatcher.proofs.merge.apply_merge.Goals as goal

pub parts-init : goal.parts-init
parts-init g c = record {
  taken = taken-begins (merging_of c.args.intake.now c.args.fetched.now.counts c.args.merge.now) (g.S.Store.tables c.args.store.now);
  goes_on = c.requires.goes_on;
  whole = c.requires.whole;
  base = refl;
}

pub returns-in-Err-clause-applies : goal.returns-in-Err-clause-applies
returns-in-Err-clause-applies g c =
    let fetched = c.args.fetched.now in
    let first = merging_of c.args.intake.now fetched.counts c.args.merge.now in
    let merging = merging_of c.args.intake.now fetched.counts c.parts.merge in
    let begun = g.S.Store.tables c.args.store.now in
    let now = g.S.Store.tables c.apply_all.new.self in
    let so = c.parts.invariant in
    let fails = rw (c.deref.ensures.value) at c.in-Err.ensures.err in
    subst (λ (fault : CatchUpFault). MergeApplies first fetched.version begun (Err fault) now) (sym c.catch_up_fault.ensures)
    (taken-fails first merging fetched.version begun (g.S.Store.tables c.parts.store) so.taken c.parts_make_the_merge.ensures.only
    so.goes_on.within c.in-Err.fault (g.S.Store.is_whole c.parts.store) now so.whole fails)

pub returns-then-merge-fetched-clause-applies : goal.returns-then-merge-fetched-clause-applies
returns-then-merge-fetched-clause-applies g c =
    let fetched = c.args.fetched.now in
    let first = merging_of c.args.intake.now fetched.counts c.args.merge.now in
    let merging = merging_of c.args.intake.now fetched.counts c.parts.merge in
    let so = c.parts.invariant in
    let made = rw (c.deref.ensures.value) at c.in-Ok.ensures.ok in
    taken-ends first merging fetched.version (g.S.Store.tables c.args.store.now) (g.S.Store.tables c.parts.store) so.taken
    c.parts_make_the_merge.ensures.begin (g.S.Store.tables c.apply_all.new.self) c.if-merge-fetched.true
    (so.goes_on.end c.if-merge-fetched.true) made

pub parts-preserved : goal.parts-preserved
parts-preserved g c =
    let all = c.args.intake.now in
    let counts = c.args.fetched.now.counts in
    let so = c.parts.invariant in
    let made = rw (c.deref.ensures.value) at c.in-Ok.ensures.ok in
    record {
      taken =
          taken-more c.parts_make_the_merge.ensures.join (merging_of all counts c.args.merge.now) (merging_of all counts c.parts.merge)
          (merging_of all counts c.take_part.new.merge) (g.S.Store.tables c.args.store.now) (g.S.Store.tables c.parts.store)
          (g.S.Store.tables c.apply_all.new.self) so.taken made c.in-Ok-take_part.ensures.begun;
      goes_on = c.in-Ok-take_part.ensures.goes_on;
      whole = c.in-Ok.ensures.stays_whole;
      base = c.apply_all.ensures.base ∙ so.base;
    }

pub returns-in-Err-Inconsistent-clause-applies : goal.returns-in-Err-Inconsistent-clause-applies
returns-in-Err-Inconsistent-clause-applies g c =
    let fetched = c.args.fetched.now in
    let first = merging_of c.args.intake.now fetched.counts c.args.merge.now in
    let merging = merging_of c.args.intake.now fetched.counts c.parts.merge in
    let so = c.parts.invariant in
    taken-stops first merging fetched.version (g.S.Store.tables c.args.store.now) (g.S.Store.tables c.parts.store) so.taken
    c.parts_make_the_merge.ensures.only so.goes_on.within (g.S.Store.tables c.apply_all.new.self)
    (c.in-Err-Inconsistent.ensures.inconsistent c.in-Err-Inconsistent.field-0-is)
