-- The scan's numberings and tallies are those that are lent.
use Rattle.std.proofs.Common.{List, sym, subst}
use Rattle.plans.specs.declared.numbering.Numbering.{Numbering}
use Rattle.plans.specs.declared.tallies.Tallies.{Tallies as AnyTallies}
use Rattle.plans.specs.Inner.Scans.{AreScanned}
use Rattle.plans.proofs.scan.Scan.groups.Goals as goal

pub returns-clause-kept : goal.returns-clause-kept
returns-clause-kept c = λ tables rows count is.
    c.in_ok-groups.ensures.kept tables rows count
    (subst (λ (list : List Numbering). AreScanned tables c.args.plans.now c.args.classes.now c.args.table rows count list
    c.as_mut_slice.result.now) (sym c.as_slice.ensures.value)
    (subst (λ (list : List AnyTallies). AreScanned tables c.args.plans.now c.args.classes.now c.args.table rows count
    c.args.self.now.numberings.items list) (sym c.as_mut_slice.ensures.value) is.tallies))
