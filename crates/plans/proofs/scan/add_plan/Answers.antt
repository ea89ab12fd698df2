-- Keys that are new come behind the others.
use Rattle.plans.proofs.Scanned.{scanned-extends}
use Rattle.plans.proofs.scan.add_plan.Goals as goal

pub returns-clause-scanned : goal.returns-clause-scanned
returns-clause-scanned g c = λ scanned is.
    let tables = g.S.Store.tables c.args.store.now in
    c.in_ok-add_shared-2.ensures.scanned scanned
    (scanned-extends tables c.args.plan.now c.args.numbering.now.keys.items c.share_rows.new.numbering.keys.items scanned
    c.args.block.now.from c.args.tallies.now c.in_ok-first.ensures.extends is)
