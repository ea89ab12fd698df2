-- Whatever stands on the journal meanwhile, a stop of the primary may leave.
use Rattle.primary.proofs.Lending.{stops-allowed}
use Rattle.primary.proofs.work.Work.write.Goals as goal

pub returns-clause-stops : goal.returns-clause-stops
returns-clause-stops g c =
    let store = g.J.JournalStore in
    stops-allowed store.is_honest store.standing store.fault_count c.args.self c.offer.result c.offer.ensures
