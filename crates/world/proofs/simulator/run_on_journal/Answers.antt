-- A world that is opened on a journal is one at its beginning.
use Rattle.std.proofs.Common.{rules}
use Rattle.world.proofs.Starting.{as_many}
use Rattle.world.proofs.simulator.run_on_journal.Goals as goal

pub run_through-requires : goal.run_through-requires
run_through-requires g c =
    let opened = c.in_ok-world.ensures.ok in (
      search rules,
      (
        rw (opened.2, as_many opened.0, opened.1.setup_is) c.requires.replicas,
        rw (opened.2, as_many opened.0, opened.1.setup_is) c.requires.possible,
      ),
    )

pub returns-in-Ok-clause-ok : goal.returns-in-Ok-clause-ok
returns-in-Ok-clause-ok g c =
    let opened = c.in_ok-world.ensures.ok in
    (opened.0, opened.1, c.in-Ok.ensures opened.0 opened.2 opened.1.numbered)
