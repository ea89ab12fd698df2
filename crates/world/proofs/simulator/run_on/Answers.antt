-- A new world is one at its beginning.
use Rattle.std.proofs.Common.{arith, rules}
use Rattle.std.proofs.lemmas.Result.{IfOk-weaker}
use Rattle.world.specs.Cores.{new_opening}
use Rattle.world.specs.Theorem.{KeepsPromises}
use Rattle.world.proofs.Starting.{as_many}
use Rattle.world.proofs.simulator.run_on.Goals as goal

pub run_through-requires : goal.run_through-requires
run_through-requires g c =
    let opening = new_opening c.args.setup.now in (
      search rules,
      (
        rw (c.in_ok-world.ensures, as_many opening) c.requires.replicas,
        rw (c.in_ok-world.ensures, as_many opening) c.requires.possible,
      ),
    )

pub returns : goal.returns
returns g c =
    let opening = new_opening c.args.setup.now in
    IfOk-weaker c.run_through.result _ (λ outputs. KeepsPromises opening c.args.events.now outputs.items)
    (λ outputs kept. kept opening c.in_ok-world.ensures (omega arith)) c.run_through.ensures
