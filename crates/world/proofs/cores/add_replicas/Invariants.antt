-- The replicas so far, followed by those that are still to be made.
use Rattle.std.proofs.Common.{◌≡◌, ◌-◌, ◌++◌, [], ◌∷◌, replicate}
use Rattle.world.specs.Cores.{replicas_from, zeros}
use Rattle.world.proofs.cores.add_replicas.Given as goal

abbrev pub invariant-loop-number : goal.invariant-loop-number
invariant-loop-number l = record {
  made : l.cores.items ++ replicas_from l.setup.schema l.setup.workers l.number (l.setup.replicas - l.number)
      ≡ replicas_from l.setup.schema l.setup.workers 0 l.setup.replicas;
  first : l.boots.items ++ replicate (l.setup.replicas - l.number) (1 ∷ []) ≡ replicate l.setup.replicas (1 ∷ []);
  noted : l.asked_at.items ++ zeros (l.setup.replicas - l.number) ≡ zeros l.setup.replicas;
}
