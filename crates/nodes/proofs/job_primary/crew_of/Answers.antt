-- A new worker has answered nothing.
use Rattle.std.proofs.Common.{◌≡◌, [], ap, All, sym, subst}
use Rattle.std.proofs.lemmas.List.Elements.{All-push}
use Rattle.sockets.specs.Worker.{WorkerState}
use Rattle.nodes.proofs.job_primary.crew_of.Goals as goal

pub loop-preserved : goal.loop-preserved
loop-preserved g c =
    subst (All (λ (worker : WorkerState). worker.answers ≡ [])) (sym c.in-Ok.ensures.items)
    (All-push (λ (worker : WorkerState). worker.answers ≡ []) c.loop.crew.items c.new.result c.loop.invariant
    (ap (λ (worker : WorkerState). worker.answers) c.new.ensures))
