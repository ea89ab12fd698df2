-- Each worker's frames are deeds behind those of the workers before.
use Rattle.std.proofs.Common.{◌+◌, refl, ◌∙◌, arith}
use Rattle.std.proofs.lemmas.List.{get_or-set_other}
use Rattle.sockets.specs.Inner.Deeds.{looked_before, looked_by}
use Rattle.sockets.proofs.Deeding.{does_nothing, does_less, does_then, before_none, before_next}
use Rattle.sockets.proofs.primary_node.PrimaryNode.push_rows.Goals as goal

pub loop-worker-init : goal.loop-worker-init
loop-worker-init g c = record {
  does =
      does_less _ _ _ _ _ _ _ _ _ (λ _. 0) (looked_before c.args.left.now 0) (λ worker within. before_none c.args.left.now worker)
      (does_nothing _ _ _ _ _ _ _ _ refl);
  left = λ worker least. refl;
}

pub loop-worker-preserved : goal.loop-worker-preserved
loop-worker-preserved g c = record {
  does =
      does_then _ _ _ _ _ _ _ _ _ _ (looked_before c.args.left.now c.loop-worker.worker) (looked_by c.loop-worker.worker c.min-most.result)
      (looked_before c.args.left.now (c.loop-worker.worker + 1))
      (λ worker within. before_next c.args.left.now c.loop-worker.worker c.min-most.result worker
      (λ some. omega (arith, some, c.min-most.ensures, c.loop-worker.invariant.left c.loop-worker.worker (omega arith))))
      c.loop-worker.invariant.does c.push_row-pushed.ensures.does;
  left = λ worker least.
      get_or-set_other c.loop-worker.left c.loop-worker.worker worker c.left_after.result 0 (λ same. absurd (omega (arith, same, least)))
      ∙ c.loop-worker.invariant.left worker (omega (arith, least));
}
