-- One more transaction is given up.
use Rattle.std.proofs.Common.{◌<◌, List, length, Option, None, ap, ◌∙◌, arith}
use Rattle.std.specs.List.{slice_set}
use Rattle.mvcc.specs.Transaction.{Transaction}
use Rattle.world.proofs.Nodes.{closed_set}
use Rattle.world.proofs.stopping.close_all.Goals as goal

pub loop-index-preserved : goal.loop-index-preserved
loop-index-preserved c =
    let within : c.loop-index.index < length c.args.transactions.now = omega arith in
    ap (λ (l : List (Option Transaction)). slice_set l c.loop-index.index None) c.loop-index.invariant
    ∙ closed_set c.args.transactions.now c.loop-index.index within
