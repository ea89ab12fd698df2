-- What is behind a piece is spelled as all was.
use Rattle.std.proofs.Common.{subst, sym}
use Rattle.std.specs.List.{AllByRecursion}
use Rattle.rows.specs.Spelling.{HasSpelling}
use Rattle.scenarios_frames.proofs.Spelled.{spelled_drop}
use Rattle.scenarios_frames.proofs.cuts.piece_lens.Goals as goal

pub loop-rest-preserved : goal.loop-rest-preserved
loop-rest-preserved c =
    subst (AllByRecursion HasSpelling) (sym c.split_at.ensures.back)
    (spelled_drop c.piece_len-len.result c.loop-rest.rest.now c.loop-rest.invariant)
