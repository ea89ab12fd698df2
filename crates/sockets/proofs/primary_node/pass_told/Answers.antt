-- There was one answer: what it tells is what its bytes tell.
use Rattle.std.proofs.Common.{ℕ, List, ap, ◌∙◌, arith}
use Rattle.wire.specs.Reading.{reading}
use Rattle.sockets.specs.Primaries.{passed, counts_at}
use Rattle.sockets.proofs.Asks.{counts-one}
use Rattle.sockets.proofs.primary_node.pass_told.Goals as goal

pub returns : goal.returns
returns c =
    c.pass.ensures
    ∙ ap (passed c.args.counters.now)
    (c.as_slice.ensures.counts ∙ c.counts_told-counts.ensures ∙ ap (λ (p : List ℕ). counts_at (reading p)) c.bytes.ensures.bytes
    ∙ counts-one c.args.outs.now c.index-outs-0.result (omega arith))
