-- The frames of each commit can be sent.
use Rattle.std.proofs.Common.{◌+◌, arith}
use Rattle.primary.proofs.Rebuilding.{cuttable-next}
use Rattle.primary.proofs.keeping.streams_of.Goals as goal

pub extend-requires-clause-cuttable : goal.extend-requires-clause-cuttable
extend-requires-clause-cuttable c =
    (cuttable-next c.args.commits.now c.loop-index.index c.index-commits-index.result c.loop-index.streams.streams (c.loop-index.index + 1)
    c.loop-index-test.true c.index-commits-index.is c.requires.each c.requires.records c.requires.numbered c.loop-index.invariant
    (omega arith)).0
