-- One worker more has met the first.
use Rattle.std.proofs.Common.{◌<◌, length, arith}
use Rattle.rows.specs.Shape.{shape_of}
use Rattle.sockets.proofs.Crews.{met-trans, met-more, seen-more, left-more}
use Rattle.sockets.proofs.ending.meet_first.Goals as goal

pub loop-other-preserved : goal.loop-other-preserved
loop-other-preserved g c =
    let workers = g.L.Line.workers in
    let shape = shape_of g.L.Line.schema in
    let inv = c.loop-other.invariant in
    let now = c.loop-other.other-items in
    let i = c.loop-other.other-index in
    let item = c.other-item.result in
    let lt : i < length now = omega (arith, c.loop-other-test.true, c.loop-other.auto.other-items) in
    let mine = c.meets.ensures.mine in
    record {
      first = met-trans workers shape c.args.first.now c.loop-other.first c.meets.new.self inv.first mine;
      met =
          met-more workers shape c.args.others.now now i item c.meets.new.other lt inv.left inv.met c.meets.ensures.theirs;
      seen = seen-more now i c.meets.new.other c.loop-other.first c.meets.new.self lt inv.seen mine.later c.meets.ensures.one;
      left = left-more c.args.others.now now i c.meets.new.other inv.left;
    }
