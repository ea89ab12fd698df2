-- What a write took is gone from the bytes, and one that failed took nothing.
use Rattle.script.proofs.Pieces.{front_written, then_written, still_written}
use Rattle.script.proofs.writing.write_bytes.Goals as goal
use Rattle.script.proofs.writing.write_bytes.Goals.{in-Ok, in-Err+else-ne}

pub loop-preserved : goal.loop-preserved
loop-preserved g c =
    let old = g.W.Write.contents c.args.writer.now in
    let mid = g.W.Write.contents c.loop.writer in
    let new = g.W.Write.contents c.write.new.self in
    let rest = c.loop.rest.now in
    elim c.match-write.branch [
      | in-Ok w ↦ rw w.rest-is (then_written old mid new c.args.bytes.now rest _ c.loop.invariant
          (front_written mid new rest w.in-Ok.count w.in-Ok.ensures.bytes))
      | in-Err+else-ne w ↦ rw w.rest-is (still_written old mid new c.args.bytes.now rest c.loop.invariant w.in-Err.ensures.bytes)
    ]
