-- One more stream without frames.
use Rattle.std.proofs.Common.{◌≡◌, ◌∷◌, [], List, length, length-append, sym, ap, subst, arith}
use Rattle.update_log.specs.Inner.Kept.{Kept}
use Rattle.update_log.specs.Streams.{stream_at}
use Rattle.update_log.proofs.Keeping.{spans_in, stream-more}
use Rattle.update_log.proofs.streams.Streams.new.Goals as goal

pub loop-preserved : goal.loop-preserved
loop-preserved c = record {
  counted =
      omega (
        arith,
        ap length c.in_ok-push.ensures.items,
        length-append c.loop.workers.items (c.new.result ∷ []),
        c.loop.invariant.counted,
      );
  none = λ worker.
      subst (λ (all : List Kept). stream_at (spans_in all) worker ≡ []) (sym c.in_ok-push.ensures.items)
      (stream-more c.loop.workers.items c.new.result c.new.ensures c.loop.invariant.none worker);
}
