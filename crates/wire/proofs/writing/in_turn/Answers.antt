-- Two numbers more for each worker.
use Rattle.std.proofs.Common.{◌<◌, ◌++◌, ◌∷◌, [], length, get_or, ap, sym, ◌∙◌, List, ℕ, arith}
use Rattle.wire.proofs.Counting.{in_turn-more}
use Rattle.wire.proofs.writing.in_turn.Goals as goal

pub loop-worker-preserved : goal.loop-worker-preserved
loop-worker-preserved c =
    let lows = c.args.lows.now in
    let counts = c.args.counts.now in
    let worker = c.loop-worker.worker in
    let counted : worker < length counts = omega (arith, c.loop-worker-test.true, c.requires.many) in
    record {
      numbers =
          c.push-in-loop-worker.ensures.items
          ∙ ap (λ (l : List ℕ). l ++ get_or counts worker 0 ∷ [])
          (c.push.ensures.items ∙ ap (λ (l : List ℕ). l ++ get_or lows worker 0 ∷ []) c.loop-worker.invariant.numbers)
          ∙ sym (in_turn-more lows counts worker c.loop-worker-test.true counted);
      many = omega (arith, c.push.ensures.len, c.push-in-loop-worker.ensures.len, c.loop-worker.invariant.many);
    }
