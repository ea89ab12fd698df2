-- Each two numbers that are read are the next.
use Rattle.std.proofs.Common.{◌≡◌, ◌+◌, ◌-◌, ◌++◌, ◌∷◌, [], List, ℕ, drop, sym, ap, ◌∙◌, length-drop, arith}
use Rattle.std.proofs.lemmas.List.{length_push, take_rest}
use Rattle.byteorder.specs.Endian.{big_number}
use Rattle.wire.specs.Reading.{counts_at}
use Rattle.wire.proofs.Counting.{counted_more, either_order}
use Rattle.wire.proofs.reading.read_counts.Goals as goal

pub loop-preserved : goal.loop-preserved
loop-preserved c =
    let bytes = c.args.bytes.now in
    let rest = c.loop.rest.now in
    let workers = c.args.workers in
    let i = c.loop.counter in
    let low : c.push.new.self ≡ c.loop.lows ++ big_number 8 rest ∷ [] =
    c.push.ensures ∙ ap (λ (n : ℕ). c.loop.lows ++ n ∷ []) c.read_u64.ensures in
    let count : c.push-in-loop.new.self ≡ c.loop.counts ++ big_number 8 (drop 8 rest) ∷ [] =
    c.push-in-loop.ensures ∙ ap (λ (n : ℕ). c.loop.counts ++ n ∷ []) (c.read_u64-in-loop.ensures ∙ ap (big_number 8) (take_rest rest 8)) in
    record {
      lows =
          ap (λ (l : List ℕ). l ++ counts_at (workers - (i + 1)) c.split_at.result.1.now) low
          ∙ ap (λ (l : List ℕ). (c.loop.lows ++ big_number 8 rest ∷ []) ++ counts_at (workers - (i + 1)) l) c.split_at.ensures.back
          ∙ counted_more c.loop.lows workers i rest (counts_at workers bytes) c.loop-test.true c.loop.invariant.lows;
      counts =
          ap (λ (l : List ℕ). l ++ counts_at (workers - (i + 1)) (drop 8 c.split_at.result.1.now)) count
          ∙ ap (λ (l : List ℕ). (c.loop.counts ++ big_number 8 (drop 8 rest) ∷ []) ++ counts_at (workers - (i + 1)) l)
          (ap (drop 8) c.split_at.ensures.back ∙ sym (either_order rest))
          ∙ counted_more c.loop.counts workers i (drop 8 rest) (counts_at workers (drop 8 bytes)) c.loop-test.true
          c.loop.invariant.counts;
      rest = rw (c.split_at.ensures.back, length-drop) (omega arith);
      as_many_lows = rw (c.push.ensures, length_push) (omega arith);
      as_many_counts = rw (c.push-in-loop.ensures, length_push) (omega arith);
    }
