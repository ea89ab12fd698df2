-- Worker by worker, of lists that are as long.
use Rattle.std.proofs.Common.{◌+◌, ◌<◌, ◌≤◌, length, drop, get_or, Bool, ◌&&◌, nat_le, ap, sym, ◌∙◌, inl, inr, arith}
use Rattle.std.specs.Cmp.Lexicographic.{pointwise}
use Rattle.std.proofs.lemmas.Bool.{and_left, lt-leb, le-leb, cases_Bool}
use Rattle.wire.proofs.Lists.{pointwise-at, pointwise-past, pointwise-length}
use Rattle.wire.proofs.counts.none_above.Goals as goal

pub returns-then-lows-counts : goal.returns-then-lows-counts
returns-then-lows-counts c = elim (cases_Bool (pointwise nat_le c.args.lows.now c.args.counts.now)) [
  | inl same ↦ absurd (c.if-lows-counts.true (pointwise-length c.args.lows.now c.args.counts.now same))
  | inr other ↦ sym other
]

pub returns-then-counts-worker : goal.returns-then-counts-worker
returns-then-counts-worker c =
    let lows = c.args.lows.now in
    let counts = c.args.counts.now in
    let worker = c.loop-worker.worker in
    let counted : worker < length counts = omega (arith, c.loop-worker-test.true, c.loop-worker.invariant.many) in
    sym (c.loop-worker.invariant.rest ∙ pointwise-at lows counts worker c.loop-worker-test.true counted
    ∙ and_left (nat_le (get_or lows worker 0) (get_or counts worker 0))
    (pointwise nat_le (drop (worker + 1) lows) (drop (worker + 1) counts))
    (lt-leb (get_or lows worker 0) (get_or counts worker 0) c.if-counts-worker.true))

pub loop-worker-preserved : goal.loop-worker-preserved
loop-worker-preserved c =
    let lows = c.args.lows.now in
    let counts = c.args.counts.now in
    let worker = c.loop-worker.worker in
    let counted : worker < length counts = omega (arith, c.loop-worker-test.true, c.loop-worker.invariant.many) in
    record {
      many = c.loop-worker.invariant.many;
      rest =
          c.loop-worker.invariant.rest ∙ pointwise-at lows counts worker c.loop-worker-test.true counted
          ∙ ap (λ (b : Bool). b && pointwise nat_le (drop (worker + 1) lows) (drop (worker + 1) counts))
          (le-leb (get_or lows worker 0) (get_or counts worker 0) c.if-counts-worker.false);
    }

pub returns : goal.returns
returns c =
    let worker = c.loop-worker.worker in
    let past : length c.args.counts.now ≤ worker = omega (arith, c.loop-worker-test.false, c.loop-worker.invariant.many) in
    sym (c.loop-worker.invariant.rest ∙ pointwise-past c.args.lows.now c.args.counts.now worker c.loop-worker-test.false past)
