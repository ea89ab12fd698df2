-- One frame after the other from the first kept one on, as many as are wanted and there.
use Rattle.std.proofs.Common.{◌≡◌, ◌+◌, ◌<◌, ◌≤◌, ℕ, List, length, take, max, slice_get, Some, ap, ◌∙◌, inl, inr, Vec, Global, arith}
use Rattle.std.proofs.lemmas.Bool.{cases_lt}
use Rattle.update_log.specs.Limits.{want_frames_max}
use Rattle.update_log.specs.Streams.{stream_of, frame_count}
use Rattle.wire.specs.declared.out.Out.{Out}
use Rattle.wire.specs.declared.out.To.TheVariants.{Replica}
use Rattle.primary.proofs.Behind.{kept-get}
use Rattle.primary.proofs.Wanting.{frame-there, frame-some, wanted-more, wanted-all, wanted-some, on-err}
use Rattle.primary.proofs.sending.wanted_outs.Goals as goal
use Rattle.primary.proofs.sending.wanted_outs.Goals.{in-Some+in_ok-push, in_default}

pub returns-in_err-push-clause-err : goal.returns-in_err-push-clause-err
returns-in_err-push-clause-err c =
    let commits = c.args.commits.now in
    let from = c.args.from in
    let stream = stream_of (take c.args.durable commits) c.args.worker in
    let low = frame_count commits c.args.worker c.args.tail.now.base in
    let start = c.max-start.result in
    let first : start ≡ max low from = c.max-start.ensures ∙ ap (λ n. max n from) (c.low.ensures commits c.requires.tail) in
    let counted = c.count.ensures commits c.requires.tail c.requires.numbered in
    let below : start < length stream =
    omega (arith, c.loop-seq.auto.seq, c.loop-seq-test.true, c.max-end.ensures, c.min.ensures, counted) in
    let near : start < from + want_frames_max =
    omega (arith, c.loop-seq.auto.seq, c.loop-seq-test.true, c.max-end.ensures, c.min.ensures, c.saturating_add.ensures) in
    on-err _ c.from_residual.result (wanted-some stream c.args.replica from low start first below near)

pub loop-seq-preserved : goal.loop-seq-preserved
loop-seq-preserved c =
    let commits = c.args.commits.now in
    let worker = c.args.worker in
    let from = c.args.from in
    let seq = c.loop-seq.seq in
    let stream = stream_of (take c.args.durable commits) worker in
    let low = frame_count commits worker c.args.tail.now.base in
    let start = c.max-start.result in
    let first : start ≡ max low from = c.max-start.ensures ∙ ap (λ n. max n from) (c.low.ensures commits c.requires.tail) in
    let counted = c.count.ensures commits c.requires.tail c.requires.numbered in
    let below : seq < length stream = omega (arith, c.loop-seq-test.true, c.max-end.ensures, c.min.ensures, counted) in
    let kept : low ≤ seq = omega (arith, first, c.loop-seq.auto.seq) in
    let is_kept = kept-get seq low (slice_get (stream_of commits worker) seq) kept in
    elim c.match-frame.branch [
      | in-Some+in_ok-push w ↦
          let frame = w.in-Some.frame in
          let out : List ℕ → Out = λ packet. record { to = Replica c.args.replica; packet = packet } in
          wanted-more stream c.args.replica start seq frame c.loop-seq.outs.items c.match-frame.outs.items
          (out w.of_frame.result) c.loop-seq.auto.seq below
          (frame-there commits c.args.durable worker seq (Some frame) below (w.in-Some.ensures.found ∙ is_kept))
          (ap out w.of_frame.ensures.spelled)
          (ap (λ (v : Vec Out Global). v.items) w.outs-is ∙ w.in_ok-push.ensures.items)
          c.loop-seq.invariant
      | in_default w ↦ absurd (frame-some commits c.args.durable worker seq below (w.in_default.ensures.found ∙ is_kept))
    ]

pub returns-clause-ok : goal.returns-clause-ok
returns-clause-ok c =
    let commits = c.args.commits.now in
    let from = c.args.from in
    let stream = stream_of (take c.args.durable commits) c.args.worker in
    let low = frame_count commits c.args.worker c.args.tail.now.base in
    let start = c.max-start.result in
    let first : start ≡ max low from = c.max-start.ensures ∙ ap (λ n. max n from) (c.low.ensures commits c.requires.tail) in
    let counted = c.count.ensures commits c.requires.tail c.requires.numbered in
    let seq = c.loop-seq.seq in
    let upto = c.loop-seq.auto.seq-end (omega (arith, c.max-end.ensures)) in
    wanted-all stream c.args.replica from low start seq c.loop-seq.outs.items first (elim (cases_lt (from + 16) (length stream)) [
      | inl more ↦
          inl (omega (
            arith,
            c.max-end.ensures,
            c.min.ensures,
            c.saturating_add.ensures,
            counted,
            c.loop-seq-test.false,
            c.loop-seq.auto.seq,
            upto,
          ))
      | inr few ↦ elim (cases_lt start (length stream)) [
        | inl some ↦ inr (omega (arith, c.max-end.ensures, c.min.ensures, c.saturating_add.ensures, counted, c.loop-seq-test.false), few)
        | inr none ↦ inr (omega (arith, c.loop-seq.auto.seq), few)
      ]
    ]) c.loop-seq.invariant
