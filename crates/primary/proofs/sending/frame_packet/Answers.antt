-- The frame of a seq below the count of the durable list is that of all commits, if it is kept.
use Rattle.std.proofs.Common.{None, Some, cond, slice_get, take, ap, sym, ◌∙◌, inl, inr, arith}
use Rattle.std.specs.Option.{option_map}
use Rattle.std.proofs.lemmas.Bool.{cases_lt, lt-ltb}
use Rattle.update_log.specs.Streams.{stream_of, frame_count}
use Rattle.wire.specs.Spelling.{frame_spelling}
use Rattle.primary.proofs.Behind.{kept-get}
use Rattle.primary.proofs.Wanting.{frame-there, frame-some, found-kept}
use Rattle.primary.proofs.sending.frame_packet.Goals as goal

pub returns-in_err-frame : goal.returns-in_err-frame
returns-in_err-frame c =
    let commits = c.args.commits.now in
    let durable = c.args.durable in
    let worker = c.args.worker in
    let seq = c.args.seq in
    let low = frame_count commits worker c.args.tail.now.base in
    let packet = option_map frame_spelling (slice_get (stream_of (take durable commits) worker) seq) in
    elim (cases_lt seq low) [
      | inl below ↦ c.from_residual.ensures ∙ ap (λ b. cond b None packet) (sym (lt-ltb seq low below))
      | inr kept ↦
          absurd (frame-some commits durable worker seq
          (omega (arith, c.if-seq-count.false, c.count.ensures commits c.requires.tail c.requires.numbered))
          (c.in_err-frame.ensures.found ∙ kept-get seq low (slice_get (stream_of commits worker) seq) kept))
    ]

pub returns : goal.returns
returns c =
    let commits = c.args.commits.now in
    let durable = c.args.durable in
    let worker = c.args.worker in
    let seq = c.args.seq in
    let low = frame_count commits worker c.args.tail.now.base in
    let frame = c.in_ok-frame.frame in
    let found = found-kept seq low frame (slice_get (stream_of commits worker) seq) c.in_ok-frame.ensures.found in
    ap Some c.of_frame.ensures.spelled
    ∙ ap (option_map frame_spelling)
    (frame-there commits durable worker seq (Some frame)
    (omega (arith, c.if-seq-count.false, c.count.ensures commits c.requires.tail c.requires.numbered)) found.1)
    ∙ sym (kept-get seq low (option_map frame_spelling (slice_get (stream_of (take durable commits) worker) seq)) found.0)
