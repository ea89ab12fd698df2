-- A frame behind the base is that of the later commits alone, shifted; what is below it is not kept.
use Rattle.std.proofs.Common.{◌≡◌, ◌+◌, ◌-◌, ◌≤◌, ℕ, Some, length, take, drop, slice_get, sym, ap, ◌∙◌, arith}
use Rattle.std.specs.Option.{option_map}
use Rattle.std.proofs.lemmas.List.{length-take-le, length-drop}
use Rattle.update_log.specs.declared.frame.Frame.{Frame}
use Rattle.update_log.specs.Streams.{stream_of, frame_count, shifted}
use Rattle.primary.proofs.Behind.{frame-at, commit-within, seq-at, kept-get}
use Rattle.primary.proofs.tail.Tail.frame.Goals as goal

pub returns-clause-found : goal.returns-clause-found
returns-clause-found c =
    let commits = c.args.commits.now in
    let worker = c.args.worker in
    let seq = c.args.seq in
    let base = c.args.self.now.base in
    let tail = c.requires.tail in
    let low = frame_count commits worker base in
    let lows : c.low-low.result ≡ low = c.low-low.ensures commits tail in
    let kept : low ≤ seq = omega (arith, c.if-seq-low.false, lows) in
    let behind = drop base commits in
    let frame = c.in_ok-frame.frame in
    let found : Some frame ≡ slice_get (stream_of behind worker) (seq - low) =
    c.in_ok-frame.ensures.found
    ∙ ap (λ cs. slice_get (stream_of cs worker) (seq - c.low-low.result)) c.split_at.ensures.back
    ∙ ap (λ n. slice_get (stream_of behind worker) (seq - n)) lows in
    let f = c.frame-2.inside in
    let made : ℕ → ℕ → Frame = λ s n. record { worker = f.worker; seq = s; commit = n; last = f.last; entries = f.entries.now } in
    let before = length (take base commits) in
    let seqs : seq ≡ low + f.seq =
    omega (arith, kept, seq-at behind worker (seq - low) frame found, ap (λ (g : Frame). g.seq) c.frame-2.view_is) in
    let numbers : c.saturating_add.result ≡ before + f.commit =
    omega (
      arith,
      c.saturating_add.ensures,
      length-take-le base commits tail.within,
      commit-within behind worker (seq - low) frame found,
      length-drop base commits,
      ap (λ (g : Frame). g.commit) c.frame-2.view_is,
      c.requires.numbered.commits_below,
      tail.within,
    ) in
    ap Some (ap (λ s. made s c.saturating_add.result) seqs ∙ ap (made (low + f.seq)) numbers)
    ∙ ap (λ (g : Frame). Some (shifted before low g)) c.frame-2.view_is
    ∙ ap (option_map (shifted before low)) found
    ∙ sym (frame-at c.streams_go_on.ensures commits worker base seq kept)
    ∙ sym (kept-get seq low (slice_get (stream_of commits worker) seq) kept)
