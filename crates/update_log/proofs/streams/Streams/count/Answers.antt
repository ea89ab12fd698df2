-- What is counted of a stream that is split at the version.
use Rattle.std.proofs.Common.{◌≡◌, ◌<◌, ◌≤◌, take, drop, List, length, sym, ap, subst, ◌+◌, ◌∙◌, arith}
use Rattle.std.proofs.lemmas.Bool.{ltb-true, ltb-false}
use Rattle.update_log.specs.declared.span.Span.{Span}
use Rattle.update_log.specs.State.{StreamsState}
use Rattle.update_log.specs.Inner.Kept.{Kept}
use Rattle.update_log.specs.Inner.Splitting.{IsSplitAt}
use Rattle.update_log.specs.Streams.{stream_at}
use Rattle.update_log.specs.Inner.Spans.{stream_spans, stream_spans_from}
use Rattle.update_log.proofs.Keeping.{spans_in, stream-past, stream-read}
use Rattle.update_log.proofs.Splitting.{count-none, stream-is_split}
use Rattle.update_log.proofs.Spans.{spans-counted}
use Rattle.update_log.proofs.streams.Streams.count.Goals as goal

pub returns-in-None : goal.returns-in-None
returns-in-None c commits are =
    let lists = c.self.inside.workers.items in
    let worker = c.args.worker in
    let beyond = ltb-false worker (length c.as_slice.result.now) (sym c.in-None.ensures.lookup.0) in
    let past : length lists ≤ worker = omega (arith, beyond, ap length c.as_slice.ensures.value) in
    count-none commits worker c.args.version
    (sym (stream-past lists worker past) ∙ ap (λ (state : StreamsState). stream_at state.streams worker) c.self.view_is ∙ are.each worker)

pub returns-in-Some : goal.returns-in-Some
returns-in-Some c commits are =
    let worker = c.args.worker in
    let version = c.args.version in
    let kept = c.as_slice.result.now in
    let there : worker < length kept = ltb-true worker (length kept) (sym c.in-Some.ensures.lookup.0) in
    let same : c.in-Some.stream.now.spans ≡ stream_spans commits worker =
    sym (stream-read kept worker c.in-Some.stream.now there c.in-Some.ensures.lookup.1)
    ∙ ap (λ (all : List Kept). stream_at (spans_in all) worker) c.as_slice.ensures.value
    ∙ ap (λ (state : StreamsState). stream_at state.streams worker) c.self.view_is
    ∙ are.each worker in
    let front = stream_spans (take version commits) worker in
    let back = stream_spans_from worker (0 + version) (drop version commits) in
    c.count.ensures front back
    (subst (λ (spans : List Span). IsSplitAt version spans front back) (sym same) (stream-is_split commits worker version))
    ∙ spans-counted worker 0 0 (take version commits)
