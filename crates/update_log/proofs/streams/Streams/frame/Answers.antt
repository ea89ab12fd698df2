-- The frame whose entries stand where the stream says is the one that is found.
use Rattle.std.proofs.Common.{None, Some, ap, ◌∙◌}
use Rattle.std.specs.Prelude.{slice_get}
use Rattle.update_log.specs.Frames.{IsSendable}
use Rattle.update_log.specs.Streams.{stream_of}
use Rattle.update_log.specs.Inner.Spans.{IsSpanIn, stream_spans}
use Rattle.update_log.proofs.Elements.{all-found}
use Rattle.update_log.proofs.Spans.{frame-found, stream-within}
use Rattle.update_log.proofs.streams.Streams.frame.Goals as goal

pub lent-requires : goal.lent-requires
lent-requires c =
    let commits = c.args.commits.now in
    let worker = c.args.worker in
    let seq = c.args.seq in
    all-found (IsSpanIn commits) (stream_spans commits worker) seq c.in-Some.span.now (stream-within commits worker)
    (c.in-Some.ensures ∙ ap (λ spans. slice_get spans seq) (c.requires.each worker))

pub returns-in-None-clause-found : goal.returns-in-None-clause-found
returns-in-None-clause-found c =
    frame-found c.args.commits.now c.args.worker c.args.seq None
    (c.in-None.ensures ∙ ap (λ spans. slice_get spans c.args.seq) (c.requires.each c.args.worker))

pub returns-in-Some-clause-found : goal.returns-in-Some-clause-found
returns-in-Some-clause-found c =
    ap Some c.lent.ensures
    ∙ frame-found c.args.commits.now c.args.worker c.args.seq (Some c.in-Some.span.now)
    (c.in-Some.ensures ∙ ap (λ spans. slice_get spans c.args.seq) (c.requires.each c.args.worker))

pub returns-in-Some-clause-sendable : goal.returns-in-Some-clause-sendable
returns-in-Some-clause-sendable c =
    all-found IsSendable (stream_of c.args.commits.now c.args.worker) c.args.seq c.lent.result (c.requires.sendable c.args.worker)
    (returns-in-Some-clause-found c)
