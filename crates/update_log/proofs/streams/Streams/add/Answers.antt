-- The frames go to the end of their worker's stream; where they are those of the next commit, the streams are those with it.
use Rattle.std.proofs.Common.{◌≡◌, ◌<◌, ◌+◌, ◌++◌, ◌∷◌, [], List, length, refl, sym, ap, subst, ◌∙◌, arith}
use Rattle.std.specs.Prelude.{slice_set}
use Rattle.update_log.specs.declared.span.Span.{Span}
use Rattle.update_log.specs.State.{StreamsState, Next}
use Rattle.update_log.specs.Streams.{AreStreamsOf, extended}
use Rattle.update_log.proofs.Joining.{streams-extended}
use Rattle.update_log.proofs.Keeping.{spans_in, spans-length, spans-set, stream-read}
use Rattle.update_log.proofs.streams.Streams.add.Goals as goal

pub returns-clause-added : goal.returns-clause-added
returns-clause-added c =
    let all = c.self.inside.workers.items in
    let worker = c.next.inside.worker in
    let more = c.next.inside.spans.items in
    let was = c.index_mut-stream.result.now in
    let there : worker < length all = omega (arith, c.self.invariant, c.next.invariant) in
    spans-set all worker c.add.new.self
    ∙ ap (slice_set (spans_in all) worker)
    (c.add.ensures ∙ ap (λ (stream : List Span). stream ++ more) (sym (stream-read all worker was there c.index_mut-stream.ensures.value)))
    ∙ ap (λ (state : StreamsState). extended state.streams (record { worker = worker; spans = more })) c.self.view_is
    ∙ ap (extended c.args.self.now.streams) c.next.view_is

pub returns-clause-commits : goal.returns-clause-commits
returns-clause-commits c commits commit are cuttable fits is =
    let streams = c.args.self.now.streams in
    let counted : length streams ≡ length c.self.inside.workers.items =
    sym (ap (λ (state : StreamsState). length state.streams) c.self.view_is) ∙ spans-length c.self.inside.workers.items in
    let ours : commit.worker ≡ c.next.inside.worker = sym (ap (λ (next : Next). next.worker) (c.next.view_is ∙ is)) in
    let there : commit.worker < length streams = omega (arith, counted, ours, c.self.invariant, c.next.invariant) in
    subst (λ (now : List (List Span)). AreStreamsOf now (commits ++ commit ∷ []))
    (sym (returns-clause-added c ∙ ap (extended streams) is))
    (streams-extended streams commits commit (length commits + 1) there are cuttable fits refl)
