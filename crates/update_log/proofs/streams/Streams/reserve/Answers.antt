-- The streams stay, and the worker's has room for the frames.
use Rattle.std.proofs.Common.{◌<◌, ◌≤◌, ℕ, List, length, sym, ap, subst, ◌∙◌, arith}
use Rattle.update_log.specs.declared.span.Span.{Span}
use Rattle.update_log.specs.State.{StreamsState, Next}
use Rattle.update_log.proofs.Keeping.{spans-stay, room-set}
use Rattle.update_log.proofs.streams.Streams.reserve.Goals as goal

pub returns-in_err-spans-clause-same : goal.returns-in_err-spans-clause-same
returns-in_err-spans-clause-same c =
    spans-stay c.self.inside.workers.items c.args.worker c.index_mut-stream.result.now c.reserve.new.self
    c.index_mut-stream.ensures.value c.reserve.ensures.same
    ∙ ap (λ (state : StreamsState). state.streams) c.self.view_is

pub returns-clause-same : goal.returns-clause-same
returns-clause-same c =
    spans-stay c.self.inside.workers.items c.args.worker c.index_mut-stream.result.now c.reserve.new.self
    c.index_mut-stream.ensures.value c.reserve.ensures.same
    ∙ ap (λ (state : StreamsState). state.streams) c.self.view_is

pub returns-clause-frames : goal.returns-clause-frames
returns-clause-frames c =
    let next : List Span → Next = λ spans. record { worker = c.args.worker; spans = spans } in
    ap next c.in_ok-spans.ensures.spans

pub returns-clause-room : goal.returns-clause-room
returns-clause-room c =
    let all = c.self.inside.workers.items in
    let worker = c.args.worker in
    let there : worker < length all = omega (arith, c.self.invariant, c.requires.cuttable.worker_below) in
    subst (λ (room : ℕ). length c.in_ok-spans.spans.items ≤ room) (sym (room-set all worker c.reserve.new.self there))
    c.in_ok-spans.ensures.room
