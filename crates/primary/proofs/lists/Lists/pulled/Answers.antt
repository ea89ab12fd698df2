-- The Pieces of the primary's own base.
use Rattle.std.proofs.Common.{◌≡◌, ◌<◌, ℕ, List, length, map, take, drop, sym, ap, subst, ◌∙◌}
use Rattle.std.specs.Prelude.{IfOk, OnErr}
use Rattle.std.proofs.lemmas.List.{length-map}
use Rattle.update_log.specs.Limits.{want_frames_max}
use Rattle.wire.specs.declared.out.Out.{Out}
use Rattle.primary.specs.Inner.Tail.{packet_to}
use Rattle.primary.specs.Sending.{piece_to, pulled}
use Rattle.primary.proofs.Cut.{pulled-is}
use Rattle.primary.proofs.lists.Lists.pulled.Goals as goal

pub returns-clause-ok : goal.returns-clause-ok
returns-clause-ok c =
    let inside = c.self.inside in
    let kept = c.self.invariant in
    let replica = c.args.replica in
    let from = c.args.from in
    subst (λ (all : List Out). IfOk c.pulled_outs.result (λ (found : _). found.items ≡ all))
    (pulled-is inside.versions inside.durable inside.workers inside.failed inside.tail.base c.args.base replica from inside.pieces.items
    c.deref.result.now kept.based kept.spelled c.deref.ensures.value c.if-base-self.false
    ∙ ap (λ p. map (piece_to replica) (pulled p c.args.base from)) c.self.view_is)
    c.pulled_outs.ensures.ok

pub returns-clause-err : goal.returns-clause-err
returns-clause-err c =
    let inside = c.self.inside in
    let kept = c.self.invariant in
    let replica = c.args.replica in
    let from = c.args.from in
    let wanted = take want_frames_max (drop from c.deref.result.now) in
    subst (λ (n : ℕ). OnErr c.pulled_outs.result (0 < n))
    (sym (length-map wanted (packet_to replica))
    ∙ ap length (pulled-is inside.versions inside.durable inside.workers inside.failed inside.tail.base c.args.base replica from
    inside.pieces.items c.deref.result.now kept.based kept.spelled c.deref.ensures.value c.if-base-self.false
    ∙ ap (λ p. map (piece_to replica) (pulled p c.args.base from)) c.self.view_is))
    c.pulled_outs.ensures.err
