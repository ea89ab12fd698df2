-- The counts at the base are those of what is durable, since the base is within it.
use Rattle.std.proofs.Common.{◌≡◌, ◌-◌, ◌<◌, ℕ, List, length, map, take, drop, sym, ap, subst, ◌∙◌}
use Rattle.std.specs.Prelude.{IfOk, OnErr}
use Rattle.std.proofs.Math.Seq.{take-take}
use Rattle.update_log.specs.Limits.{want_frames_max}
use Rattle.update_log.specs.Streams.{stream_of, frame_count}
use Rattle.wire.specs.declared.out.Out.{Out}
use Rattle.primary.specs.Sending.{frame_to, wanted}
use Rattle.primary.proofs.lists.Lists.wanted.Goals as goal

pub returns-clause-ok : goal.returns-clause-ok
returns-clause-ok c =
    let inside = c.self.inside in
    let commits = inside.versions.commits in
    let base = inside.tail.base in
    let worker = c.args.worker in
    let from = c.args.from in
    let behind = take want_frames_max (drop from (stream_of (take inside.durable commits) worker)) in
    let outs : ℕ → List Out = λ low. map (frame_to c.args.replica) (drop (low - from) behind) in
    let low : frame_count commits worker base ≡ frame_count (take inside.durable commits) worker base =
    ap (λ cs. length (stream_of cs worker)) (sym (take-take base inside.durable commits c.self.invariant.based)) in
    subst (λ (all : List Out). IfOk c.wanted_outs.result (λ (found : _). found.items ≡ all))
    (ap (λ cs. map (frame_to c.args.replica) (drop (frame_count cs worker base - from)
    (take want_frames_max (drop from (stream_of (take inside.durable cs) worker))))) c.commits.ensures
    ∙ ap outs low ∙ ap (λ p. map (frame_to c.args.replica) (wanted p worker from)) c.self.view_is) c.wanted_outs.ensures.ok

pub returns-clause-err : goal.returns-clause-err
returns-clause-err c =
    let inside = c.self.inside in
    let commits = inside.versions.commits in
    let base = inside.tail.base in
    let worker = c.args.worker in
    let from = c.args.from in
    let behind = take want_frames_max (drop from (stream_of (take inside.durable commits) worker)) in
    let outs : ℕ → List Out = λ low. map (frame_to c.args.replica) (drop (low - from) behind) in
    let low : frame_count commits worker base ≡ frame_count (take inside.durable commits) worker base =
    ap (λ cs. length (stream_of cs worker)) (sym (take-take base inside.durable commits c.self.invariant.based)) in
    subst (λ (all : List Out). OnErr c.wanted_outs.result (0 < length all))
    (ap (λ cs. map (frame_to c.args.replica) (drop (frame_count cs worker base - from)
    (take want_frames_max (drop from (stream_of (take inside.durable cs) worker))))) c.commits.ensures
    ∙ ap outs low ∙ ap (λ p. map (frame_to c.args.replica) (wanted p worker from)) c.self.view_is) c.wanted_outs.ensures.err
