-- Each frame of the durable list is one of all commits.
use Rattle.std.proofs.Common.{◌≡◌, length, take, sym, ap, subst, arith}
use Rattle.std.proofs.lemmas.List.{length-map}
use Rattle.std.specs.List.{AllByRecursion}
use Rattle.rows.specs.Shape.{shape_of, AreTables}
use Rattle.update_log.specs.Frames.{IsSendable}
use Rattle.update_log.specs.Streams.{stream_of}
use Rattle.wire.specs.Spelling.{HasDatagramSpelling, spelling}
use Rattle.primary.specs.Sending.{pieces_from, pieces_of_base}
use Rattle.primary.proofs.Cut.{pieces-durable, pieces-spelled}
use Rattle.primary.proofs.Elements.{all-front}
use Rattle.primary.proofs.Streams.{stream-front, stream-sendable}
use Rattle.primary.proofs.lists.Lists.keeps_legal.Goals as goal

pub returns-clause-sendable : goal.returns-clause-sendable
returns-clause-sendable c worker =
    let inside = c.self.inside in
    let kept = c.self.invariant in
    let commits = inside.versions.commits in
    let begins = stream-front worker inside.durable commits in
    rw (← c.self.view_is)
    (all-front IsSendable (stream_of (take inside.durable commits) worker) begins.0
    (subst (AllByRecursion IsSendable) begins.1
    (stream-sendable c.one_cut.ensures.sendable inside.workers commits worker kept.few_workers kept.each kept.records kept.numbered)))

pub returns-clause-pieces_spelled : goal.returns-clause-pieces_spelled
returns-clause-pieces_spelled c =
    let inside = c.self.inside in
    let kept = c.self.invariant in
    let shape = shape_of inside.versions.schema in
    let commits = inside.versions.commits in
    let base = inside.tail.base in
    let same : pieces_of_base shape (take inside.durable commits) base ≡ pieces_of_base shape commits base =
    ap (pieces_from base 0) (pieces-durable shape commits inside.durable base kept.based) in
    rw (← c.self.view_is)
    (subst (AllByRecursion HasDatagramSpelling) (sym same)
    (pieces-spelled c.pieces_are_cut.ensures.cut c.images_rebuild_tables.ensures.spelled shape commits base
    (subst (λ schema. AreTables (shape_of schema)) c.schema.ensures c.keeps_limits.ensures) kept.records
    (omega (arith, kept.based, kept.within, kept.numbered.commits_below))
    (omega (arith, ap length kept.spelled, length-map (pieces_of_base shape commits base) spelling, ap length c.as_slice.ensures.value))))
