-- The first pending commits are durable.
use Rattle.std.proofs.Common.{◌≡◌, length, drop, min, sym, ap, ◌∙◌}
use Rattle.primary.specs.State.{Primary}
use Rattle.primary.proofs.Flushing.{flushed_is}
use Rattle.primary.proofs.lists.Lists.acknowledge.Goals as goal

pub returns : goal.returns
returns c =
    let inside = c.self.inside in
    let moved : c.min-moved.result ≡ min c.args.count (length (drop inside.durable inside.versions.commits)) =
    c.min-moved.ensures ∙ ap (min c.args.count) c.pending.ensures
    ∙ ap (λ (p : Primary). min c.args.count (length p.pending)) (sym c.self.view_is) in
    rw (← c.self.view_is) (flushed_is inside.versions inside.durable c.args.count c.min-moved.result inside.workers inside.failed
    inside.tail.base moved)
