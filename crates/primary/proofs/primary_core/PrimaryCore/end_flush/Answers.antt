-- The journal that comes back has the text of what is durable then, where it had that of what was.
use Rattle.std.proofs.Common.{◌≡◌, true, sym, subst, ◌∙◌}
use Rattle.primary.specs.Lending.{HasMorePending}
use Rattle.primary.specs.State.{Core}
use Rattle.primary.proofs.Lending.{ends-written}
use Rattle.primary.proofs.primary_core.PrimaryCore.end_flush.Goals as goal

pub returns-then-taken-clause-written : goal.returns-then-taken-clause-written
returns-then-taken-clause-written g c away begun count lent by write more form written honest runs =
    let store = g.J.JournalStore in
    let parts = c.into_parts-journal.ensures.parts in
    let inside = c.self.inside in
    let now : Core g.row.J.Denot = record { primary = inside.lists; journal = inside.journal; form = inside.form } in
    let text = ends-written store.is_honest store.standing store.fault_count c.texts_grow.ensures.grows begun count lent c.args.done
    now by write
    (subst (λ (core : Core g.row.J.Denot). HasMorePending begun.primary core.primary) (sym c.self.view_is) more)
    (subst (λ (core : Core g.row.J.Denot). begun.form ≡ core.form) (sym c.self.view_is) form) c.self.invariant.form.has written
    (sym parts.2 ∙ c.if-taken.true) (subst (λ journal. store.is_honest journal ≡ true) parts.0 honest) in
    rw (c.acknowledge.ensures, parts.0, parts.1) text
