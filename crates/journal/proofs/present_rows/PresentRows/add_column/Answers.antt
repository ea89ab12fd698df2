-- The table's kinds are those that it may have, and no other table's have changed.
use Rattle.std.proofs.Common.{◌≡◌, List, [], ◌∷◌, ◌++◌, Option, Some, true, length, slice_get, refl, sym, ap, subst, ◌∙◌}
use Rattle.std.specs.List.{slice_set}
use Rattle.std.specs.Option.{unwrap_or}
use Rattle.std.proofs.lemmas.List.{length-set}
use Rattle.std.proofs.lemmas.Option.{slice_get_read}
use Rattle.rows.specs.declared.kind.Kind.{Kind}
use Rattle.rows.specs.Entries.{has_room, with_kind}
use Rattle.rows.specs.Shape.{AreColumns}
use Rattle.journal.specs.Inner.Presence.{PresenceState}
use Rattle.journal.proofs.Presence.{some-of, each-at, each-set}
use Rattle.journal.proofs.present_rows.PresentRows.add_column.Goals as goal

pub invariant_of-self-2 : goal.invariant_of-self-2
invariant_of-self-2 c =
    let items = c.self.inside.kinds.items in
    let table = c.args.table in
    let kinds = c.in-Some.kinds.now in
    let there : slice_get items table ≡ Some kinds =
    slice_get_read items (length items) table kinds refl c.in-Some.ensures.item.3.0 c.in-Some.ensures.value in
    let same = ap (λ (present : PresenceState). slice_get present.kinds table) c.self.view_is in
    let room = some-of (slice_get c.args.self.now.kinds table) kinds (λ kinds. has_room kinds c.args.kind ≡ true) c.requires
    (sym same ∙ there) in
    let are = each-at items table kinds c.self.invariant.0 there in
    let may = c.changes_tell_kinds.ensures.room kinds c.args.kind are room in (
      each-set items table c.in_ok-wider.wider c.self.invariant.0 (subst AreColumns (sym c.in_ok-wider.ensures) may),
      c.self.invariant.1 ∙ sym (length-set items table c.in_ok-wider.wider),
    )

pub returns-clause-kinds : goal.returns-clause-kinds
returns-clause-kinds c =
    let items = c.self.inside.kinds.items in
    let table = c.args.table in
    let there : slice_get items table ≡ Some c.in-Some.kinds.now =
    slice_get_read items (length items) table c.in-Some.kinds.now refl c.in-Some.ensures.item.3.0 c.in-Some.ensures.value in
    let found = ap (λ (found : Option (List Kind)). unwrap_or found []) there in
    ap (slice_set items table) (c.in_ok-wider.ensures ∙ ap (λ kinds. kinds ++ c.args.kind ∷ []) (sym found))
    ∙ ap (λ (present : PresenceState). with_kind present.kinds table c.args.kind) c.self.view_is
