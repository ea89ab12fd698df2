-- A column that fits has room, and is added.
use Rattle.std.proofs.Common.{◌≡◌, true, slice_get, is_ok, sym, ap, subst, ◌∙◌}
use Rattle.std.specs.Prelude.{IsSomeAnd}
use Rattle.rows.specs.declared.entry.Entry.{Entry}
use Rattle.rows.specs.declared.entry.Entry.TheVariants.{AddColumn}
use Rattle.rows.specs.declared.kind.Kind.{Kind}
use Rattle.rows.specs.Entries.{fitting, has_room, with_kind}
use Rattle.rows.specs.Tables.{apply_entry}
use Rattle.journal.specs.Inner.Presence.{IsApplied}
use Rattle.journal.proofs.Presence.{column-applied, fits-room}
use Rattle.journal.proofs.present_rows.PresentRows.apply_one.Goals as goal

pub add_column-requires : goal.add_column-requires
add_column-requires c =
    let kinds = c.args.self.now.kinds in
    let table = c.in-AddColumn.table in
    let fits : is_ok (fitting kinds (AddColumn table c.in-AddColumn.default)) ≡ true =
    ap (λ (entry : Entry). is_ok (fitting kinds entry)) (sym c.in-AddColumn.is) ∙ sym c.if-not-fits.ensures in
    subst (λ (kind : Kind). IsSomeAnd (slice_get kinds table) (λ kinds. has_room kinds kind ≡ true)) (sym c.kind.ensures.kind)
    (fits-room (slice_get kinds table) c.in-AddColumn.default fits)

pub returns-in_ok-add_column-in-AddColumn : goal.returns-in_ok-add_column-in-AddColumn
returns-in_ok-add_column-in-AddColumn c tables is =
    let kinds = c.args.self.now.kinds in
    let table = c.in-AddColumn.table in
    let default = c.in-AddColumn.default in
    let fits : is_ok (fitting kinds (AddColumn table default)) ≡ true =
    ap (λ (entry : Entry). is_ok (fitting kinds entry)) (sym c.in-AddColumn.is) ∙ sym c.if-not-fits.ensures in
    subst (λ (entry : Entry). IsApplied true (apply_entry tables entry) c.add_column.new.self) (sym c.in-AddColumn.is)
    (column-applied c.changes_tell_kinds.ensures.entry c.entries_are_defined_one_by_one.ensures.presence c.args.self.now
    c.add_column.new.self table default fits
    (c.in_ok-add_column-in-AddColumn.ensures.kinds ∙ ap (with_kind kinds table) c.kind.ensures.kind)
    c.in_ok-add_column-in-AddColumn.ensures.rows tables is)
