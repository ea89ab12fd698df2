-- The row of an entry that is defined is as it leaves it.
use Rattle.std.proofs.Common.{◌≡◌, ℕ, ◌<◌, Bool, true, false, not, length, refl, sym, subst}
use Rattle.std.proofs.Math.Bool.{beq}
use Rattle.journal.proofs.Presence.{row-applied, row-same, fits-within}
use Rattle.journal.proofs.present_rows.PresentRows.change_row.Goals as goal

bool_same : (left there : Bool) → not (beq left there) ≡ false → left ≡ there
bool_same true true e = refl
bool_same false false e = refl
bool_same true false e = absurd cc
bool_same false true e = absurd cc

pub contains-there-requires : goal.contains-there-requires
contains-there-requires c =
    subst (λ (table : ℕ). table < length c.args.self.now.kinds) (sym c.table-table.ensures)
    (fits-within c.args.self.now.kinds c.args.entry.now c.requires.fits)

pub set-requires : goal.set-requires
set-requires c =
    subst (λ (table : ℕ). table < length c.args.self.now.kinds) (sym c.table-table.ensures)
    (fits-within c.args.self.now.kinds c.args.entry.now c.requires.fits)

pub returns-in_ok-set : goal.returns-in_ok-set
returns-in_ok-set c =
    row-applied c.changes_tell_kinds.ensures.entry c.entries_are_defined_one_by_one.ensures.presence c.args.self.now c.set.new.self
    c.args.entry.now c.table-table.result c.args.row c.contains-there.result c.leaves_row-left.result
    c.table-table.ensures c.requires.row c.contains-there.ensures c.leaves_row-left.ensures
    c.requires.fits (sym c.if-not-is_possible.ensures) c.in_ok-set.ensures.kinds c.in_ok-set.ensures.rows

pub returns-else-left-there : goal.returns-else-left-there
returns-else-left-there c =
    let same : c.leaves_row-left.result ≡ c.contains-there.result = bool_same _ _ c.if-left-there.false in
    row-applied c.changes_tell_kinds.ensures.entry c.entries_are_defined_one_by_one.ensures.presence c.args.self.now c.args.self.now
    c.args.entry.now c.table-table.result c.args.row c.contains-there.result c.leaves_row-left.result
    c.table-table.ensures c.requires.row c.contains-there.ensures c.leaves_row-left.ensures
    c.requires.fits (sym c.if-not-is_possible.ensures) refl
    (row-same c.args.self.now.rows c.table-table.result c.args.row.0 c.contains-there.result c.leaves_row-left.result
    c.contains-there.ensures same)
