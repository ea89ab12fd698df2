-- A column for which there is room has 1 to 64 bytes.
use Rattle.std.proofs.Common.{ap, ◌∙◌}
use Rattle.rows.specs.Shape.{is_good}
use Rattle.rows.specs.declared.faults.EntryFault.TheVariants.{WrongSize}
use Rattle.rows.specs.Entries.{has_room}
use Rattle.rows.specs.Values.{kind_of}
use Rattle.rows.proofs.EntryFits.{ok-passed}
use Rattle.rows.proofs.Widening.{room-parts}
use Rattle.rows.proofs.fitting.column_fits_table.Goals as goal

pub returns-clause-spelled : goal.returns-clause-spelled
returns-clause-spelled c =
    let kinds = c.args.kinds.now in
    let kind = kind_of c.args.default in
    ok-passed c.addable.result (has_room kinds kind) WrongSize c.addable.ensures (λ e.
    let room = room-parts kinds kind e in
    record {
      table_below = c.requires.table;
      value = c.kind.ensures.good (ap is_good c.kind.ensures.kind ∙ room.0);
    })
