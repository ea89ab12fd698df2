-- A row of 1 to 16 columns has 1 to 512 bytes.
use Rattle.std.proofs.Common.{◌==◌, arith, rules, length}
use Rattle.std.proofs.lemmas.Bool.{eqb-true}
use Rattle.rows.specs.declared.faults.EntryFault.TheVariants.{WrongSize}
use Rattle.rows.specs.Shape.{row_width}
use Rattle.rows.proofs.EntryFits.{ok-passed}
use Rattle.rows.proofs.Schemas.{length-le-row_width}
use Rattle.rows.proofs.fitting.insert_fits_table.Goals as goal

pub returns-clause-spelled : goal.returns-clause-spelled
returns-clause-spelled c =
    let columns = c.requires.columns in
    let kinds = c.args.kinds.now in
    let size = length c.args.bytes.now in
    ok-passed c.sized.result (size == row_width kinds) WrongSize c.sized.ensures (λ e.
    let same = eqb-true size (row_width kinds) e in
    record {
      table_below = c.requires.table;
      row_below = search rules;
      some = omega (arith, same, columns.some, length-le-row_width kinds columns.good);
      few = omega (arith, same, columns.narrow);
      are_bytes = search rules;
    })
