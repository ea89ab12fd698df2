-- A column has 1 to 64 bytes within a row of at most 512.
use Rattle.std.proofs.Common.{arith, rules, length, is_some}
use Rattle.rows.specs.declared.faults.EntryFault.TheVariants.{NotAColumn}
use Rattle.rows.specs.Shape.{column_at}
use Rattle.rows.proofs.EntryFits.{ok-passed}
use Rattle.rows.proofs.Schemas.{column_from-within}
use Rattle.rows.proofs.fitting.patch_fits_table.Goals as goal

pub returns-clause-spelled : goal.returns-clause-spelled
returns-clause-spelled c =
    let columns = c.requires.columns in
    let kinds = c.args.kinds.now in
    let size = length c.args.bytes.now in
    ok-passed c.placed.result (is_some (column_at kinds c.args.offset size)) NotAColumn c.placed.ensures (λ e.
    let span = column_from-within 0 kinds c.args.offset size columns.good e in
    record {
      table_below = c.requires.table;
      row_below = search rules;
      some = span.0;
      few = span.1;
      within = omega (arith, span.2, columns.narrow);
      are_bytes = search rules;
    })
