-- The values before the row.
use Rattle.std.proofs.Common.{sym}
use Rattle.apply.proofs.Wide.{octets-take}
use Rattle.std.proofs.lemmas.List.{take-map}
use Rattle.rows.specs.declared.value.Value.TheVariants as values
use Rattle.apply.proofs.cells.Cells.truncate.Goals as goal

pub returns-in-Numbers-clause-values : goal.returns-in-Numbers-clause-values
returns-in-Numbers-clause-values c =
    rw (c.in-Numbers.is, c.truncate.ensures.items) (sym (take-map values.Int c.args.at c.in-Numbers.numbers.items))

pub returns-in-Octets-clause-values : goal.returns-in-Octets-clause-values
returns-in-Octets-clause-values c =
    rw (c.in-Octets.is, c.truncate-in-Octets.ensures.items)
    (sym (octets-take c.in-Octets.width c.args.rows c.args.at c.in-Octets.bytes.items c.requires.within))
