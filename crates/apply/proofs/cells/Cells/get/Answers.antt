-- The bytes of the row are its value.
use Rattle.std.proofs.Common.{rules}
use Rattle.apply.proofs.Wide.{octets-get}
use Rattle.apply.proofs.cells.Cells.get.Goals as goal

pub returns-in-Some : goal.returns-in-Some
returns-in-Some c =
    let found = octets-get c.in-Octets.width c.args.rows c.args.at c.in-Octets.bytes.items c.requires.within in
    rw c.in-Octets.is (search (rules, found, c.in-Some.ensures))
