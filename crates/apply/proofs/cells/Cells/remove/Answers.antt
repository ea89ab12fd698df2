-- The values before and behind it are left.
use Rattle.std.proofs.Common.{rules, ◌≡◌, length, ◌*◌}
use Rattle.apply.proofs.Wide.{numbers-remove, octets-remove}
use Rattle.apply.proofs.cells.Cells.remove.Goals as goal

pub returns-in-Numbers-clause-values : goal.returns-in-Numbers-clause-values
returns-in-Numbers-clause-values c = λ left e.
    rw (c.in-Numbers.is, c.remove.ensures.items) (numbers-remove c.in-Numbers.numbers.items c.args.at)

pub returns-in-Octets-clause-values : goal.returns-in-Octets-clause-values
returns-in-Octets-clause-values c = λ left e.
    let whole : length c.in-Octets.bytes.items ≡ c.args.rows * c.in-Octets.width = search rules in
    rw (c.in-Octets.is, c.remove_bytes.ensures)
    (octets-remove c.in-Octets.width c.args.rows c.args.at left c.in-Octets.bytes.items whole c.requires.within e)
