-- The value stands at its place.
use Rattle.std.proofs.Common.{rules, ◌≡◌, ◌+◌, length, take, ℕ, ◌*◌, List, arith}
use Rattle.apply.proofs.Wide.{numbers-insert, octets-insert}
use Rattle.apply.proofs.cells.Cells.insert.Goals as goal

pub returns-in-Numbers-clause-values : goal.returns-in-Numbers-clause-values
returns-in-Numbers-clause-values c =
    let put = numbers-insert c.in-Numbers.numbers.items c.args.at c.read_i64.result in
    rw (c.in-Numbers.is, c.insert_number.ensures) (search (rules, put, c.read_i64.ensures))

pub returns-in-Octets-clause-values : goal.returns-in-Octets-clause-values
returns-in-Octets-clause-values c =
    let whole : length c.in-Octets.bytes.items ≡ c.args.rows * c.in-Octets.width = search rules in
    let value : List ℕ = take c.in-Octets.width c.args.value.now in
    let wide : length value ≡ c.in-Octets.width = search rules in
    rw (c.in-Octets.is, c.insert_bytes.ensures)
    (octets-insert c.in-Octets.width c.args.rows c.args.at (c.args.rows + 1) c.in-Octets.bytes.items value whole wide c.requires.within
    (omega arith))
