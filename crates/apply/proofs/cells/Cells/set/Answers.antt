-- The value stands in the other's place.
use Rattle.std.proofs.Common.{rules, ◌≡◌, length, take, ℕ, ◌*◌, List}
use Rattle.apply.proofs.Wide.{octets-set}
use Rattle.std.proofs.lemmas.List.{map-set}
use Rattle.rows.specs.declared.value.Value.TheVariants as values
use Rattle.apply.proofs.cells.Cells.set.Goals as goal

pub returns-in-Numbers-clause-values : goal.returns-in-Numbers-clause-values
returns-in-Numbers-clause-values c =
    let put = map-set values.Int c.in-Numbers.numbers.items c.args.at c.read_i64.result in
    rw c.in-Numbers.is (search (rules, put, c.read_i64.ensures))

pub returns-in-Octets-clause-values : goal.returns-in-Octets-clause-values
returns-in-Octets-clause-values c =
    let whole : length c.in-Octets.bytes.items ≡ c.args.rows * c.in-Octets.width = search rules in
    let value : List ℕ = take c.in-Octets.width c.args.value.now in
    let wide : length value ≡ c.in-Octets.width = search rules in
    rw (c.in-Octets.is, c.write_bytes.ensures, wide)
    (octets-set c.in-Octets.width c.args.rows c.args.at c.in-Octets.bytes.items value whole wide c.requires.within)
