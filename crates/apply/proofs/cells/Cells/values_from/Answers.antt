-- The values from the row on, and as many of these as are asked for.
use Rattle.std.proofs.Common.{rules, ◌≡◌, ◌*◌, length, take, drop}
use Rattle.apply.proofs.Lent.{lends-numbers, lends-enough, lends-octets}
use Rattle.apply.proofs.cells.Cells.values_from.Goals as goal

pub split_at-requires-in-Octets-2 : goal.split_at-requires-in-Octets-2
split_at-requires-in-Octets-2 c =
    let whole : length c.in-Octets.bytes.items ≡ c.args.rows * c.in-Octets.width = search rules in
    let behind : c.split_at-in-Octets.result.1.now ≡ drop (c.args.from * c.in-Octets.width) c.in-Octets.bytes.items = search rules in
    lends-enough c.in-Octets.width c.args.rows c.args.from c.args.count c.in-Octets.bytes.items whole c.requires.within
    c.split_at-in-Octets.result.1.now behind

pub returns-in-Numbers : goal.returns-in-Numbers
returns-in-Numbers c =
    let lent : c.split_at-in-Numbers.result.0.now ≡ take c.args.count (drop c.args.from c.in-Numbers.numbers.items) = search rules in
    rw c.in-Numbers.is (lends-numbers c.in-Numbers.numbers.items c.split_at-in-Numbers.result.0.now c.args.from c.args.count lent)

pub returns-in-Octets : goal.returns-in-Octets
returns-in-Octets c =
    let whole : length c.in-Octets.bytes.items ≡ c.args.rows * c.in-Octets.width = search rules in
    let lent : c.split_at-in-Octets-2.result.0.now
    ≡ take (c.args.count * c.in-Octets.width) (drop (c.args.from * c.in-Octets.width) c.in-Octets.bytes.items) = search rules in
    rw c.in-Octets.is (lends-octets c.in-Octets.width c.args.rows c.args.from c.args.count c.in-Octets.bytes.items whole
    c.requires.within c.split_at-in-Octets-2.result.0.now lent)
