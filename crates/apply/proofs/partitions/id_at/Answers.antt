-- Where both ends meet stands the row.
use Rattle.std.proofs.Common.{◌≡◌, ◌+◌, ◌<◌, Some, subst, arith}
use Rattle.rows.specs.Tables.{rows_of}
use Rattle.store.specs.Changes.{id_in}
use Rattle.apply.specs.Orders.{place_in}
use Rattle.apply.specs.Partitions.{tables_in}
use Rattle.apply.specs.Inner.Views.{views}
use Rattle.apply.proofs.Placed.{place-none, id-between, above-before}
use Rattle.apply.proofs.Splits.{partitions-rise}
use Rattle.apply.proofs.Viewed.{place-last, views-length}
use Rattle.apply.proofs.partitions.id_at.Goals as goal

pub loop-low-init : goal.loop-low-init
loop-low-init c =
    let partitions = views c.args.partitions.now in
    let rows = rows_of (tables_in partitions) c.args.table in
    let last = place-last partitions c.args.table (c.greatest-high.result + 1) c.requires.partitions
    (λ k d lt. c.greatest-high.ensures k d (omega (arith, lt, views-length c.args.partitions.now))) in
    record {
      below = omega (arith, place-none rows);
      within = omega (arith, last, c.requires.within);
      order = omega arith;
    }

found : (c : goal.After-loop-low) → Some c.loop-low.low ≡ id_in (rows_of (tables_in (views c.args.partitions.now)) c.args.table) c.args.i
found c =
    let partitions = views c.args.partitions.now in
    let rows = rows_of (tables_in partitions) c.args.table in
    let meet : c.loop-low.high ≡ c.loop-low.low = omega (arith, c.loop-low.invariant.order, c.loop-low-test.false) in
    id-between rows c.args.i c.loop-low.low (partitions-rise partitions c.requires.partitions c.args.table) c.loop-low.invariant.below
    (subst (λ high. c.args.i < place_in rows (high + 1)) meet c.loop-low.invariant.within)

pub returns-clause-value : goal.returns-clause-value
returns-clause-value c = found c

pub returns-clause-rises : goal.returns-clause-rises
returns-clause-rises c =
    let partitions = views c.args.partitions.now in
    above-before (rows_of (tables_in partitions) c.args.table) c.args.i c.loop-low.low
    (partitions-rise partitions c.requires.partitions c.args.table) (found c)
