-- The row's partition has what all have of it.
use Rattle.std.proofs.Common.{◌≡◌, ◌%◌, length, [], sym, ap, ◌∙◌, get_or, slice_get, arith}
use Rattle.std.specs.Option.{is_some, option_map}
use Rattle.rows.specs.Tables.{Tables, rows_of, row_at}
use Rattle.apply.specs.Partitions.{tables_in}
use Rattle.apply.specs.Inner.Views.{views}
use Rattle.apply.proofs.Splits.{partitions-row}
use Rattle.apply.proofs.Viewed.{views-get, views-length}
use Rattle.apply.proofs.partitions.find.Goals as goal
use Rattle.apply.proofs.partitions.find.Goals.{After-find}

own : (c : After-find)
    → get_or (views c.args.partitions.now) c.home_of-partition.result [] ≡ c.index-partitions-partition.result.tables.items
own c =
    views-get c.args.partitions.now c.home_of-partition.result c.index-partitions-partition.result [] c.home_of-partition.ensures.within
    c.index-partitions-partition.is

same : (c : After-find) → row_at (rows_of (tables_in (views c.args.partitions.now)) c.args.table) c.args.row
    ≡ row_at (rows_of c.index-partitions-partition.result.tables.items c.args.table) c.args.row
same c =
    let partitions = c.args.partitions.now in
    let k = c.home_of-partition.result in
    let many = views-length partitions in
    let of : c.args.row % length (views partitions) ≡ k = ap (λ n. c.args.row % n) many ∙ sym c.home_of-partition.ensures.value in
    partitions-row (views partitions) c.args.table c.args.row k [] c.requires.partitions of
    (omega (arith, c.home_of-partition.ensures.within, many))
    ∙ ap (λ (tables : Tables). row_at (rows_of tables c.args.table) c.args.row) (own c)

pub returns-in-Some-clause-found : goal.returns-in-Some-clause-found
returns-in-Some-clause-found c = c.in-Some.ensures.found ∙ sym (ap is_some (same (goal.at.returns-in-Some-clause-found c).After-find))

pub returns-in-Some-clause-values : goal.returns-in-Some-clause-values
returns-in-Some-clause-values c =
    let at = (goal.at.returns-in-Some-clause-values c).After-find in
    ap (λ (tables : Tables). option_map (λ found. found.1) (slice_get (rows_of tables c.args.table) c.in-Some.position)) (own at)
    ∙ c.in-Some.ensures.values ∙ sym (same at)

pub returns-in-None-clause-found : goal.returns-in-None-clause-found
returns-in-None-clause-found c = c.in-None.ensures.found ∙ sym (ap is_some (same (goal.at.returns-in-None-clause-found c).After-find))
