-- The kinds are those that a table may have.
use Rattle.std.proofs.Common.{ℕ, ◌<◌, List, [], length, Option, ap, subst}
use Rattle.std.specs.Option.{unwrap_or}
use Rattle.rows.specs.declared.kind.Kind.{Kind}
use Rattle.rows.specs.Tables.{kinds_of}
use Rattle.apply.specs.Partitions.{tables_in}
use Rattle.apply.specs.Inner.Views.{views}
use Rattle.apply.proofs.adding.fits.Goals as goal

pub fits_columns-requires : goal.fits_columns-requires
fits_columns-requires c = c.in-Some.ensures.columns.few

pub returns-in-Some-clause-columns : goal.returns-in-Some-clause-columns
returns-in-Some-clause-columns c fits =
    let all = tables_in (views c.args.partitions.now) in
    let some : 0 < length (kinds_of all c.table.result) =
    subst (λ (kinds : List Kind). 0 < length kinds)
    (ap (λ (found : Option (List Kind)). unwrap_or found []) c.in-Some.ensures.value) c.in-Some.ensures.columns.some in
    subst (λ (table : ℕ). 0 < length (kinds_of all table)) c.table.ensures some
