-- The row of a plan, by its place in a store and that of the row that it is joined with.
use Rattle.std.specs.Prelude.{ℕ, List, [], Option, None, Some}
use Rattle.std.specs.Option.{unwrap_or}
use Rattle.rows.specs.declared.value.Value.{Value}
use Rattle.plans.specs.declared.row_place.RowPlace.{RowPlace}
use Rattle.queries.specs.Answers.{JoinedRow}

module _ {P : Type 0} where
  -- the values of the row that is joined, by what a store has at each place
  abbrev pub joined_at : (ℕ → P → Option (List Value)) → Option (ℕ × P) → List Value
  joined_at values None = []
  joined_at values (Some other) = unwrap_or (values other.0 other.1) []

  -- the row at its places
  abbrev pub row_at_place : (ℕ → P → Option (List Value)) → RowPlace P → JoinedRow
  row_at_place values row = record { own = unwrap_or (values row.table row.place) []; joined = joined_at values row.joined }
