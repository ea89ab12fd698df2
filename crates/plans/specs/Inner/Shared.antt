-- What a block has for all plans that are alike.
use Rattle.std.specs.Prelude.{◌≡◌, ℕ, ◌<◌, List, length, Option, None, IfSome, slice_index_or}
use Rattle.std.specs.List.{filter_map}
use Rattle.std.specs.Option.{option_map}
use Rattle.rows.specs.declared.value.Value.{Value}
use Rattle.rows.specs.Tables.{Tables}
use Rattle.queries.specs.declared.aggregate.Aggregate.{Aggregate}
use Rattle.plans.specs.declared.block.Block.{Block}
use Rattle.plans.specs.declared.cells.Cells.{Cells}
use Rattle.queries.specs.declared.plan.Join.{Join}
use Rattle.queries.specs.declared.plan.Plan.{Plan}
use Rattle.plans.specs.declared.shared_rows.SharedRows.{SharedRows}
use Rattle.queries.specs.Answers.{JoinedRow, joined_with, values_in}
use Rattle.plans.specs.Inner.BlockRows.{rows_of_block}
use Rattle.plans.specs.Inner.Numbered.{AreNumbers}
use Rattle.plans.specs.Inner.Partnered.{joined_rows, joined_table, AreSound, AreFilled, HasKind, IsColumnAt}
use Rattle.plans.specs.Inner.Selections.{column_taken}

-- the rows that a plan may take of a block: each with the row that it is joined with
abbrev pub rows_taken : Tables → Plan → Block → List JoinedRow
rows_taken tables plan block = filter_map (λ row. joined_with tables plan.join row.1) (rows_of_block tables block)

-- the table that a plan joins, if it does
abbrev pub other_table : Plan → Option ℕ
other_table plan = option_map (λ (join : Join). join.table) plan.join

-- what is shared are these rows, and the numbers of their groups among keys
pub record IsShared {P : Type 0} (tables : Tables) (values : ℕ → P → Option (List Value)) (block : Block) (plan : Plan)
    (keys : List (List Value)) (shared : SharedRows P) : Type 0 where
  pub table : joined_table shared.partners ≡ other_table plan
  pub sound : AreSound tables values block shared.partners
  pub rows : joined_rows tables values block shared.partners ≡ rows_taken tables plan block
  pub filled : AreFilled (joined_rows tables values block shared.partners) shared.filled
  pub numbers : AreNumbers keys plan.groups (joined_rows tables values block shared.partners) shared.numbers.items

-- nothing is shared yet
pub record AreNoneShared {P : Type 0} (count : ℕ) (shared : List (Option (SharedRows P))) : Type 0 where
  pub sizes : length shared ≡ count
  pub none : (r : ℕ) (d : Option (SharedRows P)) → r < count → slice_index_or shared r d ≡ None

-- ---- the columns of aggregates

-- a table, or the one that is joined, has the column of an aggregate
abbrev pub HasInputKind : Tables → ℕ → Option ℕ → Aggregate → Type 0
HasInputKind tables table other aggregate = IfSome (column_taken aggregate) (HasKind tables table other)

abbrev pub HaveInputKinds : Tables → ℕ → Option ℕ → List Aggregate → Type 0
HaveInputKinds tables table other aggregates =
    (k : ℕ) (d : Aggregate) → k < length aggregates → HasInputKind tables table other (slice_index_or aggregates k d)

-- at a place there is the column of an aggregate, with its values of rows
abbrev pub IsInputOfRows : List Cells → ℕ → List JoinedRow → Aggregate → Type 0
IsInputOfRows cells place rows aggregate =
    IfSome (column_taken aggregate) (λ column. IsColumnAt cells place (values_in column rows))
