-- What a scan has computed, for each plan of a batch, of rows of one table.
use Rattle.std.specs.Prelude.{◌≡◌, ℕ, ◌+◌, ◌<◌, ◌≤◌, List, [], ◌∷◌, ◌++◌, length, slice_index_or}
use Rattle.rows.specs.declared.value.Value.{Value}
use Rattle.rows.specs.Tables.{Rows, Tables}
use Rattle.plans.specs.declared.block.Block.{Block}
use Rattle.plans.specs.declared.numbering.Numbering.{Numbering}
use Rattle.queries.specs.declared.plan.Plan.{Plan}
use Rattle.plans.specs.declared.scan.Scan.{Scan}
use Rattle.plans.specs.declared.tallies.Tallies.{Tallies}
use Rattle.queries.specs.Answers.{rows_among}
use Rattle.plans.specs.Inner.BlockRows.{rows_of_block}
use Rattle.plans.specs.Inner.Blocks.{IsNumbering}
use Rattle.plans.specs.Inner.Kept.{GroupList, AreKept}
use Rattle.plans.specs.Inner.Numbered.{IsShaped, IsTallied}

-- two plans read the same rows with the same partners, and group them by the same columns
pub record AreAlike (plan other : Plan) : Type 0 where
  pub table : plan.table ≡ other.table
  pub join : plan.join ≡ other.join
  pub groups : plan.groups ≡ other.groups

-- for each plan the number of one that is alike
pub record AreClasses (plans : List Plan) (classes : List ℕ) : Type 0 where
  pub sizes : length classes ≡ length plans
  pub within : (p : ℕ) (n : ℕ) → p < length plans → slice_index_or classes p n < length plans
  pub alike : (p : ℕ) (n : ℕ) (d : Plan) → p < length plans
      → AreAlike (slice_index_or plans (slice_index_or classes p n) d) (slice_index_or plans p d)

-- these are the tallies of a plan over rows of its table, by the numbers of groups among keys; the last keys may have no place yet
pub record IsScanned (tables : Tables) (plan : Plan) (keys : List (List Value)) (rows : Rows) (count : ℕ) (tallies : Tallies) : Type 0 where
  pub before : List (List Value)
  pub more : List (List Value)
  pub split : keys ≡ before ++ more
  pub shaped : IsShaped (length before) count plan.aggregates tallies
  pub tallied : IsTallied plan.groups plan.aggregates before (rows_among tables plan rows) tallies

-- ---- all plans of a batch

-- numbers of the groups for each plan that is the first of its class; a plan that does not group has one group
pub record AreNumberings (plans : List Plan) (numberings : List Numbering) : Type 0 where
  pub sizes : length numberings ≡ length plans
  pub each : (r : ℕ) (d : Numbering) → r < length plans → IsNumbering (slice_index_or numberings r d)
  pub one : (r : ℕ) (d : Numbering) (e : Plan) → r < length plans → (slice_index_or plans r e).groups ≡ []
      → (slice_index_or numberings r d).keys.items ≡ [] ∷ []

-- the tallies of each plan on a table are those of these rows, by the numbers of its class
abbrev pub AreScanned : Tables → List Plan → List ℕ → ℕ → Rows → ℕ → List Numbering → List Tallies → Type 0
AreScanned tables plans classes table rows count numberings tallies =
    (p : ℕ) (n : ℕ) (d : Numbering) (e : Plan) (t : Tallies) → p < length plans → (slice_index_or plans p e).table ≡ table
    → IsScanned tables (slice_index_or plans p e) (slice_index_or numberings (slice_index_or classes p n) d).keys.items rows count
    (slice_index_or tallies p t)

-- what a scan has of these rows of a table
pub record IsScan (tables : Tables) (plans : List Plan) (classes : List ℕ) (table : ℕ) (rows : Rows) (count : ℕ) (scan : Scan) : Type 0
  where
    pub numberings : AreNumberings plans scan.numberings.items
    pub sizes : length scan.tallies.items ≡ length plans
    pub tallies : AreScanned tables plans classes table rows count scan.numberings.items scan.tallies.items

-- the tallies of no rows, before there are keys
pub record AreFirst (plan : Plan) (tallies : Tallies) : Type 0 where
  pub shaped : IsShaped 0 0 plan.aggregates tallies
  pub tallied : IsTallied plan.groups plan.aggregates [] [] tallies

-- the groups of each plan on a table are those of these rows
abbrev pub AreKeptFor : Tables → List Plan → ℕ → Rows → ℕ → List GroupList → Type 0
AreKeptFor tables plans table rows count groups =
    (p : ℕ) (e : Plan) (d : GroupList) → p < length plans → (slice_index_or plans p e).table ≡ table
    → AreKept tables (slice_index_or plans p e) rows count (slice_index_or groups p d)

-- ---- while a block is added

-- the plans before an index have the block's rows, and the others do not have them yet
abbrev pub AreAdded : Tables → List Plan → List ℕ → Block → Rows → ℕ → ℕ → List Numbering → List Tallies → Type 0
AreAdded tables plans classes block rows count i numberings tallies =
    (p : ℕ) (n : ℕ) (d : Numbering) (e : Plan) (t : Tallies) → p < length plans → (slice_index_or plans p e).table ≡ block.table
    → (p < i → IsScanned tables (slice_index_or plans p e) (slice_index_or numberings (slice_index_or classes p n) d).keys.items
    (rows ++ rows_of_block tables block) (count + length block.ids.now) (slice_index_or tallies p t))
    × (i ≤ p → IsScanned tables (slice_index_or plans p e) (slice_index_or numberings (slice_index_or classes p n) d).keys.items
    rows count (slice_index_or tallies p t))
