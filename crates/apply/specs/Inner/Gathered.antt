-- Which rows stand in which partition, and which entries are a partition's.
use Rattle.std.specs.Prelude.{◌≡◌, ◌≢◌, ℕ, ◌%◌, ◌<◌, ◌==◌, List, map, length, None, Bool, true, slice_index_or}
use Rattle.std.specs.List.{filter, flat_map}
use Rattle.std.specs.Option.{option_map_or}
use Rattle.rows.specs.declared.commit.Commit.{Commit}
use Rattle.rows.specs.declared.entry.Entry.{Entry}
use Rattle.rows.specs.declared.row_id.RowId.{RowId}
use Rattle.rows.specs.Entries.{row_of}
use Rattle.rows.specs.Tables.{Tables, shape_in, rows_of, row_at, made}
use Rattle.apply.specs.Orders.{Rising}
use Rattle.apply.specs.Partitions.{tables_in}

-- each partition has tables of the same kinds
abbrev pub AreAlike : List Tables → Type 0
AreAlike partitions = (k : ℕ) (d : Tables) → k < length partitions
    → shape_in (slice_index_or partitions k d) ≡ shape_in (tables_in partitions)

-- and of each table the rows that are its own, by the remainder of their identifiers, which rise
pub record ArePartitions (partitions : List Tables) : Type 0 where
  pub alike : AreAlike partitions
  pub rise : (k table : ℕ) (d : Tables) → k < length partitions → Rising (rows_of (slice_index_or partitions k d) table)
  pub home : (k table row : ℕ) (d : Tables) → k < length partitions → row % length partitions ≢ k
      → row_at (rows_of (slice_index_or partitions k d) table) row ≡ None

-- whether an entry is one of that partition's, of so many: it is of one of its rows, or adds a column, which each partition adds
abbrev pub is_in : ℕ → ℕ → Entry → Bool
is_in partitions partition entry = option_map_or (λ (row : RowId). row.0 % partitions == partition) (row_of entry) true

-- the entries of a partition, in their order
abbrev pub entries_in : ℕ → ℕ → List Entry → List Entry
entries_in partitions partition entries = filter (is_in partitions partition) entries

-- the entries of commits
abbrev pub entries_of : List Commit → List Entry
entries_of commits = flat_map (λ (commit : Commit). commit.entries) commits

-- the tables of each partition, with what an entry makes of them
abbrev pub each_made : Entry → List Tables → List Tables
each_made entry partitions = map (λ (tables : Tables). made tables entry) partitions
