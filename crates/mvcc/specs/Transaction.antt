-- A transaction before its commit: the version that it reads, and its entries in the order of its calls.
use Rattle.std.specs.Prelude.{ℕ, List}
use Rattle.rows.specs.declared.entry.Entry.{Entry}

-- a transaction: the version that it reads, and its entries
pub record Transaction : Type 0 where
  pub snapshot : ℕ
  pub entries : List Entry
