-- The laws of one entry, of `rows`.
use Rattle.rows.specs.EntryLaws.{EntryIsMade, FitsWithin, EntryLeavesRows, ReplacedTable, OtherTables}
use Rattle.rows.specs.Laws.{EntryTellsKinds}

pub record AreEntryLaws : Type 0 where
  pub made : EntryIsMade
  pub within : FitsWithin
  pub kinds : EntryTellsKinds
  pub rows : EntryLeavesRows
  pub replaced : ReplacedTable
  pub others : OtherTables
