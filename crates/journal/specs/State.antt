-- Journals in memory and in files, as their callers see them.
use Rattle.std.specs.Prelude.{ℕ, List, Bool}

-- a journal in memory
pub record JournalState : Type 0 where
  pub bytes : List ℕ
  -- how many more bytes it can take without memory
  pub room : ℕ

-- a journal in a file
pub record FileState : Type 0 where
  -- those that are known to stand, as they were synced
  pub bytes : List ℕ
  -- what calls that failed left after them: in the file, and among what was synced, which a loss of power may bring back
  pub left_behind : List ℕ
  -- whether it appends nothing until what a call left is cleared away
  pub unsettled : Bool
  pub faults : ℕ
