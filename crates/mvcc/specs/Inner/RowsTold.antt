-- Of the rows that entries wrote, whether each is there after them.
use Rattle.std.specs.Prelude.{ℕ, ◌≡◌, List, Bool, Option}
use Rattle.std.specs.Option.{unwrap_or}
use Rattle.std.specs.Map.{lookup}
use Rattle.rows.specs.declared.entry.Entry.{Entry}
use Rattle.rows.specs.Tables.{is_row_at}
use Rattle.mvcc.specs.Inner.Keys.{is_key_of}
use Rattle.rows.specs.Presence.{is_there_after}
use Rattle.mvcc.specs.VersionList.{VersionList, tables_at}

-- rows, by table and identifier, and whether each is there
abbrev pub Told : Type 0
Told = List ((ℕ × ℕ) × Bool)

-- whether a row is there; none where nothing is told of it
abbrev pub told_of : Told → ℕ → ℕ → Option Bool
told_of told table row = lookup (is_key_of table row) told

-- whether a row is there that was there or not before
abbrev pub there_in : Told → ℕ → ℕ → Bool → Bool
there_in told table row was = unwrap_or (told_of told table row) was

-- each row is told as the entries leave it, on the rows at that version
pub record IsToldAfter (versions : VersionList) (version : ℕ) (entries : List Entry) (told : Told) : Type 0 where
  pub each : (table row : ℕ) → there_in told table row (is_row_at (tables_at versions version) table row) ≡ is_there_after table row entries
      (is_row_at (tables_at versions version) table row)
