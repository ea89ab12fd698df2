-- Whether a row is there after entries, derived from the entries alone.
use Rattle.std.specs.Prelude.{ℕ, List, [], ◌∷◌, Bool, true, false, not, if◌then◌else◌}
use Rattle.rows.specs.declared.entry.Entry.{Entry}
use Rattle.rows.specs.declared.entry.Entry.TheVariants.{Insert, Patch, Delete, AddColumn}
use Rattle.rows.specs.Commits.{is_of}

-- whether a row of an entry is as the entry needs it, by whether it is there; a column is added whether it is there or not
abbrev pub stands_for : Entry → Bool → Bool
stands_for (Insert table row bytes) there = not there
stands_for (Patch table row offset bytes) there = there
stands_for (Delete table row) there = there
stands_for (AddColumn table default) there = true

-- whether a row of an entry is there after it, by whether it was there
abbrev pub left_by : Entry → Bool → Bool
left_by (Insert table row bytes) there = true
left_by (Patch table row offset bytes) there = there
left_by (Delete table row) there = false
left_by (AddColumn table default) there = there

-- whether a row is there after an entry, by whether it was there
abbrev pub is_there_after_one : ℕ → ℕ → Entry → Bool → Bool
is_there_after_one table row entry there = if is_of table row entry then left_by entry there else there

-- whether a row is there after entries that are defined one after the other, by whether it was there
abbrev pub is_there_after : ℕ → ℕ → List Entry → Bool → Bool
is_there_after table row [] there = there
is_there_after table row (entry ∷ entries) there = is_there_after table row entries (is_there_after_one table row entry there)
