-- For each row the chain of the versions that wrote it, each with the row's bytes after it.
use Rattle.std.specs.Prelude.{◌≡◌, ℕ, ◌+◌, ◌-◌, ◌<◌, List, [], ◌∷◌, ◌++◌, length, take, true, false, Option, None, Some, ◌==◌, nat_le}
use Rattle.std.specs.Prelude.{if◌then◌else◌, is_ok}
use Rattle.std.specs.Map.{lookup}
use Rattle.std.specs.List.{list_any, AllByRecursion}
use Rattle.rows.specs.Entries.{table_of}
use Rattle.rows.specs.declared.commit.Commit.{Commit}
use Rattle.rows.specs.declared.entry.Entry.{Entry}
use Rattle.rows.specs.Shape.{Shape}
use Rattle.rows.specs.Tables.{opening}
use Rattle.rows.specs.Commits.{apply_commits}
use Rattle.mvcc.specs.Inner.Columns.{TableColumns, AreColumnsOf, AreLast}
use Rattle.mvcc.specs.Inner.Keys.{is_key_of, names}
use Rattle.mvcc.specs.declared.link.Link.{Link}
use Rattle.mvcc.specs.Inner.Newest.{names_in}
use Rattle.mvcc.specs.Inner.RowBytes.{blank_in, blank_after, bytes_after_one, bytes_after, HaveValues}

-- the link of a commit of that number, where it writes the row, with the row's bytes after it
abbrev pub link_of : ℕ → ℕ → ℕ → Commit → Option (List ℕ) → List Link
link_of table row number commit bytes = if names_in table row commit then record { version = number; bytes = bytes } ∷ [] else []

-- the chain of a row with those bytes, and of its table's blank row, before the commits, the first of which is the next after `before`
abbrev pub chain_behind : ℕ → ℕ → ℕ → List ℕ → Option (List ℕ) → List Commit → List Link
chain_behind table row before blank was [] = []
chain_behind table row before blank was (commit ∷ commits) =
    link_of table row (before + 1) commit (bytes_after table row blank commit.entries was)
    ++ chain_behind table row (before + 1) (blank_after table blank commit.entries) (bytes_after table row blank commit.entries was) commits

-- the chain of a row, by the blank row with which its table was opened
abbrev pub chain_of : ℕ → ℕ → List ℕ → List Commit → List Link
chain_of table row blank commits = chain_behind table row 0 blank None commits

-- the version of the last link; `last` where there is none
abbrev pub newest_from : ℕ → List Link → ℕ
newest_from last [] = last
newest_from last (link ∷ links) = newest_from link.version links

abbrev pub newest_link : List Link → ℕ
newest_link links = newest_from 0 links

-- the bytes of the last link; `last` where there is none
abbrev pub latest_from : Option (List ℕ) → List Link → Option (List ℕ)
latest_from last [] = last
latest_from last (link ∷ links) = latest_from link.bytes links

abbrev pub latest_in : List Link → Option (List ℕ)
latest_in links = latest_from None links

-- the bytes of the last link whose version is at most that one; `was` where there is none
abbrev pub bytes_from : ℕ → Option (List ℕ) → List Link → Option (List ℕ)
bytes_from version was [] = was
bytes_from version was (link ∷ links) = if nat_le link.version version then bytes_from version link.bytes links else was

abbrev pub bytes_at : ℕ → List Link → Option (List ℕ)
bytes_at version links = bytes_from version None links

-- the chain without its last link, where that is of this number
abbrev pub taken_back_at : ℕ → List Link → List Link
taken_back_at number links = if newest_link links == number then take (length links - 1) links else links

-- the chain with what an entry of the commit of this number makes of the last bytes, and of those of the blank row behind them
abbrev pub linked : ℕ → List ℕ → Entry → List Link → List Link
linked number blank entry links =
    taken_back_at number links ++ record { version = number; bytes = bytes_after_one blank entry (latest_in links) } ∷ []

-- the chains of rows, by table and row
abbrev pub Chains : Type 0
Chains = List ((ℕ × ℕ) × List Link)

-- the links of a chain that was looked for; none where it was not found
abbrev pub links_found : Option (List Link) → List Link
links_found None = []
links_found (Some links) = links

-- the chain of a row; without links where there is none
abbrev pub links_at : Chains → ℕ → ℕ → List Link
links_at chains table row = links_found (lookup (is_key_of table row) chains)

-- what a change makes of the chain of an entry's row, and no other chain has changed
abbrev pub Turns : Entry → (List Link → List Link) → Chains → Chains → Type 0
Turns entry change before after = (table row : ℕ)
    → links_at after table row ≡ (if names table row entry then change (links_at before table row) else links_at before table row)

-- the chain of a row, taken back once for each of these entries that is of it
abbrev pub all_taken_back : ℕ → ℕ → ℕ → List Entry → List Link → List Link
all_taken_back number table row [] links = links
all_taken_back number table row (entry ∷ entries) links =
    all_taken_back number table row entries (if names table row entry then taken_back_at number links else links)

-- the commits, and one more of these entries
abbrev pub and_entries : List Commit → List Entry → List Commit
and_entries commits entries = commits ++ record { worker = 0; entries = entries } ∷ []

-- the chains of all rows are those of the commits, in tables that were opened so
abbrev pub AreChains : Shape → List Commit → Chains → Type 0
AreChains shape commits chains =
    (table row : ℕ) → links_at chains table row ≡ chain_of table row (blank_in shape table) commits

-- chains that are those of the commits once the rows of these entries are taken back at the next number; others are already
pub record AreChainsTakenBack (shape : Shape) (commits : List Commit) (entries : List Entry) (chains : Chains) : Type 0 where
  pub back : (table row : ℕ)
      → taken_back_at (length commits + 1) (links_at chains table row) ≡ chain_of table row (blank_in shape table) commits
  pub whole : (table row : ℕ) → list_any (names table row) entries ≡ false
      → links_at chains table row ≡ chain_of table row (blank_in shape table) commits

-- chains and columns that are those of the commits, and entries of tables that are there
pub record AreLinkable (shape : Shape) (commits : List Commit) (entries : List Entry) (tables : List TableColumns) (chains : Chains)
    : Type 0 where
  pub kept : AreChains shape commits chains
  pub columns : AreColumnsOf shape commits tables
  pub there : AllByRecursion (λ entry. table_of entry < length shape) entries

-- commits whose entries are defined where they stand, and add values that columns can have, with the chains of their rows, the
-- columns of their tables and the last commit of each table
pub record AreVersions (shape : Shape) (commits : List Commit) (chains : Chains) (tables : List TableColumns) (numbers : List ℕ)
    : Type 0 where
  pub legal : is_ok (apply_commits (opening shape) commits) ≡ true
  pub valued : HaveValues commits
  pub kept : AreChains shape commits chains
  pub columns : AreColumnsOf shape commits tables
  pub last : AreLast shape commits numbers
