-- Reading an entry from the front of bytes, and entries that fill bytes.
use Rattle.std.specs.Prelude.{◌≡◌, ℕ, zero, suc, ◌+◌, List, [], ◌∷◌, ◌++◌, length, take, drop, Option, None, Some, slice_index}
use Rattle.std.specs.Prelude.{nat_lt, Bool, ◌==◌, ◌||◌, not, if◌then◌else◌}
use Rattle.std.specs.Option.{option_map}
use Rattle.byteorder.specs.Endian.{big_number}
use Rattle.rows.specs.declared.entry.Entry.{Entry}
use Rattle.rows.specs.declared.entry.Entry.TheVariants.{Insert, Patch, Delete, AddColumn}
use Rattle.rows.specs.declared.entry_ref.EntryRef.{EntryRef}
use Rattle.rows.specs.declared.entry_ref.EntryRef.TheVariants as lent
use Rattle.rows.specs.Limits.{tables_max, row_width_max, octets_max}
use Rattle.rows.specs.declared.kind.Kind.{Kind}
use Rattle.rows.specs.declared.kind.Kind.TheVariants as kinds
use Rattle.rows.specs.Shape.{width_of}
use Rattle.rows.specs.Values.{value_of}
use Rattle.rows.specs.Spelling.{HasSpelling, entry_spelling, insert_code, patch_code, delete_code, add_column_code}

-- the entry that is lent
abbrev pub entry_of : EntryRef → Entry
entry_of (lent.Insert table row bytes) = Insert table row bytes.now
entry_of (lent.Patch table row offset bytes) = Patch table row offset bytes.now
entry_of (lent.Delete table row) = Delete table row
entry_of (lent.AddColumn table default) = AddColumn table default

-- what `read_entry` found: the entry, and how many bytes it takes
abbrev pub seen : EntryRef × ℕ → Entry × ℕ
seen found = (entry_of found.0, found.1)

-- the bytes begin with the spelling of an entry, which takes so many of them
pub record IsSpelledAt (bytes : List ℕ) (found : Entry × ℕ) : Type 0 where
  pub spelled : HasSpelling found.0
  pub size : found.1 ≡ length (entry_spelling found.0)
  pub front : bytes ≡ entry_spelling found.0 ++ drop found.1 bytes

-- an insert after its row: the size in two bytes, and the data
abbrev pub insert_at : ℕ → ℕ → List ℕ → Option (Entry × ℕ)
insert_at table row rest = if nat_lt (length rest) 2 then None else of_size (big_number 2 rest) (drop 2 rest)
  where
    of_size : ℕ → List ℕ → Option (Entry × ℕ)
    of_size size content =
        if (size == 0) || nat_lt row_width_max size || nat_lt (length content) size then None else
        Some (Insert table (record { 0 = row }) (take size content), 12 + size)

-- a patch after its row: the offset in two bytes, the size in two, and the data
abbrev pub patch_at : ℕ → ℕ → List ℕ → Option (Entry × ℕ)
patch_at table row rest =
    if nat_lt (length rest) 4 then None else of_size (big_number 2 rest) (big_number 2 (drop 2 rest)) (drop 4 rest)
  where
    of_size : ℕ → ℕ → List ℕ → Option (Entry × ℕ)
    of_size offset size content =
        if (size == 0) || nat_lt octets_max size || nat_lt row_width_max (offset + size) || nat_lt (length content) size then None else
        Some (Patch table (record { 0 = row }) offset (take size content), 14 + size)

-- whether an entry that begins with this is of a row
abbrev pub is_row_code : ℕ → Bool
is_row_code code = (code == insert_code) || (code == patch_code) || (code == delete_code)

-- an entry after its row, by what it begins with
abbrev pub entry_behind : ℕ → ℕ → ℕ → List ℕ → Option (Entry × ℕ)
entry_behind code table row rest =
    if code == insert_code then insert_at table row rest else
    if code == patch_code then patch_at table row rest else Some (Delete table (record { 0 = row }), 10)

-- the kind that a byte stands for
abbrev pub kind_coded : ℕ → Kind
kind_coded code = if code == 0 then kinds.Int else kinds.Octets code

-- an added column after its table: the kind in one byte, and the value
abbrev pub column_at_front : ℕ → List ℕ → Option (Entry × ℕ)
column_at_front table rest =
    if nat_lt (length rest) 1 || nat_lt octets_max (slice_index rest 0) then None
    else of_kind (kind_coded (slice_index rest 0)) (drop 1 rest)
  where
    of_kind : Kind → List ℕ → Option (Entry × ℕ)
    of_kind kind content =
        if nat_lt (length content) (width_of kind) then None else
        Some (AddColumn table (value_of kind content), 3 + width_of kind)

-- an entry of a row, at the front of the bytes
abbrev pub row_entry_at : List ℕ → Option (Entry × ℕ)
row_entry_at bytes =
    if nat_lt (length bytes) 10 || not (nat_lt (slice_index bytes 1) tables_max) then None else
    entry_behind (slice_index bytes 0) (slice_index bytes 1) (big_number 8 (drop 2 bytes)) (drop 10 bytes)

-- an added column, at the front of the bytes
abbrev pub column_entry_at : List ℕ → Option (Entry × ℕ)
column_entry_at bytes =
    if nat_lt (length bytes) 2 || not (nat_lt (slice_index bytes 1) tables_max) then None else
    column_at_front (slice_index bytes 1) (drop 2 bytes)

-- the entry at the front of the bytes, and how many it takes; none if no entry is spelled there
abbrev pub entry_at : List ℕ → Option (Entry × ℕ)
entry_at bytes =
    if is_row_code (slice_index bytes 0) then row_entry_at bytes else
    if slice_index bytes 0 == add_column_code then column_entry_at bytes else None

-- the list after a first entry
abbrev pub behind : Option (Entry × ℕ) → (ℕ → Option (List Entry)) → Option (List Entry)
behind None others = None
behind (Some found) others = option_map (λ entries. found.0 ∷ entries) (others found.1)

-- the entries that the bytes spell: this many, and all of the bytes; none if they do not
abbrev pub entries_filling : ℕ → List ℕ → Option (List Entry)
entries_filling zero [] = Some []
entries_filling zero (byte ∷ bytes) = None
entries_filling (suc count) bytes = behind (entry_at bytes) (λ len. entries_filling count (drop len bytes))
