-- Which of a list of entries tell of each row, by their indices in the list: some of those of the row, and enough of
-- them that they make of the row what all entries make of it, in tables of any shape.
use Rattle.std.specs.Prelude.{◌≡◌, ℕ, ◌<◌, List, [], ◌∷◌, length, Bool, true, false, Option, None, Some, ◌&&◌, ◌==◌, not, slice_get}
use Rattle.std.specs.List.{AllByRecursion, filter}
use Rattle.std.specs.Map.{lookup}
use Rattle.rows.specs.declared.entry.Entry.{Entry}
use Rattle.rows.specs.declared.entry.Entry.TheVariants.{Insert, Patch, Delete, AddColumn}
use Rattle.rows.specs.declared.value.Value.{Value}
use Rattle.rows.specs.Shape.{Shape}
use Rattle.mvcc.specs.Inner.Keys.{is_key_of}
use Rattle.rows.specs.RowAfter.{row_after_fit}

-- the indices of entries, by table and row
abbrev pub RowIndices : Type 0
RowIndices = List ((ℕ × ℕ) × List ℕ)

-- the indices of a row
abbrev pub indices_at : RowIndices → ℕ → ℕ → List ℕ
indices_at rows table row = or_none (lookup (is_key_of table row) rows)
  where
    or_none : Option (List ℕ) → List ℕ
    or_none None = []
    or_none (Some indices) = indices

-- the entries at these indices
abbrev pub picked : List Entry → List ℕ → List Entry
picked entries [] = []
picked entries (index ∷ indices) = before (slice_get entries index) (picked entries indices)
  where
    before : Option Entry → List Entry → List Entry
    before None others = others
    before (Some entry) others = entry ∷ others

-- whether an entry is a patch of the bytes from `start` on, that many
abbrev pub is_patch_of : Entry → ℕ → ℕ → Bool
is_patch_of (Insert table row bytes) start size = false
is_patch_of (Patch table row offset bytes) start size = (start == offset) && (size == length bytes)
is_patch_of (Delete table row) start size = false
is_patch_of (AddColumn table default) start size = false

-- whether an entry leaves nothing of an earlier one of its row: a delete of any, a patch of a patch of the same bytes
abbrev pub supersedes : Entry → Entry → Bool
supersedes (Insert table row bytes) earlier = false
supersedes (Patch table row offset bytes) earlier = is_patch_of earlier offset (length bytes)
supersedes (Delete table row) earlier = true
supersedes (AddColumn table default) earlier = false

-- whether an entry leaves nothing of the one at that index
abbrev pub is_superseded : List Entry → Entry → ℕ → Bool
is_superseded entries entry index = or_not (slice_get entries index)
  where
    or_not : Option Entry → Bool
    or_not None = false
    or_not (Some earlier) = supersedes entry earlier

-- these indices without those of entries of which this one leaves nothing
abbrev pub kept_indices : List Entry → Entry → List ℕ → List ℕ
kept_indices entries entry indices = filter (λ index. not (is_superseded entries entry index)) indices

-- an index of these entries: the entries at a row's indices make of the row what all make of it
pub record IsIndexOf (entries : List Entry) (rows : RowIndices) : Type 0 where
  pub within : (table row : ℕ) → AllByRecursion (λ index. index < length entries) (indices_at rows table row)
  pub told : (table row : ℕ) (shape : Shape) (was : Option (List Value))
      → row_after_fit shape table row (picked entries (indices_at rows table row)) was ≡ row_after_fit shape table row entries was
