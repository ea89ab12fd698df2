-- What `==` is of entries and commits: true exactly if they are equal (`Laws.antt`).
use Rattle.std.specs.Prelude.{ℕ, List, [], ◌∷◌, Bool, true, false, Option, None, Some, nat_eq, ◌==◌, ◌&&◌}
use Rattle.std.specs.Cmp.Lexicographic.{pointwise}
use Rattle.std.specs.Ordering.{int_eq}
use Rattle.rows.specs.declared.commit.Commit.{Commit}
use Rattle.rows.specs.declared.entry.Entry.{Entry}
use Rattle.rows.specs.declared.entry.Entry.TheVariants.{Insert, Patch, Delete, AddColumn}
use Rattle.rows.specs.declared.value.Value.{Value}
use Rattle.rows.specs.declared.value.Value.TheVariants.{Int, Octets}

-- an entry as one list of numbers: which it is, its table and row, a patch's offset, and the data; an added column's value is left out
abbrev pub numbers_of : Entry → List ℕ
numbers_of (Insert table row bytes) = 1 ∷ table ∷ row.0 ∷ bytes
numbers_of (Patch table row offset bytes) = 2 ∷ table ∷ row.0 ∷ offset ∷ bytes
numbers_of (Delete table row) = 3 ∷ table ∷ row.0 ∷ []
numbers_of (AddColumn table default) = 4 ∷ table ∷ []

-- the value of an added column; no other entry has one
abbrev pub default_of : Entry → Option Value
default_of (Insert table row bytes) = None
default_of (Patch table row offset bytes) = None
default_of (Delete table row) = None
default_of (AddColumn table default) = Some default

-- whether two values are the same
abbrev pub is_same_value : Value → Value → Bool
is_same_value (Int number) (Int other) = int_eq number other
is_same_value (Int number) (Octets other) = false
is_same_value (Octets bytes) (Int other) = false
is_same_value (Octets bytes) (Octets other) = pointwise nat_eq bytes other

-- whether two entries have the same value for an added column, or both none
abbrev pub is_same_default : Option Value → Option Value → Bool
is_same_default None None = true
is_same_default None (Some other) = false
is_same_default (Some value) None = false
is_same_default (Some value) (Some other) = is_same_value value other

-- whether two entries are the same
abbrev pub is_same_entry : Entry → Entry → Bool
is_same_entry entry other =
    pointwise nat_eq (numbers_of entry) (numbers_of other) && is_same_default (default_of entry) (default_of other)

-- whether two commits are the same
abbrev pub is_same_commit : Commit → Commit → Bool
is_same_commit commit other = (commit.worker == other.worker) && pointwise is_same_entry commit.entries other.entries
