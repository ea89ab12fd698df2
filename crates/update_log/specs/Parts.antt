-- How entries are cut for datagrams: a commit's into parts, each of which one frame holds, and an image's into pieces.
use Rattle.std.specs.Prelude.{◌≡◌, ℕ, ◌+◌, ◌<◌, ◌≤◌, List, [], ◌∷◌, ◌++◌, length, take, Bool, nat_le, if◌then◌else◌}
use Rattle.std.specs.List.{flat_map, AllByRecursion}
use Rattle.rows.specs.declared.entry.Entry.{Entry}
use Rattle.rows.specs.Limits.{datagram_max}
use Rattle.rows.specs.Spelling.{entry_spelling}

-- bytes of a frame before its entries
abbrev pub frame_front_len : ℕ
frame_front_len = 26

-- bytes of a piece of an image before its entries
abbrev pub piece_front_len : ℕ
piece_front_len = 25

-- ---- any number of bytes before the entries

-- bytes of a datagram with so many bytes before these entries
abbrev pub part_len : ℕ → List Entry → ℕ
part_len front entries = front + length (flat_map entry_spelling entries)

-- a part has no room for the first entry of the part after it, if there is one
abbrev pub IsFullBefore : ℕ → List Entry → List (List Entry) → Type 0
IsFullBefore front part [] = Unit {0}
IsFullBefore front part (next ∷ parts) = datagram_max < part_len front (part ++ take 1 next)

-- and so for each part
abbrev pub AreFull : ℕ → List (List Entry) → Type 0
AreFull front [] = Unit {0}
AreFull front (part ∷ parts) = IsFullBefore front part parts × AreFull front parts

-- the entries of all parts, in their order
abbrev pub joined : List (List Entry) → List Entry
joined parts = flat_map (λ part. part) parts

-- these are the parts of the entries, for datagrams with so many bytes before them: the parts join to the entries, none is
-- empty, each is within 1200 bytes as a datagram, and each but the last would be above that with the first entry of the next
pub record AreCut (front : ℕ) (entries : List Entry) (parts : List (List Entry)) : Type 0 where
  pub all : joined parts ≡ entries
  pub some : AllByRecursion (λ part. 0 < length part) parts
  pub within : AllByRecursion (λ part. part_len front part ≤ datagram_max) parts
  pub full : AreFull front parts

-- whether a part has room for one more entry, where so many bytes are before the entries
abbrev pub fits_in : ℕ → List Entry → Entry → Bool
fits_in front part entry = nat_le (part_len front (part ++ entry ∷ [])) datagram_max

-- a part and the entries after it, cut: an entry goes into the part if it has room, and otherwise begins the next
abbrev pub cut_from : ℕ → List Entry → List Entry → List (List Entry)
cut_from front part [] = part ∷ []
cut_from front part (entry ∷ entries) =
    let fits : Bool = fits_in front part entry in
    (if fits then [] else part ∷ []) ++ cut_from front (if fits then part ++ entry ∷ [] else entry ∷ []) entries

-- the parts of entries, where so many bytes are before them
abbrev pub cut_of : ℕ → List Entry → List (List Entry)
cut_of front [] = []
cut_of front (entry ∷ entries) = cut_from front (entry ∷ []) entries

-- ---- frames

-- bytes of a frame with these entries
abbrev pub frame_len : List Entry → ℕ
frame_len entries = part_len frame_front_len entries

-- these are the parts of a commit's entries, each of which one frame holds
abbrev pub AreParts : List Entry → List (List Entry) → Type 0
AreParts entries parts = AreCut frame_front_len entries parts

-- whether a frame's part has room for one more entry
abbrev pub has_room : List Entry → Entry → Bool
has_room part entry = fits_in frame_front_len part entry

-- a frame's part and the entries after it, cut
abbrev pub parts_from : List Entry → List Entry → List (List Entry)
parts_from part entries = cut_from frame_front_len part entries

-- the parts of a commit's entries
abbrev pub parts_of : List Entry → List (List Entry)
parts_of entries = cut_of frame_front_len entries

-- ---- pieces

-- the pieces of an image of these entries: without entries, one that is empty
abbrev pub pieces_of : List Entry → List (List Entry)
pieces_of [] = [] ∷ []
pieces_of (entry ∷ entries) = cut_of piece_front_len (entry ∷ entries)
