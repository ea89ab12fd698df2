-- Entries whose parts are worked.
use Rattle.std.specs.Prelude.{ℕ, List, ◌∷◌, [], replicate, pos, negsuc}
use Rattle.rows.specs.declared.entry.Entry.{Entry}
use Rattle.rows.specs.declared.entry.Entry.TheVariants.{Insert, Delete, AddColumn}
use Rattle.rows.specs.declared.value.Value.TheVariants.{Int}
use Rattle.rows.specs.Values.{bytes_of}

-- so many inserts of the values 5 and -1 into table 0
abbrev pub inserts : ℕ → List Entry
inserts count = replicate count (Insert 0 (record { 0 = 7 }) (bytes_of (Int (pos 5) ∷ Int (negsuc 0) ∷ [])))

-- so many deletes of that row
abbrev pub deletes : ℕ → List Entry
deletes count = replicate count (Delete 0 (record { 0 = 7 }))

-- so many added columns of the number 0 in table 1
abbrev pub columns : ℕ → List Entry
columns count = replicate count (AddColumn 1 (Int (pos 0)))
