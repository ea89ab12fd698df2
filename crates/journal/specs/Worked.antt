-- Journals byte by byte: headers with the shapes that they are of, and records with their commits.
use Rattle.std.specs.Prelude.{ℕ, ◌∷◌, [], List, pos, negsuc}
use Rattle.rows.specs.declared.kind.Kind.TheVariants as kinds
use Rattle.rows.specs.declared.value.Value.TheVariants.{Int, Octets}
use Rattle.rows.specs.declared.entry.Entry.TheVariants.{Insert, Patch, Delete, AddColumn}
use Rattle.rows.specs.declared.commit.Commit.{Commit}
use Rattle.rows.specs.Shape.{Shape}
use Rattle.rows.specs.Values.{bytes_of}

-- one table of one column of two bytes
abbrev pub pairs : Shape
pairs = (kinds.Octets 2 ∷ []) ∷ []

-- the header of its journal, of one worker
abbrev pub pairs_header : List ℕ
pairs_header = 0x42 ∷ 0x44 ∷ 0x4a ∷ 0x32 ∷ 1 ∷ 1 ∷ 1 ∷ 2 ∷ []

-- `table acct int int`
abbrev pub accounts : Shape
accounts = (kinds.Int ∷ kinds.Int ∷ []) ∷ []

-- the header of its journal, of two workers
abbrev pub accounts_header : List ℕ
accounts_header = 0x42 ∷ 0x44 ∷ 0x4a ∷ 0x32 ∷ 2 ∷ 1 ∷ 2 ∷ 0 ∷ 0 ∷ []

-- the header of version 1
abbrev pub old_accounts_header : List ℕ
old_accounts_header = 0x42 ∷ 0x44 ∷ 0x4a ∷ 0x31 ∷ 2 ∷ 1 ∷ 2 ∷ 0 ∷ 0 ∷ []

-- commit 1, of worker 0: it inserts row 7 with the values 5 and -1 into table 0
abbrev pub one_insert : Commit
one_insert = record { worker = 0; entries = Insert 0 (record { 0 = 7 }) (bytes_of (Int (pos 5) ∷ Int (negsuc 0) ∷ [])) ∷ [] }

-- its record
abbrev pub one_insert_record : List ℕ
one_insert_record =
    0 ∷ 0 ∷ 0 ∷ 0x27 ∷ 0 ∷ 0 ∷ 0 ∷ 0 ∷ 0 ∷ 0 ∷ 0 ∷ 0 ∷ 1 ∷ 0 ∷ 1
    ∷ 1 ∷ 0 ∷ 0 ∷ 0 ∷ 0 ∷ 0 ∷ 0 ∷ 0 ∷ 0 ∷ 7 ∷ 0 ∷ 0x10
    ∷ 0 ∷ 0 ∷ 0 ∷ 0 ∷ 0 ∷ 0 ∷ 0 ∷ 5 ∷ 0xff ∷ 0xff ∷ 0xff ∷ 0xff ∷ 0xff ∷ 0xff ∷ 0xff ∷ 0xff ∷ []

-- commit 5, of worker 3: it deletes row 7 of table 0, and puts two bytes at offset 4 of row 8 of table 1
abbrev pub delete_and_patch : Commit
delete_and_patch = record {
  worker = 3;
  entries = Delete 0 (record { 0 = 7 }) ∷ Patch 1 (record { 0 = 8 }) 4 (0xab ∷ 0xcd ∷ []) ∷ [];
}

-- its record
abbrev pub delete_and_patch_record : List ℕ
delete_and_patch_record =
    0 ∷ 0 ∷ 0 ∷ 0x25 ∷ 3 ∷ 0 ∷ 0 ∷ 0 ∷ 0 ∷ 0 ∷ 0 ∷ 0 ∷ 5 ∷ 0 ∷ 2
    ∷ 3 ∷ 0 ∷ 0 ∷ 0 ∷ 0 ∷ 0 ∷ 0 ∷ 0 ∷ 0 ∷ 7
    ∷ 2 ∷ 1 ∷ 0 ∷ 0 ∷ 0 ∷ 0 ∷ 0 ∷ 0 ∷ 0 ∷ 8 ∷ 0 ∷ 4 ∷ 0 ∷ 2 ∷ 0xab ∷ 0xcd ∷ []

-- commit 2, of worker 0: it adds a column of one byte to table 0, which is 61 in hexadecimal in each row
abbrev pub add_byte : Commit
add_byte = record { worker = 0; entries = AddColumn 0 (Octets (0x61 ∷ [])) ∷ [] }

-- its record; none is shorter
abbrev pub add_byte_record : List ℕ
add_byte_record =
    0 ∷ 0 ∷ 0 ∷ 0xf ∷ 0 ∷ 0 ∷ 0 ∷ 0 ∷ 0 ∷ 0 ∷ 0 ∷ 0 ∷ 2 ∷ 0 ∷ 1
    ∷ 4 ∷ 0 ∷ 1 ∷ 0x61 ∷ []

-- commit 1, of worker 0: it adds a column of numbers to table 0, which is 3 in each row
abbrev pub add_number : Commit
add_number = record { worker = 0; entries = AddColumn 0 (Int (pos 3)) ∷ [] }

-- its record
abbrev pub add_number_record : List ℕ
add_number_record =
    0 ∷ 0 ∷ 0 ∷ 0x16 ∷ 0 ∷ 0 ∷ 0 ∷ 0 ∷ 0 ∷ 0 ∷ 0 ∷ 0 ∷ 1 ∷ 0 ∷ 1
    ∷ 4 ∷ 0 ∷ 0 ∷ 0 ∷ 0 ∷ 0 ∷ 0 ∷ 0 ∷ 0 ∷ 0 ∷ 3 ∷ []
