-- Tables with a worked image: two columns were added to the first of them, and none to the second.
use Rattle.std.specs.Prelude.{List, ◌∷◌, [], pos, negsuc}
use Rattle.rows.specs.declared.entry.Entry.{Entry}
use Rattle.rows.specs.declared.entry.Entry.TheVariants.{Insert, AddColumn}
use Rattle.rows.specs.declared.kind.Kind.TheVariants as kinds
use Rattle.rows.specs.declared.value.Value.TheVariants.{Int, Octets}
use Rattle.rows.specs.Shape.{Shape}
use Rattle.rows.specs.Tables.{Tables}

-- a table of one column of numbers, and one of one column of two bytes
abbrev pub worked_shape : Shape
worked_shape = (kinds.Int ∷ []) ∷ (kinds.Octets 2 ∷ []) ∷ []

-- tables that were opened in this shape: the first got a column of numbers and one of three bytes
abbrev pub worked_tables : Tables
worked_tables =
    record {
      kinds = kinds.Int ∷ kinds.Int ∷ kinds.Octets 3 ∷ [];
      rows = (7, Int (pos 5) ∷ Int (negsuc 0) ∷ Octets (0x61 ∷ 0x62 ∷ 0x63 ∷ []) ∷ []) ∷ [];
    }
    ∷ record { kinds = kinds.Octets 2 ∷ []; rows = (2, Octets (0x4e ∷ 0x45 ∷ []) ∷ []) ∷ (9, Octets (0x53 ∷ 0x57 ∷ []) ∷ []) ∷ [] }
    ∷ []

-- their image
abbrev pub worked_image : List Entry
worked_image =
    AddColumn 0 (Int (pos 0))
    ∷ AddColumn 0 (Octets (0 ∷ 0 ∷ 0 ∷ []))
    ∷ Insert 0 (record { 0 = 7 })
    (0 ∷ 0 ∷ 0 ∷ 0 ∷ 0 ∷ 0 ∷ 0 ∷ 5 ∷ 0xff ∷ 0xff ∷ 0xff ∷ 0xff ∷ 0xff ∷ 0xff ∷ 0xff ∷ 0xff ∷ 0x61 ∷ 0x62 ∷ 0x63 ∷ [])
    ∷ Insert 1 (record { 0 = 2 }) (0x4e ∷ 0x45 ∷ [])
    ∷ Insert 1 (record { 0 = 9 }) (0x53 ∷ 0x57 ∷ [])
    ∷ []
