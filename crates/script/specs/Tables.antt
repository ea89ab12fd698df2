-- Names of tables.
use Rattle.std.specs.Prelude.{◌≡◌, ℕ, List, true, codes, Option, None, Some, slice_get, Contains}
use Rattle.std.specs.List.{position, AllByRecursion}
use Rattle.std.specs.Str.{bytes_eq}
use Rattle.rows.specs.declared.kind.Kind.{Kind}
use Rattle.script.specs.Text.{is_name}

-- the name of a table; `?` if the schema has no such table
abbrev pub name_in : List (List ℕ × List Kind) → ℕ → List ℕ
name_in schema table = or_unknown (slice_get schema table)
  where
    or_unknown : Option (List ℕ × List Kind) → List ℕ
    or_unknown None = codes "?"
    or_unknown (Some found) = found.0

-- the number of the table of this name
abbrev pub table_called : List (List ℕ × List Kind) → List ℕ → Option ℕ
table_called schema name = position (λ table. bytes_eq name table.0) schema

-- a naming gives each of these tables a name
abbrev pub AreNamed : (ℕ → List ℕ) → List ℕ → Type 0
AreNamed naming tables = AllByRecursion (λ table. is_name (naming table) ≡ true) tables

-- each of these tables is found by the name that the schema gives it
abbrev pub AreFound : List (List ℕ × List Kind) → List ℕ → Type 0
AreFound schema tables = AllByRecursion (λ table. table_called schema (name_in schema table) ≡ Some table) tables

-- one of these tables has a name that no table of the schema has
abbrev pub IsOneMissing : List (List ℕ × List Kind) → (ℕ → List ℕ) → List ℕ → Type 0
IsOneMissing schema naming tables = (table : ℕ) × Contains tables table × (table_called schema (naming table) ≡ None)
