-- The first fault of a list of tables that is to be a schema, out of memory aside.
use Rattle.std.specs.Prelude.{ℕ, List, [], ◌∷◌, ◌++◌, length, Option, None, Some, nat_lt, ◌==◌, not, if◌then◌else◌}
use Rattle.std.specs.List.{list_any, list_all}
use Rattle.std.specs.Option.{option_or}
use Rattle.std.specs.Str.{bytes_eq}
use Rattle.rows.specs.declared.kind.Kind.{Kind}
use Rattle.rows.specs.declared.faults.SchemaFault.{SchemaFault}
use Rattle.rows.specs.declared.faults.SchemaFault.TheVariants.{TooManyTables, TooManyColumns, RowTooWide, BadWidth, NameTwice, Empty}
use Rattle.rows.specs.Limits.{tables_max, columns_max, row_width_max}
use Rattle.rows.specs.Shape.{row_width, is_good}

-- the fault of one table, which stands after these
abbrev pub table_fault : List (List ℕ × List Kind) → List ℕ × List Kind → Option SchemaFault
table_fault before table =
    if length table.0 == 0 then Some Empty else
    if list_any (λ other. bytes_eq other.0 table.0) before then Some NameTwice else
    if length table.1 == 0 then Some Empty else
    if nat_lt columns_max (length table.1) then Some TooManyColumns else
    if not (list_all is_good table.1) then Some BadWidth else
    if nat_lt row_width_max (row_width table.1) then Some RowTooWide else None

-- the first fault of these tables, which stand after others
abbrev pub tables_fault : List (List ℕ × List Kind) → List (List ℕ × List Kind) → Option SchemaFault
tables_fault before [] = None
tables_fault before (table ∷ tables) = option_or (table_fault before table) (tables_fault (before ++ table ∷ []) tables)

-- the first fault of tables that are to be a schema: none or too many, or the first of one of them
abbrev pub schema_fault : List (List ℕ × List Kind) → Option SchemaFault
schema_fault tables =
    if length tables == 0 then Some Empty else
    if nat_lt tables_max (length tables) then Some TooManyTables else tables_fault [] tables
