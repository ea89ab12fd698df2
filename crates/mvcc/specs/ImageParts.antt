-- The image of a version, made part by part.
use Rattle.std.specs.Prelude.{◌≡◌, ◌⊎◌, ℕ, ◌+◌, ◌^◌, ◌<◌, ◌==◌, nat_le, List, [], ◌++◌, drop, length, Option, None, Some, slice_get}
use Rattle.std.specs.Prelude.{if◌then◌else◌}
use Rattle.std.specs.List.{filter}
use Rattle.std.specs.Option.{option_map_or}
use Rattle.rows.specs.declared.entry.Entry.{Entry}
use Rattle.rows.specs.declared.kind.Kind.{Kind}
use Rattle.rows.specs.Image.{columns_image, rows_image, image_from}
use Rattle.rows.specs.Limits.{tables_max}
use Rattle.rows.specs.Shape.{Shape, kinds_in}
use Rattle.rows.specs.Tables.{Table, Tables}
use Rattle.mvcc.specs.declared.image_place.ImagePlace.{ImagePlace}

-- the image of the table of that number, which was opened with columns of the given kinds, from a row on: from row 0 on it is all of
-- it, from a later one on the inserts of the rows that are no lower
abbrev pub table_rest : (number row : ℕ) → List Kind → Table → List Entry
table_rest number row opened table =
    (if row == 0 then columns_image number (drop (length opened) table.kinds) else [])
    ++ rows_image number (filter (λ own. nat_le row own.0) table.rows)

-- what an image of tables that were opened in this shape has from a place on; nothing at no place
abbrev pub image_rest : Shape → Tables → Option ImagePlace → List Entry
image_rest shape tables None = []
image_rest shape tables (Some place) =
    option_map_or (table_rest place.table place.row (kinds_in shape place.table)) (slice_get tables place.table) []
    ++ image_from shape (place.table + 1) (drop (place.table + 1) tables)

-- a place that comes behind another one, and is of a table and a row that may be there
pub record IsLaterPlace (before place : ImagePlace) : Type 0 where
  pub table : place.table < tables_max
  pub row : place.row < 2 ^ 64
  pub later : (before.table < place.table) ⊎ ((place.table ≡ before.table) × (before.row < place.row))
