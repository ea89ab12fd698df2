-- The image of tables: entries that rebuild them from those of an opening.
--
-- Table by table it adds the columns that the opening has not, and then inserts the rows. When a column is added the table has no row
-- yet, so its value there does not matter: it has zeros.
use Rattle.std.specs.Prelude.{ℕ, ◌+◌, List, [], ◌∷◌, ◌++◌, map, length, drop, replicate, pos}
use Rattle.rows.specs.declared.entry.Entry.{Entry}
use Rattle.rows.specs.declared.entry.Entry.TheVariants.{Insert, AddColumn}
use Rattle.rows.specs.declared.kind.Kind.{Kind}
use Rattle.rows.specs.declared.kind.Kind.TheVariants as kinds
use Rattle.rows.specs.declared.value.Value.{Value}
use Rattle.rows.specs.declared.value.Value.TheVariants.{Int, Octets}
use Rattle.rows.specs.Shape.{Shape, kinds_in}
use Rattle.rows.specs.Values.{bytes_of}
use Rattle.rows.specs.Tables.{Rows, Table, Tables}

-- zeros as the value of a column of this kind: the number 0, or as many bytes 00 as the column is wide
abbrev pub zero_of : Kind → Value
zero_of kinds.Int = Int (pos 0)
zero_of (kinds.Octets width) = Octets (replicate width 0)

-- columns of these kinds, added to a table one after the other
abbrev pub columns_image : ℕ → List Kind → List Entry
columns_image table added = map (λ kind. AddColumn table (zero_of kind)) added

-- these rows, inserted into a table one after the other
abbrev pub rows_image : ℕ → Rows → List Entry
rows_image table rows = map (λ row. Insert table (record { 0 = row.0 }) (bytes_of row.1)) rows

-- the image of the table of that number, which was opened with columns of the given kinds: each column behind those is added, and then
-- each row is inserted, in rising identifier
abbrev pub table_image : ℕ → List Kind → Table → List Entry
table_image number opened table = columns_image number (drop (length opened) table.kinds) ++ rows_image number table.rows

-- the images of these tables, the first of which has that number
abbrev pub image_from : Shape → ℕ → Tables → List Entry
image_from shape number [] = []
image_from shape number (table ∷ tables) = table_image number (kinds_in shape number) table ++ image_from shape (number + 1) tables

-- the image of tables that were opened in this shape
abbrev pub image_of : Shape → Tables → List Entry
image_of shape tables = image_from shape 0 tables
