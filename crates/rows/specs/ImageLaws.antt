-- Laws of images: which tables their image rebuilds, and that those at each version are such tables.
use Rattle.std.specs.Prelude.{◌≡◌, ℕ, ◌+◌, ◌<◌, List, [], ◌∷◌, ◌++◌, length, take, drop, true, Ok, is_ok}
use Rattle.std.specs.List.{flat_map, AllByRecursion}
use Rattle.rows.specs.declared.commit.Commit.{Commit}
use Rattle.rows.specs.declared.kind.Kind.{Kind}
use Rattle.rows.specs.declared.value.Value.{Value}
use Rattle.rows.specs.Shape.{Shape, row_width, kinds_in, AreTables}
use Rattle.rows.specs.Values.{bytes_of, values_of}
use Rattle.rows.specs.Entries.{has_room}
use Rattle.rows.specs.Tables.{Rows, Tables, opening, kinds_of, rows_of, apply_entries}
use Rattle.rows.specs.Commits.{apply_commits, tables_after}
use Rattle.rows.specs.Spelling.{AreBytes, HasSpelling}
use Rattle.rows.specs.Image.{image_of}

-- behind columns of the first kinds there is room for columns of the others, one after the other
abbrev pub HaveRoom : List Kind → List Kind → Type 0
HaveRoom kinds [] = Unit {0}
HaveRoom kinds (kind ∷ added) = (has_room kinds kind ≡ true) × HaveRoom (kinds ++ kind ∷ []) added

-- the identifiers of rows rise
abbrev pub Rise : Rows → Type 0
Rise [] = Unit {0}
Rise (row ∷ rows) = AllByRecursion (λ other. row.0 < other.0) rows × Rise rows

-- values that can be read back from their bytes, which are as many as the columns are wide
pub record AreReadBack (kinds : List Kind) (values : List Value) : Type 0 where
  pub wide : length (bytes_of values) ≡ row_width kinds
  pub back : values_of kinds (bytes_of values) ≡ values

-- a table, by its columns and rows, that its image rebuilds: the columns begin with those of the opening, there is room for the others
-- behind them, the identifiers of the rows rise, and each row's values can be read back
pub record HasImage (opened kinds : List Kind) (rows : Rows) : Type 0 where
  pub begun : take (length opened) kinds ≡ opened
  pub room : HaveRoom opened (drop (length opened) kinds)
  pub rise : Rise rows
  pub back : AllByRecursion (λ row. AreReadBack kinds row.1) rows

-- as many tables as were opened in this shape, each of which its image rebuilds
pub record HaveImages (shape : Shape) (tables : Tables) : Type 0 where
  pub count : length tables ≡ length shape
  pub each : (table : ℕ) → HasImage (kinds_in shape table) (kinds_of tables table) (rows_of tables table)

-- the image of such tables rebuilds them from those of the opening
abbrev pub ImageRebuilds : Type 0
ImageRebuilds =
    (shape : Shape) (tables : Tables) → HaveImages shape tables → apply_entries (opening shape) (image_of shape tables) ≡ Ok tables

-- the identifiers of each table's rows rise at each version
abbrev pub VersionsRise : Type 0
VersionsRise = (shape : Shape) (commits : List Commit) (version table : ℕ) → Rise (rows_of (tables_after shape commits version) table)

-- each entry of these commits has a spelling, so that its data are bytes
abbrev pub AreSpelled : List Commit → Type 0
AreSpelled commits = AllByRecursion (λ commit. AllByRecursion HasSpelling commit.entries) commits

-- the image of the tables at each version rebuilds them
abbrev pub VersionsHaveImages : Type 0
VersionsHaveImages =
    (shape : Shape) (commits : List Commit) (version : ℕ) → AreSpelled commits → HaveImages shape (tables_after shape commits version)

-- and each entry of it has a spelling
abbrev pub ImagesAreSpelled : Type 0
ImagesAreSpelled =
    (shape : Shape) (commits : List Commit) (version : ℕ) → AreTables shape → AreSpelled commits
    → AllByRecursion HasSpelling (image_of shape (tables_after shape commits version))

-- the bytes of a row are those of the values that are read from them
abbrev pub BytesAreBack : Type 0
BytesAreBack =
    (kinds : List Kind) (bytes : List ℕ) → AreBytes bytes → length bytes ≡ row_width kinds → bytes_of (values_of kinds bytes) ≡ bytes

-- the image of the tables at a version, cut into commits in any way, stands for all commits up to it: together with those behind it, it
-- makes of the opening what all commits make
abbrev pub ImagesReplace : Type 0
ImagesReplace =
    (shape : Shape) (commits image : List Commit) (base more : ℕ) → AreSpelled commits
    → is_ok (apply_commits (opening shape) commits) ≡ true
    → flat_map (λ commit. commit.entries) image ≡ image_of shape (tables_after shape commits base)
    → apply_commits (opening shape) (image ++ take more (drop base commits)) ≡ Ok (tables_after shape commits (base + more))
