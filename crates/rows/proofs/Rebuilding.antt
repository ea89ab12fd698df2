-- The image of tables rebuilds them: table by table its columns, and then its rows.
use Rattle.std.proofs.Common.{◌≡◌, ℕ, suc, ◌+◌, ◌<◌, Bool, true, false, cond, not, List, [], ◌∷◌, ◌++◌, length, drop}
use Rattle.std.proofs.Common.{Option, Some, Ok, Err, refl, sym, ap, subst, ◌∙◌, append_assoc, append-nil, length-append, arith}
use Rattle.std.specs.Prelude.{slice_get, slice_set}
use Rattle.std.specs.List.{AllByRecursion}
use Rattle.std.specs.Result.{is_ok}
use Rattle.std.proofs.lemmas.Bool.{eq-eqb}
use Rattle.std.proofs.lemmas.Bool.Decides.{nat_tests}
use Rattle.std.proofs.lemmas.List.{length-replicate, take-append-drop}
use Rattle.rows.specs.declared.entry.Entry.TheVariants.{Insert, AddColumn}
use Rattle.rows.specs.declared.faults.EntryFault.{EntryFault}
use Rattle.rows.specs.declared.faults.EntryFault.TheVariants.{WrongSize}
use Rattle.rows.specs.declared.kind.Kind.{Kind}
use Rattle.rows.specs.declared.kind.Kind.TheVariants as kinds
use Rattle.rows.specs.declared.value.Value.{Value}
use Rattle.rows.specs.Shape.{Shape, row_width, kinds_in}
use Rattle.rows.specs.Values.{bytes_of, values_of, kind_of}
use Rattle.rows.specs.Entries.{sized, has_room, addable}
use Rattle.rows.specs.Image.{zero_of, columns_image, rows_image, table_image, image_from}
use Rattle.rows.specs.ImageLaws.{HaveRoom, Rise, AreReadBack, HasImage, ImageRebuilds}
use Rattle.rows.specs.Tables.{Rows, Table, Tables, Refusal, opening, shape_in, kinds_of, rows_of, is_present, is_row_at, with_row}
use Rattle.rows.specs.Tables.{with_column, Exists, Missing, is_fit, inserted, widened, change_where, apply_entry, apply_entries, and_then}
use Rattle.rows.proofs.TableLaws.{apply_entries-append}

-- ---- a table among others

abbrev table_of : List Kind → Rows → Table
table_of kinds rows = record { kinds = kinds; rows = rows }

get-kinds : (done rest : Tables) (table : Table) → slice_get (shape_in (done ++ table ∷ rest)) (length done) ≡ Some table.kinds
get-kinds [] rest table = refl
get-kinds (one ∷ done) rest table = get-kinds done rest table

set-table : (done rest : Tables) (table new : Table) → slice_set (done ++ table ∷ rest) (length done) new ≡ done ++ new ∷ rest
set-table [] rest table new = refl
set-table (one ∷ done) rest table new = ap (λ (tables : Tables). one ∷ tables) (set-table done rest table new)

rows-there : (done rest : Tables) (table : Table) → rows_of (done ++ table ∷ rest) (length done) ≡ table.rows
rows-there [] rest table = refl
rows-there (one ∷ done) rest table = rows-there done rest table

kinds-there : (done rest : Tables) (table : Table) → kinds_of (done ++ table ∷ rest) (length done) ≡ table.kinds
kinds-there [] rest table = refl
kinds-there (one ∷ done) rest table = kinds-there done rest table

-- a change of an entry that fits, and whose row stands as it needs it
changed : (fits stands : Bool) (refusal : Refusal) (after now : Tables) → fits ≡ true → stands ≡ true → after ≡ now
    → change_where fits stands refusal after ≡ Ok now
changed true true refusal after now e f same = ap (λ (tables : Tables). Ok tables) same
changed true false refusal after now e f same = absurd cc
changed false stands refusal after now e f same = absurd cc

-- ---- its columns

kind-zero : (kind : Kind) → kind_of (zero_of kind) ≡ kind
kind-zero kinds.Int = refl
kind-zero (kinds.Octets width) = ap kinds.Octets (length-replicate width 0)

one-column : (done rest : Tables) (columns : List Kind) (kind : Kind) → has_room columns kind ≡ true
    → apply_entry (done ++ table_of columns [] ∷ rest) (AddColumn (length done) (zero_of kind))
    ≡ Ok (done ++ table_of (columns ++ kind ∷ []) [] ∷ rest)
one-column done rest columns kind room =
    let tables = done ++ table_of columns [] ∷ rest in
    let table = length done in
    let default = zero_of kind in
    let fits : is_fit tables (AddColumn table default) ≡ true =
    ap (λ (found : Option (List Kind)). is_ok (addable found default)) (get-kinds done rest (table_of columns []))
    ∙ ap (λ (b : Bool). is_ok {T = Unit {0}} {E = EntryFault} (cond b (Ok tt) (Err WrongSize)))
    (ap (has_room columns) (kind-zero kind) ∙ room) in
    let after : widened tables table default ≡ done ++ table_of (columns ++ kind ∷ []) [] ∷ rest =
    ap (λ (own : List Kind). slice_set tables table (table_of (own ++ kind_of default ∷ []) (with_column default (rows_of tables table))))
    (kinds-there done rest (table_of columns []))
    ∙ ap (λ (own : Kind). slice_set tables table (table_of (columns ++ own ∷ []) (with_column default (rows_of tables table))))
    (kind-zero kind)
    ∙ ap (λ (rows : Rows). slice_set tables table (table_of (columns ++ kind ∷ []) (with_column default rows)))
    (rows-there done rest (table_of columns []))
    ∙ set-table done rest (table_of columns []) (table_of (columns ++ kind ∷ []) []) in
    changed _ true Missing _ _ fits refl after

all-columns : (done rest : Tables) (columns added : List Kind) → HaveRoom columns added
    → apply_entries (done ++ table_of columns [] ∷ rest) (columns_image (length done) added)
    ≡ Ok (done ++ table_of (columns ++ added) [] ∷ rest)
all-columns done rest columns [] have = ap (λ (all : List Kind). Ok (done ++ table_of all [] ∷ rest)) (sym (append-nil columns))
all-columns done rest columns (kind ∷ added) have =
    ap (and_then (λ after. apply_entries after (columns_image (length done) added))) (one-column done rest columns kind have.0)
    ∙ all-columns done rest (columns ++ kind ∷ []) added have.1
    ∙ ap (λ (all : List Kind). Ok (done ++ table_of all [] ∷ rest)) (append_assoc columns (kind ∷ []) added)

-- ---- its rows

-- each row has an identifier below that
abbrev AllUnder : ℕ → Rows → Type 0
AllUnder high rows = AllByRecursion (λ row. row.0 < high) rows

over-part : (low : ℕ) (front : Rows) (row : ℕ × List Value) (rows : Rows)
    → AllByRecursion (λ other. low < other.0) (front ++ row ∷ rows) → low < row.0
over-part low [] row rows h = h.0
over-part low (one ∷ front) row rows h = over-part low front row rows h.1

rise-under : (front : Rows) (row : ℕ × List Value) (rows : Rows) → Rise (front ++ row ∷ rows) → AllUnder row.0 front
rise-under [] row rows h = tt
rise-under (one ∷ front) row rows h = (over-part one.0 front row rows h.0, rise-under front row rows h.1)

absent : (rows : Rows) (row : ℕ) → AllUnder row rows → is_present rows row ≡ false
absent [] row h = refl
absent (one ∷ rows) row h = grind (arith, nat_tests, h.0, absent rows row h.1)

put-behind : (rows : Rows) (row : ℕ) (values : List Value) → AllUnder row rows → with_row rows row values ≡ rows ++ (row, values) ∷ []
put-behind [] row values h = refl
put-behind (one ∷ rows) row values h = grind (arith, nat_tests, h.0, put-behind rows row values h.1)

one-row : (done rest : Tables) (columns : List Kind) (front : Rows) (row : ℕ) (values : List Value) → AllUnder row front
    → AreReadBack columns values
    → apply_entry (done ++ table_of columns front ∷ rest) (Insert (length done) (record { 0 = row }) (bytes_of values))
    ≡ Ok (done ++ table_of columns (front ++ (row, values) ∷ []) ∷ rest)
one-row done rest columns front row values under are =
    let tables = done ++ table_of columns front ∷ rest in
    let table = length done in
    let bytes = bytes_of values in
    let fits : is_fit tables (Insert table (record { 0 = row }) bytes) ≡ true =
    ap (λ (found : Option (List Kind)). is_ok (sized found (length bytes))) (get-kinds done rest (table_of columns front))
    ∙ ap (λ (b : Bool). is_ok {T = Unit {0}} {E = EntryFault} (cond b (Ok tt) (Err WrongSize)))
    (eq-eqb (length bytes) (row_width columns) are.wide) in
    let away : not (is_row_at tables table row) ≡ true =
    ap (λ (rows : Rows). not (is_present rows row)) (rows-there done rest (table_of columns front)) ∙ ap not (absent front row under) in
    let rows : with_row (rows_of tables table) row (values_of (kinds_of tables table) bytes) ≡ front ++ (row, values) ∷ [] =
    ap (λ (rows : Rows). with_row rows row (values_of (kinds_of tables table) bytes)) (rows-there done rest (table_of columns front))
    ∙ ap (λ (own : List Kind). with_row front row (values_of own bytes)) (kinds-there done rest (table_of columns front))
    ∙ ap (with_row front row) are.back ∙ put-behind front row values under in
    let after : inserted tables table row bytes ≡ done ++ table_of columns (front ++ (row, values) ∷ []) ∷ rest =
    ap (λ (rows : Rows). slice_set tables table (table_of (kinds_of tables table) rows)) rows
    ∙ ap (λ (own : List Kind). slice_set tables table (table_of own (front ++ (row, values) ∷ [])))
    (kinds-there done rest (table_of columns front))
    ∙ set-table done rest (table_of columns front) (table_of columns (front ++ (row, values) ∷ [])) in
    changed _ _ Exists _ _ fits away after

all-rows : (done rest : Tables) (columns : List Kind) (front rows : Rows) → Rise (front ++ rows)
    → AllByRecursion (λ row. AreReadBack columns row.1) rows
    → apply_entries (done ++ table_of columns front ∷ rest) (rows_image (length done) rows)
    ≡ Ok (done ++ table_of columns (front ++ rows) ∷ rest)
all-rows done rest columns front [] rise back = ap (λ (rows : Rows). Ok (done ++ table_of columns rows ∷ rest)) (sym (append-nil front))
all-rows done rest columns front (row ∷ rows) rise back =
    let joined : (front ++ row ∷ []) ++ rows ≡ front ++ row ∷ rows = append_assoc front (row ∷ []) rows in
    ap (and_then (λ after. apply_entries after (rows_image (length done) rows)))
    (one-row done rest columns front row.0 row.1 (rise-under front row rows rise) back.0)
    ∙ all-rows done rest columns (front ++ row ∷ []) rows (subst Rise (sym joined) rise) back.1
    ∙ ap (λ (all : Rows). Ok (done ++ table_of columns all ∷ rest)) joined

-- ---- the table

one-table : (done rest : Tables) (opened : List Kind) (table : Table) → HasImage opened table.kinds table.rows
    → apply_entries (done ++ table_of opened [] ∷ rest) (table_image (length done) opened table) ≡ Ok (done ++ table ∷ rest)
one-table done rest opened table has =
    let added = drop (length opened) table.kinds in
    let whole : opened ++ added ≡ table.kinds =
    ap (λ (front : List Kind). front ++ added) (sym has.begun) ∙ take-append-drop (length opened) table.kinds in
    apply_entries-append (done ++ table_of opened [] ∷ rest) (columns_image (length done) added) (rows_image (length done) table.rows)
    ∙ ap (and_then (λ after. apply_entries after (rows_image (length done) table.rows))) (all-columns done rest opened added has.room)
    ∙ ap (λ (columns : List Kind). apply_entries (done ++ table_of columns [] ∷ rest) (rows_image (length done) table.rows)) whole
    ∙ all-rows done rest table.kinds [] table.rows has.rise has.back

-- ---- all tables

-- each table has an image over the columns of its own
abbrev Match : Shape → Tables → Type 0
Match [] [] = Unit {0}
Match (opened ∷ shape) (table ∷ tables) = HasImage opened table.kinds table.rows × Match shape tables
Match shape tables = ⊥

match : (shape : Shape) (tables : Tables) → length tables ≡ length shape
    → ((table : ℕ) → HasImage (kinds_in shape table) (kinds_of tables table) (rows_of tables table)) → Match shape tables
match [] [] count each = tt
match [] (table ∷ tables) count each = absurd (omega (arith, count))
match (opened ∷ shape) [] count each = absurd (omega (arith, count))
match (opened ∷ shape) (table ∷ tables) count each = (each 0, match shape tables (omega (arith, count)) (λ other. each (suc other)))

opened-there : (front shape : Shape) (opened : List Kind) → kinds_in (front ++ opened ∷ shape) (length front) ≡ opened
opened-there [] shape opened = refl
opened-there (one ∷ front) shape opened = opened-there front shape opened

all-tables : (front shape : Shape) (done tables : Tables) → length done ≡ length front → Match shape tables
    → apply_entries (done ++ opening shape) (image_from (front ++ shape) (length done) tables) ≡ Ok (done ++ tables)
all-tables front [] done [] count have = refl
all-tables front [] done (table ∷ tables) count have = absurd have
all-tables front (opened ∷ shape) done [] count have = absurd have
all-tables front (opened ∷ shape) done (table ∷ tables) count have =
    let rest = opening shape in
    let whole = front ++ opened ∷ shape in
    let next : (done ++ table ∷ []) ++ rest ≡ done ++ table ∷ rest = append_assoc done (table ∷ []) rest in
    let number : length (done ++ table ∷ []) ≡ length done + 1 = length-append done (table ∷ []) in
    let own : kinds_in whole (length done) ≡ opened = ap (kinds_in whole) count ∙ opened-there front shape opened in
    let begun : (front ++ opened ∷ []) ++ shape ≡ whole = append_assoc front (opened ∷ []) shape in
    let counted : length (done ++ table ∷ []) ≡ length (front ++ opened ∷ []) =
    omega (arith, number, length-append front (opened ∷ []), count) in
    ap (λ (kinds : List Kind). apply_entries (done ++ table_of opened [] ∷ rest)
    (table_image (length done) kinds table ++ image_from whole (length done + 1) tables)) own
    ∙ apply_entries-append (done ++ table_of opened [] ∷ rest) (table_image (length done) opened table)
    (image_from whole (length done + 1) tables)
    ∙ ap (and_then (λ after. apply_entries after (image_from whole (length done + 1) tables))) (one-table done rest opened table have.0)
    ∙ ap (λ (start : Tables). apply_entries start (image_from whole (length done + 1) tables)) (sym next)
    ∙ ap (λ (n : ℕ). apply_entries ((done ++ table ∷ []) ++ rest) (image_from whole n tables)) (sym number)
    ∙ ap (λ (all : Shape). apply_entries ((done ++ table ∷ []) ++ rest) (image_from all (length (done ++ table ∷ [])) tables)) (sym begun)
    ∙ all-tables (front ++ opened ∷ []) shape (done ++ table ∷ []) tables counted have.1
    ∙ ap (λ (all : Tables). Ok all) (append_assoc done (table ∷ []) tables)

pub image-rebuilds : ImageRebuilds
image-rebuilds shape tables have = all-tables [] shape [] tables refl (match shape tables have.count have.each)
