-- What follows where no fault stands: each table's columns are within the limits, and a name is new.
use Rattle.std.proofs.Common.{◌≡◌, ℕ, suc, zero, ◌<◌, ◌≤◌, Bool, true, false, cond, ◌||◌, ◌&&◌, List, [], ◌∷◌, ◌++◌, length, map, slice_get}
use Rattle.std.proofs.Common.{position, not, ◌+◌, ◌-◌, subst, nat_lt, ◌==◌, Option, None, Some, refl, sym, ap, ◌∙◌, arith}
use Rattle.std.specs.List.{list_any, list_all, position_or_len, AllByRecursion}
use Rattle.std.specs.Option.{option_or, option_map, is_some}
use Rattle.std.specs.Map.{lookup, keys_of}
use Rattle.std.specs.String.{string_bytes, string_eq}
use Rattle.std.specs.declared.string.String.{String}
use Rattle.std.specs.declared.alloc.Global.{Global}
use Rattle.std.specs.Str.{bytes_eq}
use Rattle.std.proofs.lemmas.Bool.{ltb-false, eqb-true, or_parts, and_parts, cond-false}
use Rattle.std.proofs.lemmas.Bool.Decides.{nat_tests, same_from_decides, Decides-like}
use Rattle.std.proofs.lemmas.List.{length-map, map-append}
use Rattle.std.proofs.lemmas.List.Sums.{sum_by-cons}
use Rattle.std.proofs.lemmas.Option.{same_Some, slice_get_within, slice_get-map}
use Rattle.std.proofs.lemmas.Slice.Eq.{bytes_eq-Decides}
use Rattle.indexmap.specs.IndexMap.{IndexMap, insert_entry}
use Rattle.indexmap.proofs.CallerLemmas.{insert_entry-new}
use Rattle.rows.specs.declared.kind.Kind.{Kind}
use Rattle.rows.specs.declared.kind.Kind.TheVariants.{Int, Octets}
use Rattle.rows.specs.declared.faults.SchemaFault.TheVariants.{Empty, TooManyTables}
use Rattle.rows.specs.declared.limits.TheConstants.{TABLES_MAX}
use Rattle.rows.specs.Shape.{shape_of, width_of, row_width, is_good, column_from, AreColumns, AreTables}
use Rattle.rows.specs.Inner.Shown.{kept_table}
use Rattle.rows.specs.SchemaFaults.{schema_fault, table_fault, tables_fault}

-- a test that names a fault was not passed
no_fault : {X : Type 0} (b : Bool) (x : X) (rest : Option X) → cond b (Some x) rest ≡ None → (b ≡ false) × (rest ≡ None)
no_fault true x rest h = cc
no_fault false x rest h = (refl, h)

-- neither of two is there
neither : {X : Type 0} (a b : Option X) → option_or a b ≡ None → (a ≡ None) × (b ≡ None)
neither None b h = (refl, h)
neither (Some x) b h = cc

module _ (before : List (List ℕ × List Kind)) (table : List ℕ × List Kind) where
  -- a table without a fault has a name of its own
  pub new_name : table_fault before table ≡ None → list_any (λ other. bytes_eq other.0 table.0) before ≡ false
  new_name h = grind (arith, nat_tests)

  -- and columns within the limits
  pub AreColumns-table : table_fault before table ≡ None → AreColumns table.1
  AreColumns-table h =
      record {
        some = grind (arith, nat_tests);
        few = grind (arith, nat_tests);
        good = grind (arith, nat_tests);
        narrow = grind (arith, nat_tests);
      }

  -- tables without a fault: neither the first has one, nor those behind it
  pub both_none : (tables : List (List ℕ × List Kind)) → tables_fault before (table ∷ tables) ≡ None → (table_fault before table ≡ None)
      × (tables_fault (before ++ table ∷ []) tables ≡ None)
  both_none tables h = neither _ _ h

-- each table of tables without a fault has columns within the limits
pub AreColumns-tables : (before tables : List (List ℕ × List Kind)) (i : ℕ) (kinds : List Kind) → tables_fault before tables ≡ None
    → slice_get (shape_of tables) i ≡ Some kinds → AreColumns kinds
AreColumns-tables before [] i kinds h e = cc
AreColumns-tables before (table ∷ tables) zero kinds h e =
    subst AreColumns (same_Some table.1 kinds e) (AreColumns-table before table (both_none before table tables h).0)
AreColumns-tables before (table ∷ tables) (suc i) kinds h e =
    AreColumns-tables (before ++ table ∷ []) tables i kinds (both_none before table tables h).1 e

-- a schema's tables are few, and each has columns within the limits
pub AreColumns-schema : (tables : List (List ℕ × List Kind)) (i : ℕ) (kinds : List Kind) → schema_fault tables ≡ None
    → slice_get (shape_of tables) i ≡ Some kinds → (i < TABLES_MAX) × AreColumns kinds
AreColumns-schema tables i kinds h e =
    let some = no_fault (length tables == 0) Empty _ h in
    let few = no_fault (nat_lt TABLES_MAX (length tables)) TooManyTables _ some.1 in
    let within : i < length (shape_of tables) = slice_get_within (shape_of tables) i kinds e in
    (omega (arith, ltb-false _ _ few.0, length-map tables (λ table. table.1)), AreColumns-tables [] tables i kinds few.1 e)

AreColumns-all : (before tables : List (List ℕ × List Kind)) → tables_fault before tables ≡ None
    → AllByRecursion AreColumns (shape_of tables)
AreColumns-all before [] h = tt
AreColumns-all before (table ∷ tables) h =
    let none = both_none before table tables h in
    (AreColumns-table before table none.0, AreColumns-all (before ++ table ∷ []) tables none.1)

-- tables without a fault are some, are few, and each has columns within the limits
pub AreTables-schema : (tables : List (List ℕ × List Kind)) → schema_fault tables ≡ None → AreTables (shape_of tables)
AreTables-schema tables h =
    let some = no_fault (length tables == 0) Empty _ h in
    let few = no_fault (nat_lt TABLES_MAX (length tables)) TooManyTables _ some.1 in
    record {
      some = grind (arith, nat_tests, length-map tables (λ table. table.1));
      few = omega (arith, ltb-false _ _ few.0, length-map tables (λ table. table.1));
      each = AreColumns-all [] tables few.1;
    }

-- a column takes 1 to 64 bytes
good-width : (kind : Kind) → is_good kind ≡ true → (0 < width_of kind) × (width_of kind ≤ 64)
good-width Int h = (omega arith, omega arith)
good-width (Octets width) h = (grind (arith, nat_tests), grind (arith, nat_tests))

pub length-le-row_width : (kinds : List Kind) → list_all is_good kinds ≡ true → length kinds ≤ row_width kinds
length-le-row_width [] h = omega arith
length-le-row_width (kind ∷ kinds) h =
    let parts = and_parts (is_good kind) (list_all is_good kinds) h in
    omega (arith, (good-width kind parts.0).0, length-le-row_width kinds parts.1, sum_by-cons width_of kind kinds)

-- a column has 1 to 64 bytes, and they stand within the row
pub column_from-within : (before : ℕ) (kinds : List Kind) (offset size : ℕ) → list_all is_good kinds ≡ true
    → is_some (column_from before kinds offset size) ≡ true
    → (0 < size) × (size ≤ 64) × (offset + size ≤ row_width kinds)
column_from-within before [] offset size h found = cc
column_from-within before (kind ∷ kinds) offset size h found =
    let parts = and_parts (is_good kind) (list_all is_good kinds) h in
    by_tests (good-width kind parts.0) (sum_by-cons width_of kind kinds)
    (column_from-within (before + 1) kinds (offset - width_of kind) size parts.1)
    (offset == 0) (size == width_of kind) (nat_lt offset (width_of kind)) refl refl refl found
  where
    further : row_width (kind ∷ kinds) ≡ width_of kind + row_width kinds → nat_lt offset (width_of kind) ≡ false
        → (0 < size) × (size ≤ 64) × (offset - width_of kind + size ≤ row_width kinds) → (0 < size) × (size ≤ 64)
        × (offset + size ≤ row_width (kind ∷ kinds))
    further whole g behind =
        let past = ltb-false offset (width_of kind) g in
        (behind.0, behind.1, omega (arith, whole, past, behind.2))

    by_tests : (0 < width_of kind) × (width_of kind ≤ 64) → row_width (kind ∷ kinds) ≡ width_of kind + row_width kinds
        → (is_some (column_from (before + 1) kinds (offset - width_of kind) size) ≡ true → (0 < size) × (size ≤ 64)
        × (offset - width_of kind + size ≤ row_width kinds))
        → (first same short : Bool) → (offset == 0) ≡ first → (size == width_of kind) ≡ same → nat_lt offset (width_of kind) ≡ short
        → is_some (cond (first && same) (Some (before, kind))
        (cond short None (column_from (before + 1) kinds (offset - width_of kind) size))) ≡ true
        → (0 < size) × (size ≤ 64) × (offset + size ≤ row_width (kind ∷ kinds))
    by_tests width whole others true true short e f g found =
        let at : offset ≡ 0 = eqb-true offset 0 e in
        let is : size ≡ width_of kind = eqb-true size (width_of kind) f in
        (omega (arith, width.0), omega (arith, width.1), omega (arith, whole))
    by_tests width whole others true false true e f g found = cc
    by_tests width whole others true false false e f g found = further whole g (others found)
    by_tests width whole others false same true e f g found = cc
    by_tests width whole others false same false e f g found = further whole g (others found)

-- a test over what a function gives
pub list_any-map : {X Y : Type 0} (test : Y → Bool) (f : X → Y) (xs : List X) → list_any test (map f xs) ≡ list_any (λ x. test (f x)) xs
list_any-map test f [] = refl
list_any-map test f (x ∷ xs) = ap (λ b. test (f x) || b) (list_any-map test f xs)

-- the kinds of the table at an index of the map
pub kinds_at : (entries : List (String Global × List Kind)) (i : ℕ) (name : String Global) (kinds : List Kind)
    → Some (name, kinds) ≡ slice_get entries i → Some kinds ≡ slice_get (shape_of (map kept_table entries)) i
kinds_at entries i name kinds e =
    ap (λ found. option_map (λ table. table.1) (option_map kept_table found)) e
    ∙ ap (option_map (λ table. table.1)) (sym (slice_get-map kept_table entries i))
    ∙ sym (slice_get-map (λ table. table.1) (map kept_table entries) i)

-- bytes are compared in either order
bytes_eq_comm : (xs ys : List ℕ) → bytes_eq xs ys ≡ bytes_eq ys xs
bytes_eq_comm xs ys = same_from_decides _ _ (bytes_eq-Decides xs ys) (Decides-like _ sym sym (bytes_eq-Decides ys xs))

-- in tables of which none has this name, a look-up by the name finds nothing
pub absent : (entries : List (String Global × List Kind)) (name : String Global)
    → list_any (λ other. bytes_eq other.0 (string_bytes name)) (map kept_table entries) ≡ false → lookup (string_eq name) entries ≡ None
absent [] name h = refl
absent (e ∷ entries) name h =
    let parts = or_parts (bytes_eq (string_bytes e.0) (string_bytes name)) _ h in
    cond-false (string_eq name e.0) (Some e.1) _ (bytes_eq_comm (string_bytes name) (string_bytes e.0) ∙ parts.0)
    ∙ absent entries name parts.1

-- a table with a new name goes behind those of the map
pub shown-insert_entry : {S : Type 0} (tables : IndexMap (String Global) (List Kind) S) (name : String Global) (kinds : List Kind)
    → table_fault (map kept_table tables.entries) (string_bytes name, kinds) ≡ None
    → map kept_table (insert_entry string_eq tables.entries name kinds) ≡ map kept_table tables.entries ++ (string_bytes name, kinds) ∷ []
shown-insert_entry tables name kinds h =
    ap (map kept_table) (insert_entry-new string_eq tables name kinds
    (absent tables.entries name (new_name (map kept_table tables.entries) (string_bytes name, kinds) h)))
    ∙ map-append kept_table tables.entries ((name, kinds) ∷ [])

-- the first index that passes, in what a function gives
position_or_len-map : {X Y : Type 0} (test : Y → Bool) (f : X → Y) (xs : List X)
    → position_or_len test (map f xs) ≡ position_or_len (λ x. test (f x)) xs
position_or_len-map test f [] = refl
position_or_len-map test f (x ∷ xs) = ap (λ n. cond (not (test (f x))) (1 + n) 0) (position_or_len-map test f xs)

position-map : {X Y : Type 0} (test : Y → Bool) (f : X → Y) (xs : List X) → position test (map f xs) ≡ position (λ x. test (f x)) xs
position-map test f xs = rw (position_or_len-map test f xs, length-map xs f)

-- a name has the same number among the map's keys and among its tables
pub place_of_name : (name : List ℕ) (entries : List (String Global × List Kind))
    → position (λ key. bytes_eq name (string_bytes key)) (keys_of entries) ≡ position (λ table. bytes_eq name table.0)
    (map kept_table entries)
place_of_name name entries =
    position-map (λ key. bytes_eq name (string_bytes key)) (λ entry. entry.0) entries
    ∙ sym (position-map (λ table. bytes_eq name table.0) kept_table entries)
