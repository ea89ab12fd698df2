-- The text of tables, walked over table by table, row by row and column by column.
use Rattle.std.proofs.Common.{◌≡◌, ℕ, zero, suc, ◌+◌, ◌<◌, ◌≤◌, true, List, [], ◌∷◌, ◌++◌, length, map, drop, Option, None, Some}
use Rattle.std.proofs.Common.{slice_get, decimal, refl, sym, ap, ◌∙◌, arith, append_assoc}
use Rattle.std.specs.List.{flat_map}
use Rattle.std.specs.Option.{IsSome, is_some, unwrap_or}
use Rattle.std.proofs.lemmas.Bool.{and_parts, false≢true}
use Rattle.std.proofs.lemmas.List.{append-nil, drop_all, drop_more}
use Rattle.std.proofs.lemmas.List.Sums.{sum_by-cons}
use Rattle.std.proofs.lemmas.Option.{slice_get_within, get_or_from_slice_get, same_Some, MatchOption-at_some}
use Rattle.rows.specs.declared.kind.Kind.{Kind}
use Rattle.rows.specs.declared.value.Value.{Value}
use Rattle.rows.specs.Tables.{Rows, Table, Tables, kinds_of, rows_of, row_at, RowsAreOfKinds}
use Rattle.rows.specs.Text.{value_text, words_text}
use Rattle.rows.specs.Values.{is_of_kind, are_of_kinds}
use Rattle.store.specs.Changes.{column_of}
use Rattle.dispatcher.specs.TableText.{row_text, rows_text, row_count}
use Rattle.dispatcher.specs.Inner.Walk.{columns_text, row_text_at, rows_text_at}

-- ---- lists by index

-- what stands from an index on, where one stands there
from-index : {X : Type 0} (xs : List X) (i : ℕ) (x : X) → slice_get xs i ≡ Some x → drop i xs ≡ x ∷ drop (i + 1) xs
from-index xs i x e =
    drop_more xs i x (slice_get_within xs i x e) ∙ ap (λ y. y ∷ drop (i + 1) xs) (get_or_from_slice_get xs i x x e)

within-there : {X : Type 0} (xs : List X) (i : ℕ) → i < length xs → IsSome (slice_get xs i)
within-there [] i h = absurd (omega arith)
within-there (x ∷ xs) zero h = refl
within-there (x ∷ xs) (suc i) h = within-there xs i (omega arith)

not-within : {X : Type 0} (xs : List X) (i : ℕ) → i < length xs → slice_get xs i ≡ None → ⊥
not-within xs i h e = false≢true (sym (ap is_some e) ∙ within-there xs i h)

-- a text with one piece more
pub text-more : (text piece rest from after whole : List ℕ) → text ++ from ≡ whole → from ≡ piece ++ rest → after ≡ text ++ piece
    → after ++ rest ≡ whole
text-more text piece rest from after whole is more adds =
    ap (λ t. t ++ rest) adds ∙ append_assoc text piece rest ∙ ap (λ l. text ++ l) (sym more) ∙ is

-- ---- the values of a row

pub values-there : (values : Option (List Value)) (column : ℕ) → column < length (unwrap_or values []) → IsSome (column_of values column)
values-there None column h = absurd (omega arith)
values-there (Some values) column h = within-there values column h

columns-from : (values : List Value) (i : ℕ) (value : Value) → slice_get values i ≡ Some value
    → columns_text (drop i values) ≡ (32 ∷ value_text value) ++ columns_text (drop (i + 1) values)
columns-from values i value e = ap columns_text (from-index values i value e)

at-place : (values : Option (List Value)) (column : ℕ) → slice_get (unwrap_or values []) column ≡ column_of values column
at-place None column = refl
at-place (Some values) column = refl

-- one value more, behind a space
pub value-more : (values : Option (List Value)) (i : ℕ) (value : Value) (text spaced after whole : List ℕ)
    → Some value ≡ column_of values i → text ++ columns_text (drop i (unwrap_or values [])) ≡ whole → spaced ≡ text ++ 32 ∷ []
    → after ≡ spaced ++ value_text value → after ++ columns_text (drop (i + 1) (unwrap_or values [])) ≡ whole
value-more values i value text spaced after whole e is spaces adds =
    text-more text (32 ∷ value_text value) (columns_text (drop (i + 1) (unwrap_or values []))) (columns_text (drop i (unwrap_or values [])))
    after whole is (columns-from (unwrap_or values []) i value (at-place values i ∙ sym e))
    (adds ∙ ap (λ t. t ++ value_text value) spaces ∙ append_assoc text (32 ∷ []) (value_text value))

-- a row's values are as many as its table's columns
as-many : (values : List Value) (kinds : List Kind) → are_of_kinds values kinds ≡ true → length values ≡ length kinds
as-many [] [] h = refl
as-many [] (kind ∷ kinds) h = cc
as-many (value ∷ values) [] h = cc
as-many (value ∷ values) (kind ∷ kinds) h =
    ap suc (as-many values kinds (and_parts (is_of_kind value kind) (are_of_kinds values kinds) h).1)

pub row-is-wide : (tables : Tables) (table id : ℕ) (own : List Value) → RowsAreOfKinds tables → row_at (rows_of tables table) id ≡ Some own
    → length own ≡ length (kinds_of tables table)
row-is-wide tables table id own are row =
    as-many own (kinds_of tables table)
    (MatchOption-at_some (Unit {0}) (λ values. are_of_kinds values (kinds_of tables table) ≡ true) own row (are table id))

-- ---- a row

-- words are the first, and the others behind spaces
words-behind : (word : List ℕ) (values : List Value) → words_text (word ∷ map value_text values) ≡ word ++ columns_text values
words-behind word [] = sym (append-nil word)
words-behind word (value ∷ values) = ap (λ rest. word ++ (32 ∷ rest)) (words-behind (value_text value) values)

row_text_at-is : (name : List ℕ) (rows : Rows) (i : ℕ) (row : ℕ × List Value) → slice_get rows i ≡ Some row
    → row_text_at name rows i ≡ row_text name row
row_text_at-is name rows i row e = rw e refl

-- its parts, one behind the other
pub row-written : (name : List ℕ) (rows : Rows) (i id : ℕ) (own : List Value) (before named spaced counted valued after : List ℕ)
    → slice_get rows i ≡ Some (id, own) → named ≡ before ++ name → spaced ≡ named ++ 32 ∷ [] → counted ≡ spaced ++ decimal id
    → valued ≡ counted ++ columns_text own → after ≡ valued ++ 10 ∷ [] → after ≡ before ++ row_text_at name rows i
row-written name rows i id own before named spaced counted valued after e a b c d f =
    let behind : List ℕ = decimal id ++ columns_text own in
    let words : words_text (name ∷ decimal id ∷ map value_text own) ≡ name ++ (32 ∷ behind) =
    ap (λ rest. name ++ (32 ∷ rest)) (words-behind (decimal id) own) in
    let made : valued ≡ before ++ (name ++ (32 ∷ behind)) =
    d ∙ ap (λ t. t ++ columns_text own) (c ∙ ap (λ t. t ++ decimal id) (b ∙ ap (λ t. t ++ 32 ∷ []) a))
    ∙ append_assoc ((before ++ name) ++ 32 ∷ []) (decimal id) (columns_text own)
    ∙ append_assoc (before ++ name) (32 ∷ []) behind
    ∙ append_assoc before name (32 ∷ behind) in
    f ∙ ap (λ t. t ++ 10 ∷ []) (made ∙ ap (λ t. before ++ t) (sym words))
    ∙ append_assoc before (words_text (name ∷ decimal id ∷ map value_text own)) (10 ∷ [])
    ∙ ap (λ t. before ++ t) (sym (row_text_at-is name rows i (id, own) e))

-- ---- the rows of a table

rows-from : (name : List ℕ) (rows : Rows) (i : ℕ) → i < length rows
    → flat_map (row_text name) (drop i rows) ≡ row_text_at name rows i ++ flat_map (row_text name) (drop (i + 1) rows)
rows-from name rows i h = by (slice_get rows i) refl
  where
    by : (found : Option (ℕ × List Value)) → slice_get rows i ≡ found
        → flat_map (row_text name) (drop i rows) ≡ row_text_at name rows i ++ flat_map (row_text name) (drop (i + 1) rows)
    by None e = absurd (not-within rows i h e)
    by (Some row) e =
        ap (flat_map (row_text name)) (from-index rows i row e)
        ∙ ap (λ t. t ++ flat_map (row_text name) (drop (i + 1) rows)) (sym (row_text_at-is name rows i row e))

-- one row more
pub row-more : (name : List ℕ) (rows : Rows) (i : ℕ) (text after whole : List ℕ) → i < length rows
    → text ++ flat_map (row_text name) (drop i rows) ≡ whole → after ≡ text ++ row_text_at name rows i
    → after ++ flat_map (row_text name) (drop (i + 1) rows) ≡ whole
row-more name rows i text after whole h is adds =
    text-more text (row_text_at name rows i) (flat_map (row_text name) (drop (i + 1) rows)) (flat_map (row_text name) (drop i rows))
    after whole is (rows-from name rows i h) adds

-- ---- the tables

rows_of-there : (tables : Tables) (i : ℕ) (table : Table) → slice_get tables i ≡ Some table → rows_of tables i ≡ table.rows
rows_of-there [] i table e = cc
rows_of-there (first ∷ tables) zero table e = ap (λ (t : Table). t.rows) (same_Some first table e)
rows_of-there (first ∷ tables) (suc i) table e = rows_of-there tables i table e

rows_text_at-is : (names : List (List ℕ)) (tables : Tables) (i : ℕ) (name : List ℕ) → slice_get names i ≡ Some name
    → rows_text_at names tables i ≡ flat_map (row_text name) (rows_of tables i)
rows_text_at-is names tables i name e = rw e refl

-- past the last row a table's rows are told
pub rows-told : (names : List (List ℕ)) (tables : Tables) (table i : ℕ) (name text before : List ℕ) → slice_get names table ≡ Some name
    → length (rows_of tables table) ≤ i
    → text ++ flat_map (row_text name) (drop i (rows_of tables table)) ≡ before ++ flat_map (row_text name) (rows_of tables table)
    → text ≡ before ++ rows_text_at names tables table
rows-told names tables table i name text before e past is =
    sym (append-nil text)
    ∙ ap (λ rest. text ++ flat_map (row_text name) rest) (sym (drop_all i (rows_of tables table) past))
    ∙ is ∙ ap (λ t. before ++ t) (sym (rows_text_at-is names tables table name e))

tables-from : (names : List (List ℕ)) (tables : Tables) (i : ℕ) → i < length names → length names ≡ length tables
    → rows_text (drop i names) (drop i tables) ≡ rows_text_at names tables i ++ rows_text (drop (i + 1) names) (drop (i + 1) tables)
tables-from names tables i h same = by (slice_get names i) (slice_get tables i) refl refl
  where
    by : (name : Option (List ℕ)) (table : Option Table) → slice_get names i ≡ name → slice_get tables i ≡ table
        → rows_text (drop i names) (drop i tables) ≡ rows_text_at names tables i ++ rows_text (drop (i + 1) names) (drop (i + 1) tables)
    by None table e f = absurd (not-within names i h e)
    by (Some name) None e f = absurd (not-within tables i (omega (arith, h, same)) f)
    by (Some name) (Some table) e f =
        (λ k. rows_text (from-index names i name e k) (from-index tables i table f k))
        ∙ ap (λ rows. flat_map (row_text name) rows ++ rows_text (drop (i + 1) names) (drop (i + 1) tables))
        (sym (rows_of-there tables i table f))
        ∙ ap (λ t. t ++ rows_text (drop (i + 1) names) (drop (i + 1) tables)) (sym (rows_text_at-is names tables i name e))

-- one table more
pub table-more : (names : List (List ℕ)) (tables : Tables) (i : ℕ) (text after whole : List ℕ) → i < length names
    → length names ≡ length tables → text ++ rows_text (drop i names) (drop i tables) ≡ whole → after ≡ text ++ rows_text_at names tables i
    → after ++ rows_text (drop (i + 1) names) (drop (i + 1) tables) ≡ whole
table-more names tables i text after whole h same is adds =
    text-more text (rows_text_at names tables i) (rows_text (drop (i + 1) names) (drop (i + 1) tables))
    (rows_text (drop i names) (drop i tables)) after whole is (tables-from names tables i h same) adds

-- and its rows are counted
pub count-more : (tables : Tables) (i : ℕ) → i < length tables
    → row_count (drop i tables) ≡ length (rows_of tables i) + row_count (drop (i + 1) tables)
count-more tables i h = by (slice_get tables i) refl
  where
    by : (table : Option Table) → slice_get tables i ≡ table
        → row_count (drop i tables) ≡ length (rows_of tables i) + row_count (drop (i + 1) tables)
    by None e = absurd (not-within tables i h e)
    by (Some table) e =
        ap row_count (from-index tables i table e)
        ∙ sum_by-cons (λ (t : Table). length t.rows) table (drop (i + 1) tables)
        ∙ ap (λ (rows : Rows). length rows + row_count (drop (i + 1) tables)) (sym (rows_of-there tables i table e))
