-- Tables, and the words that name them.
use Rattle.std.proofs.Common.{◌≡◌, ℕ, List, [], Bool, true, false, cond, Option, None, Some, Ok, Err, sym, refl, get_or}
use Rattle.std.specs.Str.{bytes_eq}
use Rattle.std.proofs.lemmas.List.Quantifiers.{position-Some}
use Rattle.std.proofs.lemmas.Option.{slice_get-get_or}
use Rattle.rows.specs.declared.kind.Kind.{Kind}
use Rattle.script.specs.declared.faults.Reason.TheVariants.{BadWords, NoTable}
use Rattle.script.specs.Text.{is_name}
use Rattle.script.specs.Tables.{name_in, table_called}
use Rattle.script.specs.Inner.WordReading.{or_no_table, table_of}
use Rattle.script.proofs.Numbers.{words_same}

-- a table that was found has the name that was looked for
pub named_so : (schema : List (List ℕ × List Kind)) (name : List ℕ) (table : ℕ) → table_called schema name ≡ Some table
    → name_in schema table ≡ name
named_so schema name table h =
    let unnamed : List ℕ × List Kind = ([], []) in
    let p = position-Some (λ (it : List ℕ × List Kind). bytes_eq name it.0) schema table unnamed h in
    rw (slice_get-get_or schema table unnamed p.0) (sym (words_same name (get_or schema table unnamed).0 p.1))

-- what a name gives
pub table_of-name : (schema : List (List ℕ × List Kind)) (name : List ℕ) → is_name name ≡ true
    → table_of schema name ≡ or_no_table (table_called schema name)
unfolding table_of
table_of-name schema name h = rw h refl

-- a word that gives a table is its name
pub table_of-some : (schema : List (List ℕ × List Kind)) (name : List ℕ) (table : ℕ) → table_of schema name ≡ Ok table
    → (is_name name ≡ true) × (table_called schema name ≡ Some table)
unfolding table_of
table_of-some schema name table h = by (is_name name) refl (table_called schema name) refl h
  where
    by : (is : Bool) → is_name name ≡ is → (found : Option ℕ) → table_called schema name ≡ found
        → cond is (or_no_table found) (Err BadWords) ≡ Ok table
        → (is_name name ≡ true) × (table_called schema name ≡ Some table)
    by false e found f k = absurd (cc)
    by true e None f k = absurd (cc)
    by true e (Some number) f k =
        let same : number ≡ table = cc in
        (e, rw (sym same) f)

-- a word that gives no table is no name, or that of none
pub table_of-none : (schema : List (List ℕ × List Kind)) (name : List ℕ) → table_of schema name ≡ Err NoTable
    → (is_name name ≡ true) × (table_called schema name ≡ None)
unfolding table_of
table_of-none schema name h = by (is_name name) refl (table_called schema name) refl h
  where
    by : (is : Bool) → is_name name ≡ is → (found : Option ℕ) → table_called schema name ≡ found
        → cond is (or_no_table found) (Err BadWords) ≡ Err NoTable
        → (is_name name ≡ true) × (table_called schema name ≡ None)
    by false e found f k = absurd (cc)
    by true e None f k = (e, f)
    by true e (Some number) f k = absurd (cc)
