-- Tables and their lines: a table's line falls into its words, and is of one table.
use Rattle.std.proofs.Common.{◌≡◌, ℕ, ◌==◌, nat_lt, cond, Bool, true, false, List, [], ◌∷◌, ◌++◌, length, map, codes, Option, None, Some}
use Rattle.std.proofs.Common.{refl, sym, ap, ◌∙◌, arith}
use Rattle.std.specs.List.{AllByRecursion, list_all, slice_split}
use Rattle.std.specs.Option.{option_or}
use Rattle.std.proofs.lemmas.Bool.{and_parts}
use Rattle.std.proofs.lemmas.Bool.Decides.{nat_tests}
use Rattle.rows.specs.declared.kind.Kind.{Kind}
use Rattle.rows.specs.declared.faults.SchemaFault.TheVariants.{Empty, TooManyTables}
use Rattle.rows.specs.Shape.{is_good}
use Rattle.rows.specs.SchemaFaults.{schema_fault, table_fault, tables_fault}
use Rattle.rows.specs.Limits.{tables_max}
use Rattle.script.specs.Text.{is_name}
use Rattle.script.specs.Settings.{kind_text, table_line}
use Rattle.script.specs.Inner.SettingWords.{table_words}
use Rattle.script.proofs.WordSplitting.{IsPlain, parts_words, split-words}
use Rattle.script.proofs.Plain.{plain-by-test, name-plain}
use Rattle.script.proofs.KindWords.{kinds-plain, kinds-same}

-- a table that a line can set
pub record HasTableLine (table : List ℕ × List Kind) : Type 0 where
  pub named : is_name table.0 ≡ true
  pub good : list_all is_good table.1 ≡ true

pub table-plain : (table : List ℕ × List Kind) → HasTableLine table → AllByRecursion IsPlain (table_words table)
table-plain table is =
    (plain-by-test (codes "table") refl, (name-plain table.0 is.named, kinds-plain table.1 is.good))

split-table : (table : List ℕ × List Kind) → HasTableLine table → slice_split parts_words (table_line table) ≡ table_words table
split-table table is = split-words (table_words table) (omega arith) (table-plain table is)

-- tables with one list of words are one
pub words-same : (a b : List ℕ × List Kind) → list_all is_good a.1 ≡ true → list_all is_good b.1 ≡ true
    → table_words a ≡ table_words b → a ≡ b
words-same (a_name, a_kinds) (b_name, b_kinds) a_good b_good same =
    let names : a_name ≡ b_name = cc in
    let written : map kind_text a_kinds ≡ map kind_text b_kinds = cc in
    let kinds : a_kinds ≡ b_kinds = kinds-same a_kinds b_kinds a_good b_good written in
    cc

-- tables with one line are one
pub table-same : (a b : List ℕ × List Kind) → HasTableLine a → HasTableLine b → table_line a ≡ table_line b → a ≡ b
table-same a b a_is b_is same =
    words-same a b a_is.good b_is.good (sym (split-table a a_is) ∙ ap (slice_split parts_words) same ∙ split-table b b_is)

-- a test that names a fault was not passed
pub no_fault : {X : Type 0} (test : Bool) (x : X) (rest : Option X) → cond test (Some x) rest ≡ None → rest ≡ None
no_fault true x rest none = cc
no_fault false x rest none = none

pub neither : {X : Type 0} (a b : Option X) → option_or a b ≡ None → (a ≡ None) × (b ≡ None)
neither None b none = (refl, none)
neither (Some x) b none = cc

good-columns : (before : List (List ℕ × List Kind)) (table : List ℕ × List Kind) → table_fault before table ≡ None
    → list_all is_good table.1 ≡ true
good-columns before table none = grind (arith, nat_tests)

abbrev HasGoodColumns : List ℕ × List Kind → Type 0
HasGoodColumns table = list_all is_good table.1 ≡ true

good-tables : (before tables : List (List ℕ × List Kind)) → tables_fault before tables ≡ None → AllByRecursion HasGoodColumns tables
good-tables before [] none = tt
good-tables before (table ∷ tables) none =
    let both = neither (table_fault before table) (tables_fault (before ++ table ∷ []) tables) none in
    (good-columns before table both.0, good-tables (before ++ table ∷ []) tables both.1)

-- tables that are a schema have good columns
good-schema : (tables : List (List ℕ × List Kind)) → schema_fault tables ≡ None → AllByRecursion HasGoodColumns tables
good-schema tables none =
    let some = no_fault (length tables == 0) Empty _ none in
    let few = no_fault (nat_lt tables_max (length tables)) TooManyTables _ some in
    good-tables [] tables few

all-have-lines : (tables : List (List ℕ × List Kind)) → list_all (λ table. is_name table.0) tables ≡ true
    → AllByRecursion HasGoodColumns tables → AllByRecursion HasTableLine tables
all-have-lines [] names good = tt
all-have-lines (table ∷ tables) names good =
    let both = and_parts (is_name table.0) (list_all (λ table. is_name table.0) tables) names in
    (record { named = both.0; good = good.0 }, all-have-lines tables both.1 good.1)

-- each table of a schema whose names have the form of names has a line
pub schema-has-lines : (tables : List (List ℕ × List Kind)) → list_all (λ table. is_name table.0) tables ≡ true
    → schema_fault tables ≡ None → AllByRecursion HasTableLine tables
schema-has-lines tables names none = all-have-lines tables names (good-schema tables none)

-- the one table more that tables with one line more have
pub record IsLastTable (before : List (List ℕ × List Kind)) (line : List ℕ) (after : List (List ℕ × List Kind)) : Type 0 where
  pub table : List ℕ × List Kind
  pub has_line : HasTableLine table
  pub line_is : table_line table ≡ line
  pub behind : after ≡ before ++ table ∷ []

pub last-table : (before : List (List ℕ × List Kind)) (line : List ℕ) (after : List (List ℕ × List Kind))
    → AllByRecursion HasTableLine before → AllByRecursion HasTableLine after
    → map table_line after ≡ map table_line before ++ line ∷ [] → IsLastTable before line after
last-table [] line [] good more same = absurd (let no : ⊥ = cc in no)
last-table [] line (table ∷ []) good more same =
    record { table = table; has_line = more.0; line_is = let heads : table_line table ≡ line = cc in heads; behind = refl }
last-table [] line (table ∷ next ∷ after) good more same = absurd (let no : ⊥ = cc in no)
last-table (one ∷ before) line [] good more same = absurd (let no : ⊥ = cc in no)
last-table (one ∷ before) line (other ∷ after) good more same =
    let heads : table_line other ≡ table_line one = cc in
    let tails : map table_line after ≡ map table_line before ++ line ∷ [] = cc in
    let one_is : other ≡ one = table-same other one more.0 good.0 heads in
    let last = last-table before line after good.1 more.1 tails in
    let behind : after ≡ before ++ last.table ∷ [] = last.behind in
    record { table = last.table; has_line = last.has_line; line_is = last.line_is; behind = cc }
