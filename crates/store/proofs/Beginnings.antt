-- Columns that come behind those that tables began with.
use Rattle.std.proofs.Common.{◌≡◌, ℕ, List, [], ◌∷◌, length, take, refl, sym, ap, ◌∙◌, arith}
use Rattle.std.proofs.lemmas.List.{length-map, take_all}
use Rattle.rows.specs.declared.commit.Commit.{Commit}
use Rattle.rows.specs.declared.entry.Entry.{Entry}
use Rattle.rows.specs.Commits.{shape_after_commits}
use Rattle.rows.specs.Entries.{shape_after}
use Rattle.rows.specs.Laws.{TablesStay, ColumnsStay, EntryTellsKinds, CommitsTellKinds}
use Rattle.rows.specs.Shape.{Shape, kinds_in}
use Rattle.rows.specs.Tables.{Table, Tables, opening, shape_in}
use Rattle.store.specs.Changes.{BeganWith}
use Rattle.store.specs.Laws.{OpeningBegins, EntryKeepsFirst, CommitsKeepFirst}

-- the same, told of the kinds alone
record Begins (base shape : Shape) : Type 0 where
  many : length shape ≡ length base
  first : (table : ℕ) → take (length (kinds_in base table)) (kinds_in shape table) ≡ kinds_in base table

-- what comes first in a list that comes first in another
first-first : {A : Type 0} (first middle all : List A) → take (length first) middle ≡ first → take (length middle) all ≡ middle
    → take (length first) all ≡ first
first-first [] middle all before after = refl
first-first (one ∷ first) [] all before after = absurd cc
first-first (one ∷ first) (two ∷ middle) [] before after = absurd cc
first-first (one ∷ first) (two ∷ middle) (three ∷ all) before after =
    let own : take (length first) middle ≡ first = cc in
    let next : take (length middle) all ≡ middle = cc in
    let rest = first-first first middle all own next in
    cc

module _ (stay : ColumnsStay) (many : TablesStay) where
  begins-after : (base shape : Shape) (entries : List Entry) → Begins base shape → Begins base (shape_after shape entries)
  begins-after base shape entries begins = record {
    many = many shape entries ∙ begins.many;
    first = λ table. first-first (kinds_in base table) (kinds_in shape table) (kinds_in (shape_after shape entries) table)
        (begins.first table) (stay shape entries table);
  }

  begins-commits : (base shape : Shape) (commits : List Commit) → Begins base shape → Begins base (shape_after_commits shape commits)
  begins-commits base shape [] begins = begins
  begins-commits base shape (commit ∷ commits) begins =
      begins-commits base (shape_after shape commit.entries) commits (begins-after base shape commit.entries begins)

begins-of : (base : Shape) (tables : Tables) → BeganWith base tables → Begins base (shape_in tables)
begins-of base tables began = record {
  many = length-map tables (λ (table : Table). table.kinds) ∙ began.many;
  first = began.first;
}

of-begins : (base shape : Shape) (tables : Tables) → shape_in tables ≡ shape → Begins base shape → BeganWith base tables
of-begins base shape tables is begins = record {
  many = sym (length-map tables (λ (table : Table). table.kinds)) ∙ ap length is ∙ begins.many;
  first = λ table. ap (λ shape. take (length (kinds_in base table)) (kinds_in shape table)) is ∙ begins.first table;
}

shape-opening : (shape : Shape) → shape_in (opening shape) ≡ shape
shape-opening [] = refl
shape-opening (kinds ∷ shape) = ap (λ shape. kinds ∷ shape) (shape-opening shape)

-- ---- the laws

pub opening-begins : OpeningBegins
opening-begins shape =
    of-begins shape shape (opening shape) (shape-opening shape) (record {
      many = refl;
      first = λ table. take_all (length (kinds_in shape table)) (kinds_in shape table) (omega arith);
    })

pub entry-keeps : ColumnsStay → TablesStay → EntryTellsKinds → EntryKeepsFirst
entry-keeps stay many tells shape tables after entry began made =
    of-begins shape (shape_after (shape_in tables) (entry ∷ [])) after (tells tables after entry made)
    (begins-after stay many shape (shape_in tables) (entry ∷ []) (begins-of shape tables began))

pub commits-keep : ColumnsStay → TablesStay → CommitsTellKinds → CommitsKeepFirst
commits-keep stay many tells shape tables after commits began made =
    of-begins shape (shape_after_commits (shape_in tables) commits) after (tells tables after commits made)
    (begins-commits stay many shape (shape_in tables) commits (begins-of shape tables began))
