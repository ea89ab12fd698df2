-- The tables of a schema, without rows; and tables as entries see them, of which one is read or replaced.
use Rattle.std.proofs.Common.{◌≡◌, ℕ, ◌+◌, ◌<◌, List, [], ◌∷◌, ◌++◌, get_or, length, map, slice_get, slice_set, take, Some, refl, sym, ap}
use Rattle.std.proofs.Common.{◌∙◌}
use Rattle.std.specs.Option.{option_map}
use Rattle.std.proofs.Math.Seq.{map-set_same}
use Rattle.std.proofs.lemmas.List.{take_more, map-set}
use Rattle.std.proofs.lemmas.Option.{slice_get-map, slice_get_read, slice_get_within, get_or_from_slice_get}
use Rattle.rows.specs.declared.kind.Kind.{Kind}
use Rattle.rows.specs.Shape.{Shape}
use Rattle.rows.specs.Tables.{Table, opening}

-- the first tables of a schema, with the next one
pub opening-more : (shape : Shape) (i : ℕ) (kinds : List Kind) → Some kinds ≡ slice_get shape i
    → take (i + 1) (opening shape) ≡ take i (opening shape) ++ record { kinds = kinds; rows = [] } ∷ []
opening-more shape i kinds there =
    let table : Table = record { kinds = kinds; rows = [] } in
    let empty : List Kind → Table = λ kinds. record { kinds = kinds; rows = [] } in
    let opened : slice_get (opening shape) i ≡ Some table = slice_get-map empty shape i ∙ ap (option_map empty) (sym there) in
    take_more (opening shape) i table (slice_get_within (opening shape) i table opened)
    ∙ ap (λ table. take i (opening shape) ++ table ∷ []) (get_or_from_slice_get (opening shape) i table table opened)

pub tables-set : {A : Type 0} (table : A → Table) (all : List A) (i : ℕ) (new : A)
    → map table (slice_set all i new) ≡ slice_set (map table all) i (table new)
tables-set table all i new = map-set table all i new

module _ {A : Type 0} (table : A → Table) (all : List A) (i : ℕ) (was : A) (lt : i < length all) (is : was ≡ get_or all i was) where
  pub table-at : slice_get (map table all) i ≡ Some (table was)
  table-at = slice_get-map table all i ∙ ap (option_map table) (slice_get_read all (length all) i was refl lt is)

  pub tables-same : (new : A) → table new ≡ table was → map table (slice_set all i new) ≡ map table all
  tables-same new same = map-set_same table all i new was (same ∙ ap table is)
