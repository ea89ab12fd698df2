-- Tables of which the first are as at the opening, and the others as they were.
use Rattle.std.proofs.Common.{◌≡◌, ℕ, suc, zero, ◌+◌, ◌<◌, ◌≤◌, List, [], ◌∷◌, ◌++◌, length, map, get_or, take, drop, Some}
use Rattle.std.proofs.Common.{slice_get, slice_set, refl, sym, ap, ◌∙◌, arith}
use Rattle.std.specs.Option.{option_map, unwrap_or}
use Rattle.std.proofs.lemmas.List.{length-map, get_or-map, map-set, take_all, take_at, drop_all, append-nil}
use Rattle.std.proofs.lemmas.Option.{slice_get-map, slice_get-get_or, slice_get_within, get_or_from_slice_get}
use Rattle.rows.specs.declared.kind.Kind.{Kind}
use Rattle.rows.specs.Shape.{Shape, kinds_in}
use Rattle.rows.specs.Tables.{Table, Tables, opening, kinds_of}
use Rattle.store.specs.Changes.{BeganWith}

mixed-at : {A : Type 0} (k : ℕ) (news olds : List A) (d : A) → length news ≡ length olds → k < length olds
    → get_or (take k news ++ drop k olds) k d ≡ get_or olds k d
mixed-at k [] [] d many lt = absurd (omega arith)
mixed-at k [] (old ∷ olds) d many lt = absurd (omega arith)
mixed-at k (new ∷ news) [] d many lt = absurd (omega arith)
mixed-at zero (new ∷ news) (old ∷ olds) d many lt = refl
mixed-at (suc k) (new ∷ news) (old ∷ olds) d many lt = mixed-at k news olds d (omega arith) (omega arith)

mixed-next : {A : Type 0} (k : ℕ) (news olds : List A) (d : A) → length news ≡ length olds → k < length olds
    → slice_set (take k news ++ drop k olds) k (get_or news k d) ≡ take (suc k) news ++ drop (suc k) olds
mixed-next k [] [] d many lt = absurd (omega arith)
mixed-next k [] (old ∷ olds) d many lt = absurd (omega arith)
mixed-next k (new ∷ news) [] d many lt = absurd (omega arith)
mixed-next zero (new ∷ news) (old ∷ olds) d many lt = refl
mixed-next (suc k) (new ∷ news) (old ∷ olds) d many lt =
    ap (λ rest. new ∷ rest) (mixed-next k news olds d (omega arith) (omega arith))

pub mixed-all : {A : Type 0} (k : ℕ) (news olds : List A) → length news ≡ length olds → length olds ≤ k → take k news ++ drop k olds ≡ news
mixed-all k news olds many le =
    ap (λ front. front ++ drop k olds) (take_all k news (omega (arith, many, le)))
    ∙ ap (λ back. news ++ back) (drop_all k olds le)
    ∙ append-nil news

pub opening-length : (shape : Shape) → length (opening shape) ≡ length shape
opening-length shape = length-map shape (λ (kinds : List Kind). record { kinds = kinds; rows = [] })

-- all of them, in a store
pub put-back : (shape : Shape) (olds news : Tables) (len : ℕ) → length olds ≡ len → BeganWith shape olds → news ≡ opening shape
    → take len (news ++ drop (length news) olds) ≡ opening shape
put-back shape olds news len is began cleared =
    take_at news (drop (length news) olds) len (ap length cleared ∙ opening-length shape ∙ sym began.many ∙ is) ∙ cleared

-- the next of them
module _ {A : Type 0} (table : A → Table) (shape : Shape) (olds all : List A) (k : ℕ) (one : A) (kinds : List Kind)
    (began : BeganWith shape (map table olds)) (there : slice_get shape k ≡ Some kinds) (lt : k < length all)
    (so : map table all ≡ take k (opening shape) ++ drop k (map table olds)) (is : one ≡ get_or all k one) where
  many : length (opening shape) ≡ length (map table olds)
  many = opening-length shape ∙ sym began.many

  within : k < length (map table olds)
  within = omega (arith, slice_get_within shape k kinds there, began.many)

  was : table one ≡ get_or (map table olds) k (table one)
  was =
      ap table is ∙ sym (get_or-map table all k one (table one) lt) ∙ ap (λ tables. get_or tables k (table one)) so
      ∙ mixed-at k (opening shape) (map table olds) (table one) many within

  -- it begins with the schema's kinds
  pub first-kinds : take (length kinds) (table one).kinds ≡ kinds
  first-kinds =
      let tables = map table olds in
      let first : kinds_in shape k ≡ kinds = ap (λ found. unwrap_or found []) there in
      let own : kinds_of tables k ≡ (table one).kinds =
      ap (λ found. unwrap_or found []) (slice_get-map (λ (t : Table). t.kinds) tables k
      ∙ ap (option_map (λ (t : Table). t.kinds)) (slice_get-get_or tables k (table one) within))
      ∙ ap (λ (t : Table). t.kinds) (sym was) in
      ap (λ (kinds : List Kind). take (length kinds) (table one).kinds) (sym first)
      ∙ ap (take (length (kinds_in shape k))) (sym own) ∙ began.first k ∙ first

  -- and is then as at the opening
  pub cleared-more : (new : A) → table new ≡ record { kinds = take (length kinds) (table one).kinds; rows = [] }
      → map table (slice_set all k new) ≡ take (k + 1) (opening shape) ++ drop (k + 1) (map table olds)
  cleared-more new cleared =
      let empty : List Kind → Table = λ kinds. record { kinds = kinds; rows = [] } in
      let opened : get_or (opening shape) k (table one) ≡ empty kinds =
      get_or_from_slice_get (opening shape) k (empty kinds) (table one) (slice_get-map empty shape k ∙ ap (option_map empty) there) in
      let next : suc k ≡ k + 1 = omega arith in
      map-set table all k new
      ∙ ap (λ tables. slice_set tables k (table new)) so
      ∙ ap (slice_set (take k (opening shape) ++ drop k (map table olds)) k) (cleared ∙ ap empty first-kinds ∙ sym opened)
      ∙ mixed-next k (opening shape) (map table olds) (table one) many within
      ∙ ap (λ n. take n (opening shape) ++ drop n (map table olds)) next
