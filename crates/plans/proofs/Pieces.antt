-- A scan piece by piece looks at each row of a table once, and finds it by its identifier.
use Rattle.std.proofs.Common.{◌≡◌, ℕ, zero, suc, ◌+◌, ◌<◌, ◌≤◌, ◌%◌, ◌==◌, Bool, true, false, ◌||◌, cond, not, List, [], ◌∷◌, ◌++◌}
use Rattle.std.proofs.Common.{length, take, drop, get_or, Option, None, Some, slice_get, IfSome, refl, sym, ap, ◌∙◌, subst, ⊎_elim, arith}
use Rattle.std.proofs.Common.{length-append}
use Rattle.std.specs.BTreeMap.{is_at}
use Rattle.std.specs.List.{filter}
use Rattle.std.specs.Map.{keys_of}
use Rattle.std.specs.Option.{option_map}
use Rattle.std.specs.Ordering.{nat_cmp}
use Rattle.std.proofs.Math.Nat.{mod-lt}
use Rattle.std.proofs.lemmas.Bool.{false≢true, cases_eq}
use Rattle.std.proofs.lemmas.Bool.Decides.{nat_tests}
use Rattle.std.proofs.lemmas.List.{length-take, length-drop, get_or-take, get_or-drop, get_or-map}
use Rattle.std.proofs.lemmas.List.Filters.{length-filter_both}
use Rattle.std.proofs.lemmas.Map.Entries.{length-keys_of, lookup-filter-keys}
use Rattle.std.proofs.lemmas.Option.{slice_get-get_or}
use Rattle.rows.specs.declared.value.Value.{Value}
use Rattle.rows.specs.Tables.{Rows, Tables, rows_of, row_at}
use Rattle.store.specs.Changes.{id_in, IsAboveAllBefore}
use Rattle.store.specs.Laws.{IndexedRowIsFound}
use Rattle.store.specs.Lent.{rows_in, rows_from}
use Rattle.queries.specs.declared.plan.Plan.{Plan}
use Rattle.queries.specs.Answers.{rows_among}
use Rattle.plans.specs.Inner.Merged.{merged_at}
use Rattle.plans.specs.Inner.Kept.{GroupList, kept_at, AreKept}
use Rattle.plans.specs.Inner.Pieces.{rows_of_pieces, AreAtMost, PiecesAreScanned}
use Rattle.plans.proofs.Keeping.{filter-none, or_all, rows_among-append}
use Rattle.plans.proofs.Merging.{kept_at-append, kept_at-split}

-- ---- tests one after the other

filter-both : {X : Type 0} (p q r : X → Bool) → ((x : X) → cond (q x) (p x) false ≡ r x) → (xs : List X)
    → filter p (filter q xs) ≡ filter r xs
filter-both p q r same [] = refl
filter-both p q r same (x ∷ xs) = by (q x) (r x) (same x) (filter-both p q r same xs)
  where
    by : (here both : Bool) → cond here (p x) false ≡ both → filter p (filter q xs) ≡ filter r xs
        → filter p (cond here (x ∷ filter q xs) (filter q xs)) ≡ cond both (x ∷ filter r xs) (filter r xs)
    by true both e rest =
        (λ i. cond (e i) (x ∷ filter p (filter q xs)) (filter p (filter q xs))) ∙ ap (λ list. cond both (x ∷ list) list) rest
    by false both e rest = rest ∙ ap (λ b. cond b (x ∷ filter r xs) (filter r xs)) e

filter-all : {X : Type 0} (p : X → Bool) → ((x : X) → p x ≡ true) → (xs : List X) → filter p xs ≡ xs
filter-all p all [] = refl
filter-all p all (x ∷ xs) = ap (λ b. cond b (x ∷ filter p xs) (filter p xs)) (all x) ∙ ap (λ rest. x ∷ rest) (filter-all p all xs)

-- ---- the pieces before one

-- whether a row is in one of the pieces before one, by the remainder of its identifier
abbrev is_before : ℕ → ℕ → Bool
is_before zero remainder = false
is_before (suc piece) remainder = is_before piece remainder || (remainder == piece)

-- it is then in no later piece
not-later : (piece remainder : ℕ) → is_before piece remainder ≡ true → remainder < piece
not-later zero remainder e = absurd (false≢true e)
not-later (suc piece) remainder e = by (is_before piece remainder) (not-later piece remainder) e
  where
    by : (before : Bool) → (before ≡ true → remainder < piece) → (before || (remainder == piece)) ≡ true → remainder < suc piece
    by true less e = let lt = less refl in omega (arith, lt)
    by false less e = grind (arith, nat_tests)

before-all : (piece remainder : ℕ) → remainder < piece → is_before piece remainder ≡ true
before-all zero remainder lt = absurd (omega arith)
before-all (suc piece) remainder lt = by (before-all piece remainder) (remainder == piece) refl
  where
    by : (remainder < piece → is_before piece remainder ≡ true) → (here : Bool) → (remainder == piece) ≡ here
        → (is_before piece remainder || here) ≡ true
    by rest true e = or_all (is_before piece remainder)
    by rest false e = ap (λ b. b || false) (rest (grind (arith, nat_tests)))

module _ (rows : Rows) (pieces : ℕ) where
  abbrev test : ℕ → ℕ × List Value → Bool
  test piece row = is_before piece (row.0 % pieces)

  abbrev before : ℕ → Rows
  before piece = filter (test piece) rows

  of_earlier : (piece : ℕ) → filter (test piece) (before (suc piece)) ≡ before piece
  of_earlier piece = filter-both (test piece) (test (suc piece)) (test piece) (λ row. by (test piece row) (row.0 % pieces == piece)) rows
    where
      by : (earlier here : Bool) → cond (earlier || here) earlier false ≡ earlier
      by true here = refl
      by false true = refl
      by false false = refl

  of_piece : (piece : ℕ) → filter (λ row. not (test piece row)) (before (suc piece)) ≡ rows_in rows pieces piece
  of_piece piece =
      filter-both (λ row. not (test piece row)) (test (suc piece)) (λ row. row.0 % pieces == piece)
      (λ row. by (row.0 % pieces) (test piece row) (row.0 % pieces == piece) refl refl) rows
    where
      by : (remainder : ℕ) (earlier here : Bool) → is_before piece remainder ≡ earlier → (remainder == piece) ≡ here
          → cond (earlier || here) (not earlier) false ≡ here
      by remainder true true e f = let lt = not-later piece remainder e in absurd (grind (arith, nat_tests))
      by remainder true false e f = refl
      by remainder false true e f = refl
      by remainder false false e f = refl

  length-pieces : (piece : ℕ) → length (rows_of_pieces rows pieces piece) ≡ length (before piece)
  length-pieces zero = ap length (sym (filter-none (test zero) rows (λ row. refl)))
  length-pieces (suc piece) =
      let earlier = length-pieces piece in
      let sizes = length-append (rows_of_pieces rows pieces piece) (rows_in rows pieces piece) in
      let both = length-filter_both (test piece) (λ row. not (test piece row)) (λ row. refl) (before (suc piece)) in
      let first = ap length (of_earlier piece) in
      let second = ap length (of_piece piece) in
      omega (arith, earlier, sizes, both, first, second)

  -- no row is looked at twice
  pub pieces-within : (piece : ℕ) → length (rows_of_pieces rows pieces piece) ≤ length rows
  pieces-within piece =
      let size = length-pieces piece in
      let both = length-filter_both (test piece) (λ row. not (test piece row)) (λ row. refl) rows in
      omega (arith, size, both)

  module _ (tables : Tables) (plan : Plan) (group : List Value) where
    kept-before : (piece : ℕ)
        → kept_at plan (rows_among tables plan (rows_of_pieces rows pieces piece)) group
        ≡ kept_at plan (rows_among tables plan (before piece)) group
    kept-before zero = ap (λ list. kept_at plan (rows_among tables plan list) group) (sym (filter-none (test zero) rows (λ row. refl)))
    kept-before (suc piece) =
        let kept : Rows → Option (List _) = λ list. kept_at plan (rows_among tables plan list) group in
        let earlier : Rows = rows_of_pieces rows pieces piece in
        let here : Rows = rows_in rows pieces piece in
        ap (λ list. kept_at plan list group) (rows_among-append tables plan earlier here)
        ∙ kept_at-append plan (rows_among tables plan earlier) (rows_among tables plan here) group
        ∙ (λ i. merged_at plan.aggregates ((kept-before piece ∙ ap kept (sym (of_earlier piece))) i) (ap kept (sym (of_piece piece)) i))
        ∙ sym (kept_at-split tables plan (test piece) (before (suc piece)) group)

    -- what is kept of all pieces is what is kept of the table
    pub kept-pieces : zero < pieces
        → kept_at plan (rows_among tables plan (rows_of_pieces rows pieces pieces)) group ≡ kept_at plan (rows_among tables plan rows) group
    kept-pieces some =
        kept-before pieces
        ∙ ap (λ list. kept_at plan (rows_among tables plan list) group)
        (filter-all (test pieces) (λ row. before-all pieces (row.0 % pieces) (mod-lt row.0 some)) rows)

-- ---- the identifiers that are lent

-- none are lent
pub no-ids : (ids : List ℕ) → (length ids == 0) ≡ true → ids ≡ []
no-ids [] e = refl
no-ids (id ∷ ids) e = absurd (grind (arith, nat_tests))

module _ (rows : Rows) (ids : List ℕ) (from : ℕ) (lent : ids ≡ keys_of (rows_from rows from (length ids))) where
  -- there are as many rows
  pub lent-within : from ≤ length rows → from + length ids ≤ length rows
  lent-within le =
      let size = ap length lent ∙ length-keys_of (rows_from rows from (length ids)) ∙ length-take (length ids) (drop from rows) in
      let left = length-drop from rows in
      omega (arith, size, left)

  -- each is the identifier of a row
  pub lent-id : (j i id : ℕ) → from ≤ length rows → j < length ids → i ≡ from + j → id ≡ get_or ids j 0 → Some id ≡ id_in rows i
  lent-id j i id le lt at reads =
      let within = lent-within le in
      let here : i < length rows = omega (arith, within) in
      let cut : j < length (take (length ids) (drop from rows)) =
      let size = length-take (length ids) (drop from rows) in let left = length-drop from rows in omega (arith, size, left, within) in
      let row : ℕ × List Value = get_or rows i (id, []) in
      let is : id ≡ row.0 =
      reads ∙ ap (λ list. get_or list j 0) lent
      ∙ get_or-map (λ (entry : ℕ × List Value). entry.0) (take (length ids) (drop from rows)) j (id, []) 0 cut
      ∙ ap (λ (entry : ℕ × List Value). entry.0) (get_or-take (length ids) (drop from rows) j (id, []) lt ∙ get_or-drop from rows j (id, [])
      ∙ ap (λ k. get_or rows k (id, [])) (sym at)) in
      ap Some is ∙ sym (ap (option_map (λ (entry : ℕ × List Value). entry.0)) (slice_get-get_or rows i (id, []) here))

-- ---- identifiers that rise

above-IfSome : (o : Option ℕ) (last id : ℕ) → last < id → IfSome o (λ before. before ≤ last) → IfSome o (λ before. before < id)
above-IfSome None last id lt h = tt
above-IfSome (Some before) last id lt h = omega arith

pub above-all : (rows : Rows) (from last id : ℕ) → AreAtMost rows from last → (0 < from → last < id) → IsAboveAllBefore rows from id
above-all rows from last id most above j lt = above-IfSome (id_in rows j) last id (above (omega arith)) (most j lt)

most-IfSome : (o : Option ℕ) (id : ℕ) → IfSome o (λ before. before < id) → IfSome o (λ before. before ≤ id)
most-IfSome None id h = tt
most-IfSome (Some before) id h = omega arith

pub most-next : (rows : Rows) (from id : ℕ) → IsAboveAllBefore rows from id → Some id ≡ id_in rows from → AreAtMost rows (from + 1) id
most-next rows from id above is j lt =
    ⊎_elim
    (λ e. subst (λ o. IfSome o (λ before. before ≤ id)) (is ∙ ap (id_in rows) (sym e)) (omega arith))
    (λ other. most-IfSome (id_in rows j) id (above j (omega (arith, other))))
    (cases_eq j from)

-- ---- a row of a piece

-- is the one that its identifier finds among all
pub row-of-piece : (rows : Rows) (pieces piece id : ℕ) (own : List Value) → row_at (rows_in rows pieces piece) id ≡ Some own
    → row_at rows id ≡ Some own
row-of-piece rows pieces piece id own e = by (id % pieces == piece) (sym found ∙ e)
  where
    same : (other : ℕ) → is_at (nat_cmp id) other ≡ true → (other % pieces == piece) ≡ (id % pieces == piece)
    same other h = let is : other ≡ id = grind (arith, nat_tests) in ap (λ n. n % pieces == piece) is

    found : row_at (rows_in rows pieces piece) id ≡ cond (id % pieces == piece) (row_at rows id) None
    found = lookup-filter-keys (is_at (nat_cmp id)) (λ other. other % pieces == piece) (id % pieces == piece) same rows

    by : (here : Bool) → cond here (row_at rows id) None ≡ Some own → row_at rows id ≡ Some own
    by true h = h
    by false h = cc

-- the row of an identifier that is lent
pub scan-row : IndexedRowIsFound → (rows : Rows) (pieces piece : ℕ) (ids : List ℕ) (start j i id last : ℕ)
    → ids ≡ keys_of (rows_from (rows_in rows pieces piece) start (length ids)) → start ≤ length (rows_in rows pieces piece)
    → j < length ids → i ≡ start + j → id ≡ get_or ids j 0
    → AreAtMost (rows_in rows pieces piece) i last → (0 < i → last < id)
    → (own : List Value) × (slice_get (rows_in rows pieces piece) i ≡ Some (id, own)) × (row_at rows id ≡ Some own)
scan-row found rows pieces piece ids start j i id last lent within lt at reads most rises =
    let here : Rows = rows_in rows pieces piece in
    let is = found here i id (lent-id here ids start lent j i id within lt at reads) (above-all here i last id most rises) in
    (is.0, is.1, row-of-piece rows pieces piece id is.0 is.2)

-- ---- a scan

module _ (tables : Tables) (plan : Plan) (pieces piece count : ℕ)
    (counts : count ≡ length (rows_of_pieces (rows_of tables plan.table) pieces piece)) where
  abbrev rows : Rows
  rows = rows_of tables plan.table

  abbrev here : Rows
  here = rows_in rows pieces piece

  next : rows_of_pieces rows pieces (piece + 1) ≡ rows_of_pieces rows pieces piece ++ here
  next = ap (rows_of_pieces rows pieces) {x = piece + 1} {y = suc piece} (omega arith)

  size : length (rows_of_pieces rows pieces (piece + 1)) ≡ count + length here
  size =
      let sizes = ap length next ∙ length-append (rows_of_pieces rows pieces piece) here in
      omega (arith, sizes, counts)

-- all pieces were scanned: what is kept is what is kept of the table's rows
pub all-scanned : (tables : Tables) (plan : Plan) (pieces piece count : ℕ) (groups : GroupList) → zero < pieces → piece ≡ pieces
    → PiecesAreScanned tables plan pieces piece count groups → AreKept tables plan (rows_of tables plan.table) count groups
all-scanned tables plan pieces piece count groups some ends scanned = record {
  found = λ group.
      scanned.kept.found group
      ∙ ap (λ n. kept_at plan (rows_among tables plan (rows_of_pieces (rows_of tables plan.table) pieces n)) group) ends
      ∙ kept-pieces (rows_of tables plan.table) pieces tables plan group some;
  within = scanned.kept.within;
}
