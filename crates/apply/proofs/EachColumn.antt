-- One column more was changed, and what is left of a row's bytes behind it.
use Rattle.std.proofs.Common.{◌≡◌, ℕ, zero, suc, ◌+◌, ◌<◌, ◌≤◌, List, [], ◌∷◌, ◌++◌, length, get_or, slice_set, take, drop, refl, sym}
use Rattle.std.proofs.Common.{ap, ◌∙◌, inl, inr, arith}
use Rattle.std.proofs.lemmas.Bool.{cases_eq}
use Rattle.std.proofs.lemmas.List.{get_or_at, get_or_append_left, get_or-set_same, get_or-set_other, drop-drop, take_more, length-map}
use Rattle.std.proofs.lemmas.List.{length-drop}
use Rattle.std.proofs.lemmas.List.Sums.{sum_by-append, sum_by-take-drop}
use Rattle.rows.specs.Shape.{row_width, width_of}
use Rattle.apply.specs.declared.cells.Cells.{Cells}
use Rattle.apply.specs.Columns.{kind_of, Keeps}
use Rattle.apply.specs.Blocks.{kinds_with}
use Rattle.apply.specs.Inner.Edits.{Each, SameFrom, bytes_from}

module _ (R : ℕ → Cells → Cells → Type 0) (olds news : List Cells) (i : ℕ) (new : Cells) where
  -- the column at the index was changed
  pub each-more : i < length news → Each R i olds news → SameFrom i olds news → ((d : Cells) → R i (get_or news i d) new)
      → Each R (i + 1) olds (slice_set news i new)
  each-more lt each same made k d few = elim (cases_eq k i) [
    | inl here ↦ rw (here, get_or-set_same news i new d lt, ← same i d (omega arith)) (made d)
    | inr other ↦ rw (get_or-set_other news i k new d other) (each k d (omega arith))
  ]

  pub same-more : SameFrom i olds news → SameFrom (i + 1) olds (slice_set news i new)
  same-more same k d le = get_or-set_other news i k new d (λ e. omega (arith, e, le)) ∙ same k d (omega arith)

  -- one more column was made
  pub each-push : length news ≡ i → Each R i olds news → ((d : Cells) → R i (get_or olds i d) new)
      → Each R (i + 1) olds (news ++ new ∷ [])
  each-push same each made k d few = elim (cases_eq k i) [
    | inl here ↦ rw (here, get_or_at news new [] d i same) (made d)
    | inr other ↦ rw (get_or_append_left news (new ∷ []) d k (omega arith)) (each k d (omega arith))
  ]

keeps-both : (old new newer : Cells) → Keeps old new → Keeps new newer → Keeps old newer
keeps-both old new newer one other = record {
  kind = other.kind ∙ one.kind;
  cells = λ rows h. other.cells rows (one.cells rows h);
  values = λ rows. other.values rows ∙ one.values rows;
}

pub keeps-more : (olds news : List Cells) (i : ℕ) (new : Cells) → i < length news → length news ≡ length olds
    → Each (λ k. Keeps) (length olds) olds news → ((d : Cells) → Keeps (get_or news i d) new)
    → Each (λ k. Keeps) (length olds) olds (slice_set news i new)
keeps-more olds news i new lt same each made k d few = elim (cases_eq k i) [
  | inl here ↦ rw (here, get_or-set_same news i new d lt)
      (keeps-both (get_or olds i d) (get_or news i d) new (each i d (omega arith)) (made d))
  | inr other ↦ rw (get_or-set_other news i k new d other) (each k d few)
]

-- the bytes of the columns before one more
pub width-more : (columns : List Cells) (k : ℕ) (d : Cells) → k < length columns
    → row_width (take (k + 1) (kinds_with columns)) ≡ row_width (take k (kinds_with columns)) + width_of (kind_of (get_or columns k d))
width-more columns k d lt =
    let kinds = kinds_with columns in
    let within : k < length kinds = rw (length-map columns kind_of) lt in
    let one = take_more kinds k (kind_of d) within in
    let at : get_or kinds k (kind_of d) ≡ kind_of (get_or columns k d) = read columns k in
    ap row_width one ∙ sum_by-append width_of (take k kinds) (get_or kinds k (kind_of d) ∷ []) ∙ rw at (omega arith)
  where
    read : (columns : List Cells) (k : ℕ) → get_or (kinds_with columns) k (kind_of d) ≡ kind_of (get_or columns k d)
    read [] k = refl
    read (column ∷ columns) zero = refl
    read (column ∷ columns) (suc k) = read columns k

pub width-few : (columns : List Cells) (k : ℕ) → row_width (take k (kinds_with columns)) ≤ row_width (kinds_with columns)
width-few columns k = omega (arith, sum_by-take-drop width_of (kinds_with columns) k)

-- a column's bytes are there, and what is left of them behind it
pub bytes-wide : (columns : List Cells) (k : ℕ) (d : Cells) (bytes : List ℕ) → k < length columns
    → row_width (kinds_with columns) ≤ length bytes → width_of (kind_of (get_or columns k d)) ≤ length (bytes_from columns k bytes)
bytes-wide columns k d bytes lt wide =
    let more = width-more columns k d lt in
    let few = width-few columns (k + 1) in
    omega (arith, more, few, length-drop (row_width (take k (kinds_with columns))) bytes)

pub bytes-more : (columns : List Cells) (k : ℕ) (d : Cells) (bytes : List ℕ) → k < length columns
    → drop (width_of (kind_of (get_or columns k d))) (bytes_from columns k bytes) ≡ bytes_from columns (k + 1) bytes
bytes-more columns k d bytes lt =
    drop-drop (width_of (kind_of (get_or columns k d))) (row_width (take k (kinds_with columns))) bytes
    ∙ ap (λ n. drop n bytes) (sym (width-more columns k d lt))
