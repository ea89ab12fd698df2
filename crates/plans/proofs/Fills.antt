-- The columns that are filled of a block's rows, one after the other.
use Rattle.std.proofs.Common.{◌≡◌, ◌≢◌, ℕ, zero, suc, ◌+◌, ◌<◌, Bool, true, false, ◌==◌, List, [], ◌∷◌, ◌++◌, length, map, take, get_or}
use Rattle.std.proofs.Common.{Option, slice_get, refl, sym, ap, ◌∙◌, arith, eqb-true}
use Rattle.std.specs.Option.{option_map_or}
use Rattle.std.proofs.lemmas.Bool.Decides.{nat_tests}
use Rattle.std.proofs.lemmas.List.{append-nil, append_assoc, length-append, length-map, length_push, map_push, map_more, get_or_push}
use Rattle.std.proofs.lemmas.List.{get_or_append_left}
use Rattle.std.proofs.lemmas.List.Elements.{All-push}
use Rattle.rows.specs.declared.value.Value.{Value}
use Rattle.plans.specs.declared.cells.Cells.{Cells}
use Rattle.queries.specs.declared.column.Column.{Column}
use Rattle.plans.specs.declared.filled.Filled.{Filled}
use Rattle.queries.specs.Answers.{JoinedRow, joined_value, values_in}
use Rattle.plans.specs.Inner.Cells.{values_of, values_at, HaveColumns, AreColumnsOf}
use Rattle.plans.specs.Inner.Partnered.{AreFilled, Grows, IsColumnAt}
use Rattle.plans.proofs.Numbers.{get-last}

get-grow : {X : Type 0} (before more : List X) (place : ℕ) → place < length before
    → slice_get (before ++ more) place ≡ slice_get before place
get-grow [] more place lt = absurd (omega arith)
get-grow (first ∷ before) more zero lt = refl
get-grow (first ∷ before) more (suc place) lt = get-grow before more place (omega arith)

values-grow : (before more : List Cells) (place : ℕ) → place < length before → values_at (before ++ more) place ≡ values_at before place
values-grow before more place lt = ap (λ (found : Option Cells). option_map_or values_of found []) (get-grow before more place lt)

pub values-grown : (before after : List Cells) (place : ℕ) → Grows before after → place < length before
    → values_at after place ≡ values_at before place
values-grown before after place grows lt =
    ap (λ (list : List Cells). values_at list place) grows.1 ∙ values-grow before grows.0 place lt

pub grows-none : (cells : List Cells) → Grows cells cells
grows-none cells = ([], sym (append-nil cells))

pub grows-more : (before next after : List Cells) → Grows before next → Grows next after → Grows before after
grows-more before next after one two =
    (one.0 ++ two.0, two.1 ∙ ap (λ front. front ++ two.0) one.1 ∙ append_assoc before one.0 two.0)

pub filled-more : (rows : List JoinedRow) (before after : Filled) (column : Column) (cells : Cells) → AreFilled rows before
    → after.columns.items ≡ before.columns.items ++ column ∷ [] → after.cells.items ≡ before.cells.items ++ cells ∷ []
    → values_of cells ≡ values_in column rows → AreFilled rows after
filled-more rows before after column cells filled columns are is = record {
  sizes = ap length are ∙ length_push before.cells.items cells ∙ ap (λ n. n + 1) filled.sizes
      ∙ sym (ap length columns ∙ length_push before.columns.items column);
  each = λ k d lt.
      by k d (omega (arith, lt, ap length columns, length_push before.columns.items column)) (k == length before.columns.items) refl;
}
  where
    by : (k : ℕ) (d : Column) → k < length before.columns.items + 1 → (same : Bool) → (k == length before.columns.items) ≡ same
        → values_at after.cells.items k ≡ values_in (get_or after.columns.items k d) rows
    by k d lt true same =
        let at : k ≡ length before.columns.items = eqb-true k (length before.columns.items) same in
        ap (λ (list : List Cells). values_at list k) are
        ∙ ap (λ (n : ℕ). values_at (before.cells.items ++ cells ∷ []) n) (at ∙ sym filled.sizes)
        ∙ ap (λ (found : Option Cells). option_map_or values_of found []) (get-last before.cells.items cells)
        ∙ is
        ∙ ap (λ (c : Column). values_in c rows)
        (sym (ap (λ (list : List Column). get_or list k d) columns ∙ get_or_push before.columns.items column d k (sym at)))
    by k d lt false same =
        let apart : k ≢ length before.columns.items = grind (arith, nat_tests, same) in
        let below : k < length before.columns.items = omega (arith, lt, apart) in
        ap (λ (list : List Cells). values_at list k) are
        ∙ values-grow before.cells.items (cells ∷ []) k (omega (arith, below, filled.sizes))
        ∙ filled.each k d below
        ∙ ap (λ (c : Column). values_in c rows)
        (sym (ap (λ (list : List Column). get_or list k d) columns
        ∙ get_or_append_left before.columns.items (column ∷ []) d k below))

-- a column that was filled has its place
pub filled-place : (rows : List JoinedRow) (filled : Filled) (columns : List Column) (place : ℕ) (column : Column) → AreFilled rows filled
    → columns ≡ filled.columns.items → ((d : Column) → (place < length columns) × (get_or columns place d ≡ column))
    → IsColumnAt filled.cells.items place (values_in column rows)
filled-place rows filled columns place column are is found =
    let lt = (found column).0 in
    let size = ap length is in (
      omega (arith, lt, size, are.sizes),
      are.each place column (omega (arith, lt, size))
          ∙ ap (λ (c : Column). values_in c rows) (sym (ap (λ (list : List Column). get_or list place column) is) ∙ (found column).1),
    )

-- and one that was filled last
pub filled-last : (before after : List Cells) (cells : Cells) (place : ℕ) (values : List Value) → after ≡ before ++ cells ∷ []
    → place ≡ length before → values_of cells ≡ values → IsColumnAt after place values
filled-last before after cells place values grown at is = (
  omega (arith, at, ap length grown, length_push before cells),
  ap (λ (list : List Cells). values_at list place) grown
      ∙ ap (λ (n : ℕ). values_at (before ++ cells ∷ []) n) at
      ∙ ap (λ (found : Option Cells). option_map_or values_of found []) (get-last before cells)
      ∙ is,
)

-- places of columns, once there are more cells
pub have-grown : (before after : List Cells) (places : List ℕ) (count : ℕ) → Grows before after → HaveColumns before places count
    → HaveColumns after places count
have-grown before after places count grows have = λ k d lt.
    let place = get_or places k d in
    let held = have k d lt in
    let here = held.0 in
    let more = ap length grows.1 ∙ length-append before grows.0 in
    (omega (arith, here, more), ap length (values-grown before after place grows here) ∙ held.1)

agree : (f g : ℕ → List Value) (places : List ℕ) → ((k : ℕ) (d : ℕ) → k < length places → f (get_or places k d) ≡ g (get_or places k d))
    → map f places ≡ map g places
agree f g [] same = refl
agree f g (place ∷ places) same =
    let first : f place ≡ g place = same 0 0 (omega arith) in
    ap (λ (values : List Value). values ∷ map f places) first
    ∙ ap (λ (rest : List (List Value)). g place ∷ rest) (agree f g places (λ k d lt. same (suc k) d (omega arith)))

pub columns-grown : (before after : List Cells) (places : List ℕ) (count : ℕ) (named : List Column) (rows : List JoinedRow)
    → Grows before after → HaveColumns before places count → AreColumnsOf before places named rows → AreColumnsOf after places named rows
columns-grown before after places count named rows grows have are =
    agree (values_at after) (values_at before) places (λ k d lt. values-grown before after (get_or places k d) grows (have k d lt).0) ∙ are

-- one place more
pub have-more : (cells : List Cells) (places : List ℕ) (place : ℕ) (column : Column) (rows : List JoinedRow)
    → HaveColumns cells places (length rows) → IsColumnAt cells place (values_in column rows)
    → HaveColumns cells (places ++ place ∷ []) (length rows)
have-more cells places place column rows have is =
    All-push (λ (p : ℕ). (p < length cells) × (length (values_at cells p) ≡ length rows)) places place have
    (is.0, ap length is.1 ∙ length-map rows (λ row. joined_value row column))

pub columns-more : (cells : List Cells) (places : List ℕ) (place : ℕ) (named : List Column) (rows : List JoinedRow) (i : ℕ) (d : Column)
    → i < length named → AreColumnsOf cells places (take i named) rows → IsColumnAt cells place (values_in (get_or named i d) rows)
    → AreColumnsOf cells (places ++ place ∷ []) (take (i + 1) named) rows
columns-more cells places place named rows i d lt are is =
    map_push (values_at cells) places place
    ∙ ap (λ (front : List (List Value)). front ++ values_at cells place ∷ []) are
    ∙ ap (λ (last : List Value). map (λ column. values_in column rows) (take i named) ++ last ∷ []) is.1
    ∙ sym (map_more (λ (column : Column). values_in column rows) named i d lt)
