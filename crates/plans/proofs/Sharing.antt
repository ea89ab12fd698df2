-- What a block has for plans that are alike, and what it adds to their tallies.
use Rattle.std.proofs.Common.{◌≡◌, ℕ, suc, ◌<◌, ◌≤◌, List, [], ◌∷◌, length, get_or, Option, None, Some, IfSome}
use Rattle.std.proofs.Common.{slice_get, refl, sym, ap, ◌∙◌, arith, length-append}
use Rattle.std.specs.List.{filter_map, cons_option}
use Rattle.std.proofs.lemmas.List.{length-map, get_or-map}
use Rattle.std.proofs.lemmas.Option.{same_Some, slice_get_within}
use Rattle.rows.specs.declared.value.Value.{Value}
use Rattle.rows.specs.Tables.{Rows}
use Rattle.queries.specs.declared.aggregate.Aggregate.{Aggregate}
use Rattle.queries.specs.declared.aggregate.Aggregate.TheVariants.{Count, Sum, Min, Max}
use Rattle.plans.specs.declared.cells.Cells.{Cells}
use Rattle.queries.specs.declared.column.Column.{Column}
use Rattle.plans.specs.declared.numbering.Numbering.{Numbering}
use Rattle.queries.specs.Answers.{JoinedRow, values_in, group_of}
use Rattle.plans.specs.Inner.Blocks.{IsNumbering, number_kept}
use Rattle.plans.specs.Inner.Cells.{values_at, AreColumnsOf}
use Rattle.plans.specs.Inner.Numbered.{AreNumbers, AreDistinct}
use Rattle.plans.specs.Inner.Picked.{ArePlaces}
use Rattle.plans.specs.Inner.Partnered.{Grows, IsColumnAt, paired}
use Rattle.plans.specs.Inner.Selections.{column_taken, HaveInputs, AreValuesOf, values_by}
use Rattle.plans.specs.Inner.Shared.{IsInputOfRows}
use Rattle.plans.proofs.Fills.{values-grown}
use Rattle.plans.proofs.Orders.{same_group}

-- ---- the columns of aggregates

column-grown : (before after : List Cells) (place : ℕ) (values : List Value) → Grows before after → IsColumnAt before place values
    → IsColumnAt after place values
column-grown before after place values grows is =
    let size = ap length grows.1 ∙ length-append before grows.0 in
    (omega (arith, size, is.0), values-grown before after place grows is.0 ∙ is.1)

-- they stay what they are while more columns are filled
pub input-grown : (before after : List Cells) (place : ℕ) (rows : List JoinedRow) (aggregate : Aggregate) → Grows before after
    → IsInputOfRows before place rows aggregate → IsInputOfRows after place rows aggregate
input-grown before after place rows Count grows is = tt
input-grown before after place rows (Sum column) grows is = column-grown before after place (values_in column rows) grows is
input-grown before after place rows (Min column) grows is = column-grown before after place (values_in column rows) grows is
input-grown before after place rows (Max column) grows is = column-grown before after place (values_in column rows) grows is

input-at : (cells : List Cells) (place : ℕ) (rows : List JoinedRow) (aggregate : Aggregate) → IsInputOfRows cells place rows aggregate
    → IfSome (column_taken aggregate) (λ column. (place < length cells) × (length (values_at cells place) ≡ length rows))
input-at cells place rows Count is = tt
input-at cells place rows (Sum column) is = (is.0, ap length is.1 ∙ length-map rows _)
input-at cells place rows (Min column) is = (is.0, ap length is.1 ∙ length-map rows _)
input-at cells place rows (Max column) is = (is.0, ap length is.1 ∙ length-map rows _)

input-values : (cells : List Cells) (place : ℕ) (rows : List JoinedRow) (aggregate : Aggregate) → IsInputOfRows cells place rows aggregate
    → IfSome (column_taken aggregate) (λ column. values_at cells place ≡ values_in column rows)
input-values cells place rows Count is = tt
input-values cells place rows (Sum column) is = is.1
input-values cells place rows (Min column) is = is.1
input-values cells place rows (Max column) is = is.1

-- the columns of all aggregates are at their places
pub have-inputs : (cells : List Cells) (places : List ℕ) (rows : List JoinedRow) (aggregates : List Aggregate)
    → length places ≡ length aggregates
    → ((k : ℕ) (d : Aggregate) → k < length aggregates → IsInputOfRows cells (get_or places k 0) rows (get_or aggregates k d))
    → HaveInputs cells places (length rows) aggregates
have-inputs cells places rows aggregates sizes are = record {
  sizes = sizes;
  each = λ k d lt. input-at cells (get_or places k 0) rows (get_or aggregates k d) (are k d lt);
}

pub are-values : (cells : List Cells) (places : List ℕ) (rows : List JoinedRow) (aggregates : List Aggregate)
    → ((k : ℕ) (d : Aggregate) → k < length aggregates → IsInputOfRows cells (get_or places k 0) rows (get_or aggregates k d))
    → AreValuesOf (values_by cells places) aggregates rows
are-values cells places rows aggregates are k d lt = input-values cells (get_or places k 0) rows (get_or aggregates k d) (are k d lt)

-- ---- rows with their partners

pub paired-size : {P : Type 0} (values : P → Option (List Value)) (rows : Rows) (positions : List ℕ) (places : List P)
    → length places ≡ length positions → length (paired values rows positions places) ≡ length positions
paired-size values rows [] places sizes = refl
paired-size values rows (position ∷ positions) [] sizes = absurd (omega (arith, sizes))
paired-size values rows (position ∷ positions) (place ∷ places) sizes =
    ap (λ n. suc n) (paired-size values rows positions places (omega (arith, sizes)))

-- where no columns are named there are no places
pub no-places : (columns : List Cells) (places : List ℕ) (named : List Column) (rows : List JoinedRow)
    → AreColumnsOf columns places named rows → named ≡ [] → places ≡ []
no-places columns [] named rows are none = refl
no-places columns (place ∷ places) [] rows are none = absurd (cc)
no-places columns (place ∷ places) (column ∷ named) rows are none = absurd (cc)

-- ---- numbers and places

-- there is one for each row
pub numbers-size : (keys : List (List Value)) (columns : List Column) (rows : List JoinedRow) (numbers : List ℕ)
    → AreNumbers keys columns rows numbers → length numbers ≡ length rows
numbers-size keys columns rows numbers are =
    sym (length-map numbers (λ number. slice_get keys number)) ∙ ap length are
    ∙ length-map rows (λ (row : JoinedRow). Some (group_of columns row))

-- each number is that of a key
pub numbers-within : (keys : List (List Value)) (columns : List Column) (rows : List JoinedRow) (numbers : List ℕ)
    → AreNumbers keys columns rows numbers → ArePlaces (length keys) numbers
numbers-within keys columns rows numbers are i d lt =
    slice_get_within keys (get_or numbers i d) (group_of columns (get_or rows i none))
    (sym (get_or-map (λ number. slice_get keys number) numbers i d None lt)
    ∙ ap (λ list. get_or list i None) are
    ∙ get_or-map (λ (row : JoinedRow). Some (group_of columns row)) rows i none None (omega (arith, lt, size)))
  where
    none : JoinedRow
    none = record { own = []; joined = [] }

    size : length numbers ≡ length rows
    size = numbers-size keys columns rows numbers are

-- there is a place for each column
pub columns-size : (columns : List Cells) (places : List ℕ) (named : List Column) (rows : List JoinedRow)
    → AreColumnsOf columns places named rows → length places ≡ length named
columns-size columns places named rows are =
    sym (length-map places (values_at columns)) ∙ ap length are ∙ length-map named (λ column. values_in column rows)

-- no more rows have a partner than there are
pub taken-few : {X Y : Type 0} (h : X → Option Y) (xs : List X) → length (filter_map h xs) ≤ length xs
taken-few h [] = omega arith
taken-few {X} {Y} h (x ∷ xs) = by (h x) (filter_map h xs) (taken-few h xs)
  where
    by : (found : Option Y) (rest : List Y) → length rest ≤ length xs → length (cons_option found rest) ≤ suc (length xs)
    by None rest few = omega (arith, few)
    by (Some y) rest few = omega (arith, few)

-- ---- keys

-- each key stands once
pub distinct : (numbering : Numbering) → IsNumbering numbering → AreDistinct numbering.keys.items
distinct numbering is i j key other here there same =
    let equal : key ≡ other = same_group key other same in
    same_Some i j
    (sym (is.known i key here)
    ∙ ap (number_kept numbering.singles.entries numbering.others.entries) equal
    ∙ is.known j other there)
