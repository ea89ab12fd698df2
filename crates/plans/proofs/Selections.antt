-- The positions that are left by conditions are those of the rows that meet them.
use Rattle.std.proofs.Common.{◌≡◌, ℕ, zero, suc, ◌+◌, ◌<◌, ◌≤◌, ◌&&◌, Bool, true, false, cond, List, [], ◌∷◌, length, map, take, get_or}
use Rattle.std.proofs.Common.{None, Some, IfSome, slice_get}
use Rattle.std.proofs.Common.{refl, sym, ap, subst, ◌∙◌, ◌==◌, arith}
use Rattle.std.specs.List.{filter, list_all, range_with_len}
use Rattle.std.specs.Option.{option_map_or}
use Rattle.std.proofs.lemmas.Bool.Decides.{nat_tests}
use Rattle.std.proofs.lemmas.Int.{ints}
use Rattle.std.proofs.lemmas.List.{get_or-map, length-map}
use Rattle.std.proofs.lemmas.List.Folds.{list_all_more}
use Rattle.std.proofs.lemmas.List.FromFn.{length-range_with_len, get_or-range_with_len, fill_by_all}
use Rattle.std.proofs.lemmas.Option.{slice_get-get_or}
use Rattle.rows.specs.declared.value.Value.{Value}
use Rattle.rows.specs.declared.value.Value.TheVariants.{Int}
use Rattle.queries.specs.declared.aggregate.Aggregate.{Aggregate}
use Rattle.queries.specs.declared.aggregate.Aggregate.TheVariants.{Count, Sum, Min, Max}
use Rattle.queries.specs.declared.column.Column.{Column}
use Rattle.plans.specs.declared.input.Input.{Input}
use Rattle.plans.specs.declared.input.Input.TheVariants as inputs
use Rattle.plans.specs.declared.tallies.Tally.{Tally}
use Rattle.plans.specs.declared.tallies.Tally.TheVariants as tallies
use Rattle.plans.specs.declared.tallies.Tallies.{Tallies}
use Rattle.queries.specs.declared.condition.Condition.{Condition}
use Rattle.plans.specs.declared.cells.Cells.{Cells}
use Rattle.queries.specs.Order.{value_cmp}
use Rattle.queries.specs.Answers.{JoinedRow, joined_value, integer_of, passes, meets, values_in, group_of}
use Rattle.plans.specs.Inner.Picked.{ArePlaces}
use Rattle.plans.specs.Inner.Cells.{values_of, value_at, values_at, does_pass, AreColumnsOf}
use Rattle.plans.specs.Inner.Held.{IsTaken}
use Rattle.plans.specs.Inner.Numbered.{AreNumbers, IsInput, AreInputs, IsInputOf, AreInputsOf, IsColumn, IsShaped}
use Rattle.plans.specs.Inner.Selections.{joined_at, columns_of, column_taken, ValuesBy, AreTakenBy, AreValuesOf}

-- what is selected of positions below a bound is below it
pub places-filter : (p : ℕ → Bool) (count : ℕ) (positions : List ℕ) → ArePlaces count positions → ArePlaces count (filter p positions)
places-filter p count [] all = λ i d lt. absurd (omega (arith, lt))
places-filter p count (x ∷ positions) all =
    by (p x) (filter p positions) (places-filter p count positions (λ i d lt. all (suc i) d (omega (arith, lt))))
  where
    by : (here : Bool) (rest : List ℕ) → ArePlaces count rest → ArePlaces count (cond here (x ∷ rest) rest)
    by true rest are = λ i d lt. first i d lt
      where
        first : ArePlaces count (x ∷ rest)
        first zero d lt = all zero d (omega arith)
        first (suc i) d lt = are i d (omega (arith, lt))
    by false rest are = are

-- selecting at the positions, and then taking the rows, is selecting among the rows
pub map-filter : {Y : Type 0} (at : ℕ → Y) (p : ℕ → Bool) (q : Y → Bool) (count : ℕ) (positions : List ℕ) → ArePlaces count positions
    → ((position : ℕ) → position < count → p position ≡ q (at position))
    → map at (filter p positions) ≡ filter q (map at positions)
map-filter at p q count [] all same = refl
map-filter at p q count (x ∷ positions) all same =
    ap (λ here. map at (cond here (x ∷ filter p positions) (filter p positions))) (same x (all zero 0 (omega arith)))
    ∙ by (q (at x)) (map-filter at p q count positions (λ i d lt. all (suc i) d (omega (arith, lt))) same)
  where
    by : (here : Bool) → map at (filter p positions) ≡ filter q (map at positions)
        → map at (cond here (x ∷ filter p positions) (filter p positions))
        ≡ cond here (at x ∷ filter q (map at positions)) (filter q (map at positions))
    by true rest = ap (λ list. at x ∷ list) rest
    by false rest = rest

-- ---- the positions of all rows

pub places-range : (count : ℕ) → ArePlaces count (range_with_len 0 count)
places-range count i d lt =
    let within : i < count = omega (arith, lt, length-range_with_len 0 count) in
    omega (arith, get_or-range_with_len 0 count i d within, within)

-- they are the positions of the rows themselves
pub rows-range : (rows : List JoinedRow) (count : ℕ) → length rows ≡ count → map (joined_at rows) (range_with_len 0 count) ≡ rows
rows-range rows count long = sym (fill_by_all (joined_at rows) rows count (record { own = []; joined = [] }) long (λ k lt. refl))

-- one test more
filter-and : {X : Type 0} (p q : X → Bool) (xs : List X) → filter q (filter p xs) ≡ filter (λ x. p x && q x) xs
filter-and p q [] = refl
filter-and p q (x ∷ xs) = by (p x) (filter-and p q xs)
  where
    by : (first : Bool) → filter q (filter p xs) ≡ filter (λ x. p x && q x) xs
        → filter q (cond first (x ∷ filter p xs) (filter p xs))
        ≡ cond (first && q x) (x ∷ filter (λ x. p x && q x) xs) (filter (λ x. p x && q x) xs)
    by true rest = ap (λ list. cond (q x) (x ∷ list) list) rest
    by false rest = rest

pub filter-true : {X : Type 0} (xs : List X) → filter (λ x. true) xs ≡ xs
filter-true [] = refl
filter-true (x ∷ xs) = ap (λ list. x ∷ list) (filter-true xs)

filter-same : {X : Type 0} (p q : X → Bool) → ((x : X) → p x ≡ q x) → (xs : List X) → filter p xs ≡ filter q xs
filter-same p q same [] = refl
filter-same p q same (x ∷ xs) = (λ i. cond (same x i) (x ∷ filter-same p q same xs i) (filter-same p q same xs i))

pub filter-more : {X C : Type 0} (test : X → C → Bool) (tests : List C) (i : ℕ) (d : C) (xs : List X) → i < length tests
    → filter (λ x. test x (get_or tests i d)) (filter (λ x. list_all (test x) (take i tests)) xs)
    ≡ filter (λ x. list_all (test x) (take (i + 1) tests)) xs
filter-more test tests i d xs lt =
    filter-and (λ x. list_all (test x) (take i tests)) (λ x. test x (get_or tests i d)) xs
    ∙ filter-same _ (λ x. list_all (test x) (take (i + 1) tests)) (λ x. sym (list_all_more (test x) tests i d lt)) xs

-- ---- a condition

-- a row's value in the column of a condition passes it if the row meets it
pass-meets : (condition : Condition) (rows : List JoinedRow) (position : ℕ) → position < length rows
    → does_pass condition (values_in condition.column rows) position ≡ meets (joined_at rows position) condition
pass-meets condition rows position lt =
    ap (λ value. passes condition.comparison (value_cmp value condition.value))
    (get_or-map (λ (row : JoinedRow). joined_value row condition.column) rows position _ _ lt)

-- the column at the place of one of them is that of the rows
pub column-at : (columns : List Cells) (places : List ℕ) (named : List Column) (rows : List JoinedRow) (k : ℕ) (column : Column)
    → AreColumnsOf columns places named rows → k < length named → length places ≡ length named → column ≡ get_or named k column
    → values_at columns (get_or places k 0) ≡ values_in column rows
column-at columns places named rows k column are lt sizes is =
    sym (get_or-map (values_at columns) places k 0 [] (omega (arith, lt, sizes)))
    ∙ ap (λ lists. get_or lists k []) are
    ∙ get_or-map (λ column. values_in column rows) named k column [] lt
    ∙ ap (λ column. values_in column rows) (sym is)

pub cells-at : (columns : List Cells) (place : ℕ) (d : Cells) → place < length columns
    → values_of (get_or columns place d) ≡ values_at columns place
cells-at columns place d lt = ap (λ found. option_map_or values_of found []) (sym (slice_get-get_or columns place d lt))

-- one condition more
pub selected-next : (conditions : List Condition) (columns : List Cells) (places : List ℕ) (count k : ℕ) (positions : List ℕ)
    (condition : Condition) (cells : Cells) → k < length conditions → length places ≡ length conditions → ArePlaces count positions
    → condition ≡ get_or conditions k condition → values_of cells ≡ values_at columns (get_or places k 0)
    → (rows : List JoinedRow) → length rows ≡ count → AreColumnsOf columns places (columns_of conditions) rows
    → map (joined_at rows) positions ≡ filter (λ row. list_all (meets row) (take k conditions)) rows
    → map (joined_at rows) (filter (does_pass condition (values_of cells)) positions)
    ≡ filter (λ row. list_all (meets row) (take (k + 1) conditions)) rows
selected-next conditions columns places count k positions condition cells lt sizes all is held rows many are so_far =
    map-filter (joined_at rows) (does_pass condition (values_of cells)) (λ row. meets row condition) count positions all same
    ∙ ap (filter (λ row. meets row condition)) so_far
    ∙ ap (λ c. filter (λ row. meets row c) (filter (λ row. list_all (meets row) (take k conditions)) rows)) is
    ∙ filter-more meets conditions k condition rows lt
  where
    named : List Column
    named = columns_of conditions

    long : length named ≡ length conditions
    long = length-map conditions (λ (condition : Condition). condition.column)

    here : condition.column ≡ get_or named k condition.column
    here =
        ap (λ (c : Condition). c.column) is
        ∙ sym (get_or-map (λ (condition : Condition). condition.column) conditions k condition condition.column lt)

    values : values_of cells ≡ values_in condition.column rows
    values = held ∙ column-at columns places named rows k condition.column are (omega (arith, lt, long)) (sizes ∙ sym long) here

    same : (position : ℕ) → position < count → does_pass condition (values_of cells) position ≡ meets (joined_at rows position) condition
    same position within =
        ap (λ list. does_pass condition list position) values ∙ pass-meets condition rows position (omega (arith, within, many))

-- so those that pass one condition are those of the rows that meet it
pub selected-first : (conditions : List Condition) (columns : List Cells) (places : List ℕ) (count : ℕ)
    (condition : Condition) (cells : Cells)
    → 0 < length conditions → length places ≡ length conditions → condition ≡ get_or conditions 0 condition
    → values_of cells ≡ values_at columns (get_or places 0 0)
    → (rows : List JoinedRow) → length rows ≡ count → AreColumnsOf columns places (columns_of conditions) rows
    → map (joined_at rows) (filter (does_pass condition (values_of cells)) (range_with_len 0 count))
    ≡ filter (λ row. list_all (meets row) (take 1 conditions)) rows
selected-first conditions columns places count condition cells some sizes is held rows many are =
    selected-next conditions columns places count 0 (range_with_len 0 count) condition cells some sizes (places-range count) is held rows
    many are
    (rows-range rows count many ∙ sym (filter-true rows))

-- ---- what rows contribute to aggregates

is-input : (rows : List JoinedRow) (aggregate : Aggregate) (input : Input) (values : List Value) → IsTaken values aggregate input
    → IfSome (column_taken aggregate) (λ column. values ≡ values_in column rows) → IsInput rows aggregate input
is-input rows Count input values h e = tt
is-input rows (Sum column) (inputs.Numbers numbers) values h e = h ∙ ap (map integer_of) e
is-input rows (Sum column) (inputs.Values list) values h e = absurd h
is-input rows (Sum column) inputs.Rows values h e = absurd h
is-input rows (Min column) (inputs.Values list) values h e = h ∙ e
is-input rows (Min column) (inputs.Numbers numbers) values h e = h ∙ e
is-input rows (Min column) inputs.Rows values h e = absurd h
is-input rows (Max column) (inputs.Values list) values h e = h ∙ e
is-input rows (Max column) (inputs.Numbers numbers) values h e = h ∙ e
is-input rows (Max column) inputs.Rows values h e = absurd h

-- what is taken of the values of rows is what they contribute
pub inputs-of : (rows : List JoinedRow) (aggregates : List Aggregate) (inputs : List Input) (values : ValuesBy)
    → AreTakenBy values aggregates inputs
    → ((k : ℕ) (d : Aggregate) → k < length aggregates
    → IfSome (column_taken (get_or aggregates k d)) (λ column. values k ≡ values_in column rows))
    → AreInputs rows aggregates inputs
inputs-of rows aggregates inputs values taken are k d e lt =
    is-input rows (get_or aggregates k d) (get_or inputs k e) (values k) (taken.each k d e lt) (are k d lt)

is-input-of : (count : ℕ) (aggregate : Aggregate) (input : Input) (values : List Value) → IsTaken values aggregate input
    → IfSome (column_taken aggregate) (λ column. length values ≡ count) → IsInputOf count aggregate input
is-input-of count Count input values h e = tt
is-input-of count (Sum column) (inputs.Numbers numbers) values h e = sym e ∙ sym (length-map values integer_of) ∙ sym (ap length h)
is-input-of count (Sum column) (inputs.Values list) values h e = absurd h
is-input-of count (Sum column) inputs.Rows values h e = absurd h
is-input-of count (Min column) (inputs.Values list) values h e = sym e ∙ sym (ap length h)
is-input-of count (Min column) (inputs.Numbers numbers) values h e = sym e ∙ sym (ap length h) ∙ length-map numbers.now Int
is-input-of count (Min column) inputs.Rows values h e = absurd h
is-input-of count (Max column) (inputs.Values list) values h e = sym e ∙ sym (ap length h)
is-input-of count (Max column) (inputs.Numbers numbers) values h e = sym e ∙ sym (ap length h) ∙ length-map numbers.now Int
is-input-of count (Max column) inputs.Rows values h e = absurd h

-- and of as many values
pub inputs-sized : (count : ℕ) (aggregates : List Aggregate) (inputs : List Input) (values : ValuesBy) → AreTakenBy values aggregates inputs
    → ((k : ℕ) (d : Aggregate) → k < length aggregates → IfSome (column_taken (get_or aggregates k d))
    (λ column. length (values k) ≡ count))
    → AreInputsOf count aggregates inputs
inputs-sized count aggregates inputs values taken are = record {
  sizes = taken.sizes;
  each = λ k d e lt. is-input-of count (get_or aggregates k d) (get_or inputs k e) (values k) (taken.each k d e lt) (are k d lt);
}

-- ---- what the rows at positions contribute

pub map-places : {Y : Type 0} (f g : ℕ → Y) (count : ℕ) (positions : List ℕ) → ArePlaces count positions
    → ((position : ℕ) → position < count → f position ≡ g position) → map f positions ≡ map g positions
map-places f g count [] all same = refl
map-places f g count (x ∷ positions) all same = λ i.
    same x (all zero 0 (omega arith)) i ∷ map-places f g count positions (λ i d lt. all (suc i) d (omega (arith, lt))) same i

map-map : {X Y Z : Type 0} (f : Y → Z) (g : X → Y) (xs : List X) → map f (map g xs) ≡ map (λ x. f (g x)) xs
map-map f g [] = refl
map-map f g (x ∷ xs) = ap (λ list. f (g x) ∷ list) (map-map f g xs)

-- the values of a column at positions are those of the rows there
pub values-at-positions : (column : Column) (rows : List JoinedRow) (values : List Value) (positions : List ℕ) → ArePlaces (length rows)
    positions
    → values ≡ values_in column rows → map (value_at values) positions ≡ values_in column (map (joined_at rows) positions)
values-at-positions column rows values positions all are =
    ap (λ list. map (value_at list) positions) are
    ∙ map-places (value_at (values_in column rows)) (λ position. joined_value (joined_at rows position) column) (length rows) positions all
    (λ position lt. get_or-map (λ (row : JoinedRow). joined_value row column) rows position _ _ lt)
    ∙ sym (map-map (λ (row : JoinedRow). joined_value row column) (joined_at rows) positions)

-- and so are the numbers of their groups
pub numbers-at-positions : (keys : List (List Value)) (columns : List Column) (rows : List JoinedRow) (numbers positions : List ℕ)
    → ArePlaces (length rows) positions → AreNumbers keys columns rows numbers
    → AreNumbers keys columns (map (joined_at rows) positions) (map (λ position. get_or numbers position 0) positions)
numbers-at-positions keys columns rows numbers positions all are =
    map-map (λ number. slice_get keys number) (λ position. get_or numbers position 0) positions
    ∙ map-places (λ position. slice_get keys (get_or numbers position 0)) (λ position. Some (group_of columns (joined_at rows position)))
    (length rows) positions all same
    ∙ sym (map-map (λ row. Some (group_of columns row)) (joined_at rows) positions)
  where
    long : length numbers ≡ length rows
    long =
        sym (length-map numbers (λ number. slice_get keys number)) ∙ ap length are
        ∙ length-map rows (λ (row : JoinedRow). Some (group_of columns row))

    same : (position : ℕ) → position < length rows
        → slice_get keys (get_or numbers position 0) ≡ Some (group_of columns (joined_at rows position))
    same position lt =
        sym (get_or-map (λ number. slice_get keys number) numbers position 0 None (omega (arith, lt, long)))
        ∙ ap (λ list. get_or list position None) are
        ∙ get_or-map (λ (row : JoinedRow). Some (group_of columns row)) rows position _ None lt

values-there : (aggregate : Aggregate) (rows : List JoinedRow) (values : List Value) (positions : List ℕ) → ArePlaces (length rows)
    positions
    → IfSome (column_taken aggregate) (λ column. values ≡ values_in column rows)
    → IfSome (column_taken aggregate) (λ column. map (value_at values) positions ≡ values_in column (map (joined_at rows) positions))
values-there Count rows values positions all are = tt
values-there (Sum column) rows values positions all are = values-at-positions column rows values positions all are
values-there (Min column) rows values positions all are = values-at-positions column rows values positions all are
values-there (Max column) rows values positions all are = values-at-positions column rows values positions all are

-- the values at positions are those of the rows there, for each aggregate
pub are-values-at : (aggregates : List Aggregate) (rows : List JoinedRow) (values : ValuesBy) (positions : List ℕ)
    → ArePlaces (length rows) positions → AreValuesOf values aggregates rows
    → AreValuesOf (λ k. map (value_at (values k)) positions) aggregates (map (joined_at rows) positions)
are-values-at aggregates rows values positions all are k d lt =
    values-there (get_or aggregates k d) rows (values k) positions all (are k d lt)

-- ---- tallies of at most so many rows are of at most more

column-more : (places count more : ℕ) (aggregate : Aggregate) (tally : Tally) → count ≤ more → IsColumn places count aggregate tally
    → IsColumn places more aggregate tally
column-more places count more Count tallies.Count le is = tt
column-more places count more Count (tallies.Sums sums) le is = absurd is
column-more places count more Count (tallies.Fields fields) le is = absurd is
column-more places count more (Sum column) (tallies.Sums sums) le is = (
  is.0,
  λ n d lt. let held = is.1 n d lt in let low = held.0 in let high = held.1 in
      (omega (arith, ints, low, high, le), omega (arith, ints, low, high, le)),
)
column-more places count more (Sum column) tallies.Count le is = absurd is
column-more places count more (Sum column) (tallies.Fields fields) le is = absurd is
column-more places count more (Min column) (tallies.Fields fields) le is = is
column-more places count more (Min column) tallies.Count le is = absurd is
column-more places count more (Min column) (tallies.Sums sums) le is = absurd is
column-more places count more (Max column) (tallies.Fields fields) le is = is
column-more places count more (Max column) tallies.Count le is = absurd is
column-more places count more (Max column) (tallies.Sums sums) le is = absurd is

pub shaped-more : (places count more : ℕ) (aggregates : List Aggregate) (tallies : Tallies) → count ≤ more
    → IsShaped places count aggregates tallies → IsShaped places more aggregates tallies
shaped-more places count more aggregates tallies le shaped = record {
  counts = shaped.counts;
  within = λ n d lt. let held = shaped.within n d lt in omega (arith, held, le);
  sizes = shaped.sizes;
  each = λ k d t lt. column-more places count more (get_or aggregates k d) (get_or tallies.columns.items k t) le (shaped.each k d t lt);
}

-- ---- lists

pub nothing : {X : Type 0} (xs : List X) → (length xs == 0) ≡ true → xs ≡ []
nothing [] e = refl
nothing (x ∷ xs) e = absurd (grind (arith, nat_tests))

-- numbers at positions are places if all are
pub places-at : (places : ℕ) (numbers positions : List ℕ) → ArePlaces (length numbers) positions → ArePlaces places numbers
    → ArePlaces places (map (λ position. get_or numbers position 0) positions)
places-at places numbers positions all are i d lt =
    let here : i < length positions = omega (arith, lt, length-map positions (λ position. get_or numbers position 0)) in
    subst (λ n. n < places) (sym (get_or-map (λ position. get_or numbers position 0) positions i 0 d here))
    (are (get_or positions i 0) 0 (all i 0 here))
