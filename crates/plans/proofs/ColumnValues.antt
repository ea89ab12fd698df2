-- The values of columns: by position, by a test, and as keys.
use Rattle.std.proofs.Common.{◌≡◌, ℕ, zero, suc, ◌+◌, ◌<◌, ℤ, pos, Bool, true, false, cond, List, [], ◌∷◌, ◌++◌, length, map, take, get_or}
use Rattle.std.proofs.Common.{Option, Some, slice_get, refl, sym, ap, ◌∙◌, arith, FitsSigned, w64}
use Rattle.std.specs.List.{All, filter}
use Rattle.std.specs.Option.{option_map_or}
use Rattle.std.proofs.lemmas.List.{length-map, map_more}
use Rattle.std.proofs.lemmas.List.Elements.{All-head, All-tail}
use Rattle.rows.specs.declared.value.Value.{Value}
use Rattle.rows.specs.declared.value.Value.TheVariants.{Int, Octets}
use Rattle.plans.specs.declared.cells.Cells.{Cells}
use Rattle.queries.specs.declared.column.Column.{Column}
use Rattle.queries.specs.declared.condition.Condition.{Condition}
use Rattle.queries.specs.Answers.{JoinedRow, joined_value, values_in, group_of, integer_of, passes}
use Rattle.queries.specs.Order.{value_cmp}
use Rattle.plans.specs.Inner.Numbered.{AreNumbers}
use Rattle.plans.specs.Inner.Selected.{number_at}
use Rattle.plans.specs.Inner.Cells.{values_of, value_at, values_at, does_pass, key_at, AreColumnsOf, AreKeyed}

-- ---- numbers as values

pub value-int : (numbers : List ℤ) (position : ℕ) → value_at (map Int numbers) position ≡ Int (number_at numbers position)
value-int [] position = refl
value-int (number ∷ numbers) zero = refl
value-int (number ∷ numbers) (suc position) = value-int numbers position

pub values-int : (numbers : List ℤ) (positions : List ℕ)
    → map Int (map (number_at numbers) positions) ≡ map (value_at (map Int numbers)) positions
values-int numbers [] = refl
values-int numbers (position ∷ positions) = cc (value-int numbers position, values-int numbers positions)

pub integers-int : (numbers : List ℤ) → map integer_of (map Int numbers) ≡ numbers
integers-int [] = refl
integers-int (number ∷ numbers) = ap (λ rest. number ∷ rest) (integers-int numbers)

-- a value is the one at its position, whatever stands for none
pub value-read : (values : List Value) (i : ℕ) (d : Value) → i < length values → get_or values i d ≡ value_at values i
value-read [] i d lt = absurd (omega arith)
value-read (value ∷ values) zero d lt = refl
value-read (value ∷ values) (suc i) d lt = value-read values i d (omega arith)

-- ---- which positions pass

pub filter-all : (same : Bool) (positions : List ℕ) → same ≡ true → filter (λ (position : ℕ). same) positions ≡ positions
filter-all true [] e = refl
filter-all true (position ∷ positions) e = ap (λ rest. position ∷ rest) (filter-all true positions e)
filter-all false positions e = absurd (cc)

pub filter-none : (same : Bool) (positions : List ℕ) → same ≡ false → filter (λ (position : ℕ). same) positions ≡ []
filter-none true positions e = absurd (cc)
filter-none false [] e = refl
filter-none false (position ∷ positions) e = filter-none false positions e

-- two tests that agree at each position select the same
pub filter-agree : (p q : ℕ → Bool) (positions : List ℕ) → All (λ position. p position ≡ q position) positions
    → filter p positions ≡ filter q positions
filter-agree p q [] same = refl
filter-agree p q (position ∷ positions) same =
    let first = All-head (λ (x : ℕ). p x ≡ q x) position positions same in
    let rest = filter-agree p q positions (All-tail (λ (x : ℕ). p x ≡ q x) position positions same) in
    ap (λ (kept : List ℕ). cond (p position) (position ∷ kept) kept) rest
    ∙ ap (λ (b : Bool). cond b (position ∷ filter q positions) (filter q positions)) first

-- numbers that pass a comparison are those of a range
pub range-agrees : (p q : ℤ → Bool) (numbers : List ℤ) (positions : List ℕ)
    → ((number : ℤ) → FitsSigned w64 number → p number ≡ q number)
    → All (λ position. FitsSigned w64 (number_at numbers position)) positions
    → filter (λ position. p (number_at numbers position)) positions ≡ filter (λ position. q (number_at numbers position)) positions
range-agrees p q numbers positions same fit =
    filter-agree (λ position. p (number_at numbers position)) (λ position. q (number_at numbers position)) positions
    (λ k d lt. same (number_at numbers (get_or positions k d)) (fit k d lt))

-- how numbers stand to octets
pub octets-pass : (condition : Condition) (numbers : List ℤ) (bytes : List ℕ) → condition.value ≡ Octets bytes → (position : ℕ)
    → passes condition.comparison (value_cmp (Int (pos 0)) condition.value) ≡ does_pass condition (map Int numbers) position
octets-pass condition numbers bytes e position =
    ap (λ (value : Value). passes condition.comparison (value_cmp (Int (pos 0)) value)) e
    ∙ sym (ap (λ (value : Value). passes condition.comparison (value_cmp value condition.value)) (value-int numbers position)
    ∙ ap (λ (value : Value). passes condition.comparison (value_cmp (Int (number_at numbers position)) value)) e)

-- ---- the keys of rows

-- a list by its places
pub get-some : {X : Type 0} (xs : List X) (i : ℕ) (d : X) → i < length xs → slice_get xs i ≡ Some (get_or xs i d)
get-some [] i d lt = absurd (omega arith)
get-some (x ∷ xs) zero d lt = refl
get-some (x ∷ xs) (suc i) d lt = get-some xs i d (omega arith)

-- the values of the column at a place
pub values-there : (columns : List Cells) (place : ℕ) (cells : Cells) → place < length columns → cells ≡ get_or columns place cells
    → values_at columns place ≡ values_of cells
values-there columns place cells there here =
    ap (λ (column : Option Cells). option_map_or values_of column []) (get-some columns place cells there ∙ ap Some (sym here))

-- a row's value in each column is the value of that column at the row's place
value-in : (column : Column) (rows : List JoinedRow) (i : ℕ) (d : JoinedRow) → i < length rows
    → value_at (values_in column rows) i ≡ joined_value (get_or rows i d) column
value-in column [] i d lt = absurd (omega arith)
value-in column (row ∷ rows) zero d lt = refl
value-in column (row ∷ rows) (suc i) d lt = value-in column rows i d (omega arith)

values-in : (named : List Column) (rows : List JoinedRow) (i : ℕ) (d : JoinedRow) → i < length rows
    → map (λ values. value_at values i) (map (λ column. values_in column rows) named) ≡ group_of named (get_or rows i d)
values-in [] rows i d lt = refl
values-in (column ∷ named) rows i d lt = cc (value-in column rows i d lt, values-in named rows i d lt)

key-split : (columns : List Cells) (places : List ℕ) (i : ℕ)
    → key_at columns places i ≡ map (λ values. value_at values i) (map (values_at columns) places)
key-split columns [] i = refl
key-split columns (place ∷ places) i = ap (λ rest. value_at (values_at columns place) i ∷ rest) (key-split columns places i)

-- the key of a row is its values in the columns
key-of : (columns : List Cells) (places : List ℕ) (named : List Column) (rows : List JoinedRow)
    → AreColumnsOf columns places named rows
    → (i : ℕ) (d : JoinedRow) → i < length rows → key_at columns places i ≡ group_of named (get_or rows i d)
key-of columns places named rows are i d lt =
    key-split columns places i
    ∙ ap (map (λ (values : List Value). value_at values i)) are
    ∙ values-in named rows i d lt

-- equal at each place
same-maps : (keys : List (List Value)) (f : JoinedRow → List Value) (numbers : List ℕ) (rows : List JoinedRow)
    → length numbers ≡ length rows
    → ((i : ℕ) (d : JoinedRow) → i < length rows → slice_get keys (get_or numbers i 0) ≡ Some (f (get_or rows i d)))
    → map (λ number. slice_get keys number) numbers ≡ map (λ row. Some (f row)) rows
same-maps keys f [] [] sizes each = refl
same-maps keys f [] (row ∷ rows) sizes each = absurd (omega arith)
same-maps keys f (number ∷ numbers) [] sizes each = absurd (omega arith)
same-maps keys f (number ∷ numbers) (row ∷ rows) sizes each =
    let first = each 0 row (omega arith) in
    let rest =
    same-maps keys f numbers rows (omega arith)
    (λ i d lt. each (suc i) d (omega arith)) in
    cc (first, rest)

-- a key with the value of one column more
pub key-more : (columns : List Cells) (places : List ℕ) (row i : ℕ) (key : List Value) (cells : Cells) (value : Value) → i < length places
    → get_or places i 0 < length columns → cells ≡ get_or columns (get_or places i 0) cells → value ≡ value_at (values_of cells) row
    → key ≡ key_at columns (take i places) row → key ++ value ∷ [] ≡ key_at columns (take (i + 1) places) row
key-more columns places row i key cells value lt there here is so_far =
    let place = get_or places i 0 in
    let found : slice_get columns place ≡ Some cells = get-some columns place cells there ∙ ap Some (sym here) in
    ap (λ (front : List Value). front ++ value ∷ []) so_far
    ∙ ap (λ (last : Value). key_at columns (take i places) row ++ last ∷ [])
    (is ∙ ap (λ (column : Option Cells). value_at (option_map_or values_of column []) row) (sym found))
    ∙ sym (map_more (λ (p : ℕ). value_at (values_at columns p) row) places i 0 lt)

-- one place alone
pub key-single : (columns : List Cells) (places : List ℕ) (cells : Cells) (values : List Value) → length places ≡ 1
    → get_or places 0 0 < length columns → cells ≡ get_or columns (get_or places 0 0) cells → values ≡ values_of cells
    → (i : ℕ) → value_at values i ∷ [] ≡ key_at columns places i
key-single columns [] cells values one there here is i = absurd (omega arith)
key-single columns (place ∷ more ∷ places) cells values one there here is i = absurd (omega arith)
key-single columns (place ∷ []) cells values one there here is i =
    let found : slice_get columns place ≡ Some cells = get-some columns place cells there ∙ ap Some (sym here) in
    ap (λ (v : List Value). value_at v i ∷ []) (is ∙ ap (λ (column : Option Cells). option_map_or values_of column []) (sym found))

pub single-size : (columns : List Cells) (place : ℕ) (cells : Cells) (numbers : List ℤ) (count : ℕ) → place < length columns
    → cells ≡ get_or columns place cells → map Int numbers ≡ values_of cells → length (values_at columns place) ≡ count
    → length numbers ≡ count
single-size columns place cells numbers count there here is size =
    let found : slice_get columns place ≡ Some cells = get-some columns place cells there ∙ ap Some (sym here) in
    sym (length-map numbers (λ (number : ℤ). Int number)) ∙ ap length is
    ∙ sym (ap (λ (column : Option Cells). length (option_map_or values_of column [])) found) ∙ size

-- rows with these keys have these numbers
pub keyed-numbers : (keys : List (List Value)) (columns : List Cells) (places : List ℕ) (count : ℕ) (numbers : List ℕ)
    → AreKeyed keys (key_at columns places) count numbers
    → (named : List Column) (rows : List JoinedRow) → length rows ≡ count → AreColumnsOf columns places named rows
    → AreNumbers keys named rows numbers
keyed-numbers keys columns places count numbers keyed named rows sizes are =
    same-maps keys (group_of named) numbers rows (keyed.sizes ∙ sym sizes)
    (λ i d lt. keyed.each i (omega (arith, lt, sizes)) ∙ ap Some (key-of columns places named rows are i d lt))
