-- Tallies with keys more; and the groups that they make.
use Rattle.std.proofs.Common.{◌≡◌, ℕ, zero, suc, ◌+◌, ◌-◌, ◌<◌, ◌≤◌, pos, Bool, true, false, ◌||◌, cond, List, [], ◌∷◌, ◌++◌, length}
use Rattle.std.proofs.Common.{⊎_elim, map, get_or, take, replicate, Option, None, Some}
use Rattle.std.proofs.Common.{slice_get, IfSome, refl, sym, ap, subst, ◌∙◌, arith, length-append}
use Rattle.std.specs.BTreeMap.{is_at}
use Rattle.std.specs.List.{All, filter, list_any}
use Rattle.std.proofs.lemmas.List.Elements.{All-from_get_or}
use Rattle.std.proofs.lemmas.List.Folds.{list_any_more}
use Rattle.std.specs.Map.{lookup}
use Rattle.std.specs.Ordering.{is_eq}
use Rattle.std.specs.Prelude.{nat_lt}
use Rattle.std.proofs.lemmas.Bool.Decides.{nat_tests}
use Rattle.std.proofs.lemmas.Bool.{false≢true, cases_lt, or_parts}
use Rattle.std.proofs.lemmas.Int.{ints}
use Rattle.std.proofs.lemmas.List.{map-append, length-map, length-replicate, get_or-map, same_lists, take_all, get_or_append_left}
use Rattle.std.proofs.lemmas.List.{get_or-append_right, get_or-replicate}
use Rattle.std.proofs.lemmas.Option.{same_Some, slice_get_within}
use Rattle.plans.specs.Inner.Picked.{IsWithin as SumIsWithin}
use Rattle.rows.specs.declared.value.Value.{Value}
use Rattle.queries.specs.declared.aggregate.Aggregate.{Aggregate}
use Rattle.queries.specs.declared.aggregate.Aggregate.TheVariants.{Count, Sum, Min, Max}
use Rattle.queries.specs.declared.column.Column.{Column}
use Rattle.queries.specs.declared.field.Field.{Field}
use Rattle.queries.specs.declared.field.Field.TheVariants.{Number, Absent}
use Rattle.queries.specs.declared.plan.Plan.{Plan}
use Rattle.plans.specs.declared.tallies.Tally.{Tally}
use Rattle.plans.specs.declared.tallies.Tally.TheVariants as kept
use Rattle.plans.specs.declared.tallies.Tallies.{Tallies}
use Rattle.queries.specs.Order.{group_cmp}
use Rattle.queries.specs.Answers.{JoinedRow, group_of, rows_in, aggregate_of, field_of, best, lesser, greater, values_in}
use Rattle.plans.proofs.Orders.{same_group, flips}
use Rattle.plans.proofs.Keeping.{is_group, absent-rows}
use Rattle.plans.specs.Inner.Kept.{GroupList, IsWithin, AreWithin, kept_at, GroupsAreKept}
use Rattle.plans.specs.Inner.Numbered.{AreNumbers, AreDistinct, sum_of, by_keys, IsTold, IsTallied, IsColumn, IsShaped, IsResized}
use Rattle.plans.specs.Inner.Numbered.{field_at, is_told}
use Rattle.plans.proofs.Tallied.{rows_in-picked, picked-none}

-- ---- keys more

slice_get-more : (keys more : List (List Value)) (n : ℕ) (key : List Value) → slice_get keys n ≡ Some key
    → slice_get (keys ++ more) n ≡ Some key
slice_get-more [] more n key e = absurd (cc)
slice_get-more (first ∷ keys) more zero key e = e
slice_get-more (first ∷ keys) more (suc n) key e = slice_get-more keys more n key e

slice_get-behind : (keys more : List (List Value)) (i j : ℕ) → i ≡ length keys + j → slice_get (keys ++ more) i ≡ slice_get more j
slice_get-behind [] more i j e = ap (slice_get more) (omega (arith, e))
slice_get-behind (first ∷ keys) more zero j e = absurd (omega (arith, e))
slice_get-behind (first ∷ keys) more (suc i) j e = slice_get-behind keys more i j (omega (arith, e))

still-numbers : (keys more : List (List Value)) (columns : List Column) (rows : List JoinedRow) (numbers : List ℕ)
    → AreNumbers keys columns rows numbers → AreNumbers (keys ++ more) columns rows numbers
still-numbers keys more columns [] [] are = refl
still-numbers keys more columns [] (number ∷ numbers) are = absurd (cc)
still-numbers keys more columns (row ∷ rows) [] are = absurd (cc)
still-numbers keys more columns (row ∷ rows) (number ∷ numbers) are =
    let head : slice_get keys number ≡ Some (group_of columns row) = cc in
    let tail : map (λ number. slice_get keys number) numbers ≡ map (λ row. Some (group_of columns row)) rows = cc in
    let rest = still-numbers keys more columns rows numbers tail in
    λ i. slice_get-more keys more number (group_of columns row) head i ∷ rest i

numbers-below : (keys : List (List Value)) (columns : List Column) (rows : List JoinedRow) (numbers : List ℕ)
    → AreNumbers keys columns rows numbers → (i : ℕ) (d : ℕ) → i < length numbers → get_or numbers i d < length keys
numbers-below keys columns rows [] are i d lt = absurd (omega (arith, lt))
numbers-below keys columns [] (number ∷ numbers) are i d lt = absurd (cc)
numbers-below keys columns (row ∷ rows) (number ∷ numbers) are zero d lt =
    let head : slice_get keys number ≡ Some (group_of columns row) = cc in
    slice_get_within keys number (group_of columns row) head
numbers-below keys columns (row ∷ rows) (number ∷ numbers) are (suc i) d lt =
    let tail : map (λ number. slice_get keys number) numbers ≡ map (λ row. Some (group_of columns row)) rows = cc in
    numbers-below keys columns rows numbers tail i d (omega (arith, lt))

all-new : {X : Type 0} (told : List Value → X) (z : X) (more : List (List Value))
    → ((j : ℕ) (key : List Value) → slice_get more j ≡ Some key → told key ≡ z) → replicate (length more) z ≡ map told more
all-new told z [] h = refl
all-new told z (key ∷ more) h =
    let rest = all-new told z more (λ j key e. h (suc j) key e) in
    λ i. sym (h 0 key refl) i ∷ rest i

-- what stands in places of which some are new
resized-each : {X : Type 0} (P : X → Type 0) (items after : List X) (z : X) (n : ℕ) → after ≡ take n items ++ replicate (n - length items) z
    → P z → length items ≤ n → ((k : ℕ) (d : X) → k < length items → P (get_or items k d))
    → (k : ℕ) (d : X) → k < n → P (get_or after k d)
resized-each {X} P items after z n is new few old k d lt =
    subst P (sym (ap (λ list. get_or list k d) whole)) (⊎_elim here behind (cases_lt k (length items)))
  where
    whole : after ≡ items ++ replicate (n - length items) z
    whole = is ∙ ap (λ front. front ++ replicate (n - length items) z) (take_all n items few)

    here : k < length items → P (get_or (items ++ replicate (n - length items) z) k d)
    here within = subst P (sym (get_or_append_left items (replicate (n - length items) z) d k within)) (old k d within)

    behind : length items ≤ k → P (get_or (items ++ replicate (n - length items) z) k d)
    behind past =
        subst P
        (sym (get_or-append_right items (replicate (n - length items) z) (length items) k d refl past
        ∙ get_or-replicate (n - length items) (k - length items) z d (omega (arith, lt, past)))) new

resized-length : {X : Type 0} (items after : List X) (z : X) (n : ℕ) → after ≡ take n items ++ replicate (n - length items) z
    → length items ≤ n → length after ≡ n
resized-length items after z n is few =
    let size = length-append items (replicate (n - length items) z) in
    let rest = length-replicate (n - length items) z in
    ap length (is ∙ ap (λ front. front ++ replicate (n - length items) z) (take_all n items few)) ∙ size
    ∙ ap (λ m. length items + m) rest ∙ omega (arith, few)

none-within : (count : ℕ) → SumIsWithin count (pos 0)
none-within count = (omega (arith, ints), omega (arith, ints))

column-resized : (places count n : ℕ) (aggregate : Aggregate) (tally after : Tally) → places ≤ n → IsColumn places count aggregate tally
    → IsResized n tally after → IsColumn n count aggregate after
column-resized places count n Count kept.Count kept.Count few shaped is = tt
column-resized places count n Count kept.Count (kept.Sums after) few shaped is = absurd is
column-resized places count n Count kept.Count (kept.Fields after) few shaped is = absurd is
column-resized places count n Count (kept.Sums sums) after few shaped is = absurd shaped
column-resized places count n Count (kept.Fields fields) after few shaped is = absurd shaped
column-resized places count n (Sum column) kept.Count after few shaped is = absurd shaped
column-resized places count n (Sum column) (kept.Fields fields) after few shaped is = absurd shaped
column-resized places count n (Sum column) (kept.Sums sums) kept.Count few shaped is = absurd is
column-resized places count n (Sum column) (kept.Sums sums) (kept.Fields after) few shaped is = absurd is
column-resized places count n (Sum column) (kept.Sums sums) (kept.Sums after) few shaped is =
    let sizes = shaped.0 in
    let le : length sums.items ≤ n = omega (arith, sizes, few) in
    let size = resized-length sums.items after.items (pos 0) n is le in (
      size,
      λ k d lt. resized-each (SumIsWithin count) sums.items after.items (pos 0) n is (none-within count) le shaped.1 k d
          (omega (arith, lt, size)),
    )
column-resized places count n (Min column) kept.Count after few shaped is = absurd shaped
column-resized places count n (Min column) (kept.Sums sums) after few shaped is = absurd shaped
column-resized places count n (Min column) (kept.Fields fields) kept.Count few shaped is = absurd is
column-resized places count n (Min column) (kept.Fields fields) (kept.Sums after) few shaped is = absurd is
column-resized places count n (Min column) (kept.Fields fields) (kept.Fields after) few shaped is =
    resized-length fields.items after.items Absent n is (omega (arith, shaped, few))
column-resized places count n (Max column) kept.Count after few shaped is = absurd shaped
column-resized places count n (Max column) (kept.Sums sums) after few shaped is = absurd shaped
column-resized places count n (Max column) (kept.Fields fields) kept.Count few shaped is = absurd is
column-resized places count n (Max column) (kept.Fields fields) (kept.Sums after) few shaped is = absurd is
column-resized places count n (Max column) (kept.Fields fields) (kept.Fields after) few shaped is =
    resized-length fields.items after.items Absent n is (omega (arith, shaped, few))

module _ (aggregates : List Aggregate) (before after : Tallies) (n : ℕ)
    (few : length before.counts.items ≤ n)
    (counts : after.counts.items ≡ take n before.counts.items ++ replicate (n - length before.counts.items) 0)
    (sizes : length after.columns.items ≡ length before.columns.items)
    (grows : (k : ℕ) (t : Tally) → k < length before.columns.items
    → IsResized n (get_or before.columns.items k t) (get_or after.columns.items k t)) where
  pub shaped-keys : (count : ℕ) → IsShaped (length before.counts.items) count aggregates before → IsShaped n count aggregates after
  shaped-keys count shaped = record {
    counts = resized-length before.counts.items after.counts.items 0 n counts few;
    within = λ k d lt.
        resized-each (λ held. held ≤ count) before.counts.items after.counts.items 0 n counts (omega arith) few shaped.within k d lt;
    sizes = sizes ∙ shaped.sizes;
    each = λ k d t lt.
        column-resized (length before.counts.items) count n (get_or aggregates k d) (get_or before.columns.items k t)
        (get_or after.columns.items k t) few (shaped.each k d t lt) (grows k t (omega (arith, lt, shaped.sizes)));
  }

  module _ (columns : List Column) (keys more : List (List Value)) (rows : List JoinedRow) (size : length (keys ++ more) ≡ n)
      (distinct : AreDistinct (keys ++ more)) (numbers : List ℕ) (are : AreNumbers keys columns rows numbers) where
    none-of-new : (j : ℕ) (key : List Value) → slice_get more j ≡ Some key → rows_in columns key rows ≡ []
    none-of-new j key at =
        rows_in-picked columns (keys ++ more) distinct (length keys + j) key
        (slice_get-behind keys more (length keys + j) j refl ∙ at) rows numbers (still-numbers keys more columns rows numbers are)
        ∙ picked-none (length keys + j) numbers rows
        (λ i d lt. let below = numbers-below keys columns rows numbers are i d lt in omega (arith, below))

    resized : {X : Type 0} (told : List JoinedRow → X) (items after : List X) → items ≡ by_keys columns keys rows told
        → after ≡ take n items ++ replicate (n - length items) (told []) → after ≡ by_keys columns (keys ++ more) rows told
    resized {X} told items after is grown =
        let of_key : List Value → X = λ (key : List Value). told (rows_in columns key rows) in
        let sizes : length items ≡ length keys = ap length is ∙ length-map keys of_key in
        let all = length-append keys more in
        let le : length items ≤ n = omega (arith, sizes, all, size) in
        let rest : n - length items ≡ length more = omega (arith, sizes, all, size) in
        grown ∙ (λ i. take_all n items le i ++ replicate (rest i) (told []))
        ∙ (λ i. is i ++ all-new of_key (told []) more (λ j key at. ap told (none-of-new j key at)) i)
        ∙ sym (map-append of_key keys more)

    told-resized : (aggregate : Aggregate) (tally after : Tally) → IsTold columns keys rows aggregate tally → IsResized n tally after
        → IsTold columns (keys ++ more) rows aggregate after
    told-resized Count kept.Count kept.Count told is = tt
    told-resized Count kept.Count (kept.Sums after) told is = absurd is
    told-resized Count kept.Count (kept.Fields after) told is = absurd is
    told-resized Count (kept.Sums sums) after told is = absurd told
    told-resized Count (kept.Fields fields) after told is = absurd told
    told-resized (Sum column) kept.Count after told is = absurd told
    told-resized (Sum column) (kept.Fields fields) after told is = absurd told
    told-resized (Sum column) (kept.Sums sums) kept.Count told is = absurd is
    told-resized (Sum column) (kept.Sums sums) (kept.Fields after) told is = absurd is
    told-resized (Sum column) (kept.Sums sums) (kept.Sums after) told is =
        resized (sum_of column) sums.items after.items told is
    told-resized (Min column) kept.Count after told is = absurd told
    told-resized (Min column) (kept.Sums sums) after told is = absurd told
    told-resized (Min column) (kept.Fields fields) kept.Count told is = absurd is
    told-resized (Min column) (kept.Fields fields) (kept.Sums after) told is = absurd is
    told-resized (Min column) (kept.Fields fields) (kept.Fields after) told is =
        resized (λ mine. aggregate_of mine (Min column)) fields.items after.items told is
    told-resized (Max column) kept.Count after told is = absurd told
    told-resized (Max column) (kept.Sums sums) after told is = absurd told
    told-resized (Max column) (kept.Fields fields) kept.Count told is = absurd is
    told-resized (Max column) (kept.Fields fields) (kept.Sums after) told is = absurd is
    told-resized (Max column) (kept.Fields fields) (kept.Fields after) told is =
        resized (λ mine. aggregate_of mine (Max column)) fields.items after.items told is

  pub tallied-keys : (columns : List Column) (keys more : List (List Value)) (rows : List JoinedRow) (count : ℕ)
      → length (keys ++ more) ≡ n → AreDistinct (keys ++ more) → IsShaped (length before.counts.items) count aggregates before
      → IsTallied columns aggregates keys rows before → IsTallied columns aggregates (keys ++ more) rows after
  tallied-keys columns keys more rows count size distinct shaped told = record {
    distinct = distinct;
    numbers = told.numbers;
    numbered = still-numbers keys more columns rows told.numbers told.numbered;
    counts = resized columns keys more rows size distinct told.numbers told.numbered length before.counts.items after.counts.items
        told.counts counts;
    each = λ k d t lt.
        told-resized columns keys more rows size distinct told.numbers told.numbered (get_or aggregates k d)
        (get_or before.columns.items k t) (get_or after.columns.items k t) (told.each k d t lt)
        (grows k t (omega (arith, lt, shaped.sizes)));
  }

-- ---- the groups

-- whether these are groups, by how many rows they have
group-there : (columns : List Column) (rows : List JoinedRow) (key : List Value) → (columns ≡ [] → key ≡ [])
    → is_told columns (length (rows_in columns key rows)) ≡ true → is_group columns rows key ≡ true
group-there [] rows key none told = ap (λ key. is_group [] rows key) (none refl)
group-there (column ∷ columns) rows key none told = by (is_group (column ∷ columns) rows key) refl
  where
    by : (there : Bool) → is_group (column ∷ columns) rows key ≡ there → there ≡ true
    by true e = refl
    by false e =
        absurd (false≢true (ap (λ list. is_told (column ∷ columns) (length list)) (sym (absent-rows (column ∷ columns) rows key e)) ∙ told))

absent-filter : (key : JoinedRow → List Value) (test : List Value → Bool) (rows : List JoinedRow)
    → nat_lt 0 (length (filter (λ row. test (key row)) rows)) ≡ false → list_any test (map key rows) ≡ false
absent-filter key test [] e = refl
absent-filter key test (row ∷ rows) e = by (test (key row)) e (absent-filter key test rows)
  where
    by : (here : Bool)
        → nat_lt 0 (length (cond here (row ∷ filter (λ row. test (key row)) rows) (filter (λ row. test (key row)) rows))) ≡ false
        → (nat_lt 0 (length (filter (λ row. test (key row)) rows)) ≡ false → list_any test (map key rows) ≡ false)
        → (here || list_any test (map key rows)) ≡ false
    by true e rest = absurd (grind (arith, nat_tests, e))
    by false e rest = rest e

no-group : (columns : List Column) (rows : List JoinedRow) (key : List Value)
    → is_told columns (length (rows_in columns key rows)) ≡ false → is_group columns rows key ≡ false
no-group [] rows key told = absurd (false≢true (sym told))
no-group (column ∷ columns) rows key told =
    absent-filter (group_of (column ∷ columns)) (λ other. is_eq (group_cmp key other)) rows told

any-at : (test : List Value → Bool) (keys : List (List Value)) (n : ℕ) (key : List Value) → slice_get keys n ≡ Some key
    → list_any test keys ≡ false → test key ≡ false
any-at test [] n key at none = absurd (cc)
any-at test (first ∷ keys) zero key at none =
    ap test (sym (same_Some first key at)) ∙ (or_parts (test first) (list_any test keys) none).0
any-at test (first ∷ keys) (suc n) key at none = any-at test keys n key at (or_parts (test first) (list_any test keys) none).1

-- a group that is not among the keys is none of the rows
none-among : (test : List Value → Bool) (keys : List (List Value)) (columns : List Column) (rows : List JoinedRow) (numbers : List ℕ)
    → AreNumbers keys columns rows numbers → list_any test keys ≡ false → list_any test (map (group_of columns) rows) ≡ false
none-among test keys columns [] numbers are none = refl
none-among test keys columns (row ∷ rows) [] are none = absurd (cc)
none-among test keys columns (row ∷ rows) (number ∷ numbers) are none =
    let head : slice_get keys number ≡ Some (group_of columns row) = cc in
    let tail : map (λ number. slice_get keys number) numbers ≡ map (λ row. Some (group_of columns row)) rows = cc in
    ap (λ here. here || list_any test (map (group_of columns) rows)) (any-at test keys number (group_of columns row) head none)
    ∙ none-among test keys columns rows numbers tail none

none-of-keys : (keys : List (List Value)) (columns : List Column) (rows : List JoinedRow) (numbers : List ℕ) (group : List Value)
    → AreNumbers keys columns rows numbers → (columns ≡ [] → keys ≡ [] ∷ []) → list_any (λ key. is_eq (group_cmp group key)) keys ≡ false
    → is_group columns rows group ≡ false
none-of-keys keys [] rows numbers group are one none = ap (list_any (λ key. is_eq (group_cmp group key))) (sym (one refl)) ∙ none
none-of-keys keys (column ∷ columns) rows numbers group are one none =
    none-among (λ key. is_eq (group_cmp group key)) keys (column ∷ columns) rows numbers are none

count-within : (count held : ℕ) → held ≤ count → IsWithin count (Number (pos held))
count-within count held le = (omega (arith, ints, le), omega (arith, ints, le))

field-within : (count : ℕ) (found : Option Value) → IsWithin count (field_of found)
field-within count None = tt
field-within count (Some value) = tt

module _ (plan : Plan) (keys : List (List Value)) (rows : List JoinedRow) (count : ℕ) (tallies : Tallies)
    (one : plan.groups ≡ [] → keys ≡ [] ∷ []) (shaped : IsShaped (length keys) count plan.aggregates tallies)
    (told : IsTallied plan.groups plan.aggregates keys rows tallies) where
  abbrev mine : List Value → List JoinedRow
  mine key = rows_in plan.groups key rows

  read-key : {X : Type 0} (items : List X) (tells : List JoinedRow → X) → items ≡ by_keys plan.groups keys rows tells → (n : ℕ)
      → n < length keys → (d : X) → get_or items n d ≡ tells (mine (get_or keys n []))
  read-key items tells is n lt d = ap (λ list. get_or list n d) is ∙ get_or-map (λ key. tells (mine key)) keys n [] d lt

  count-at : (n : ℕ) → n < length keys → get_or tallies.counts.items n 0 ≡ length (mine (get_or keys n []))
  count-at n lt = read-key tallies.counts.items length told.counts n lt 0

  field-told : (n : ℕ) → n < length keys → (aggregate : Aggregate) (tally : Tally) → IsTold plan.groups keys rows aggregate tally
      → field_at (get_or tallies.counts.items n 0) n tally ≡ aggregate_of (mine (get_or keys n [])) aggregate
  field-told n lt Count kept.Count is = ap (λ n. Number (pos n)) (count-at n lt)
  field-told n lt Count (kept.Sums sums) is = absurd is
  field-told n lt Count (kept.Fields fields) is = absurd is
  field-told n lt (Sum column) kept.Count is = absurd is
  field-told n lt (Sum column) (kept.Sums sums) is = ap Number (read-key sums.items (sum_of column) is n lt (pos 0))
  field-told n lt (Sum column) (kept.Fields fields) is = absurd is
  field-told n lt (Min column) kept.Count is = absurd is
  field-told n lt (Min column) (kept.Sums sums) is = absurd is
  field-told n lt (Min column) (kept.Fields fields) is = read-key fields.items (λ mine. aggregate_of mine (Min column)) is n lt Absent
  field-told n lt (Max column) kept.Count is = absurd is
  field-told n lt (Max column) (kept.Sums sums) is = absurd is
  field-told n lt (Max column) (kept.Fields fields) is = read-key fields.items (λ mine. aggregate_of mine (Max column)) is n lt Absent

  field-fits : (n : ℕ) → n < length keys → (aggregate : Aggregate) (tally : Tally) → IsTold plan.groups keys rows aggregate tally
      → IsColumn (length keys) count aggregate tally → IsWithin count (field_at (get_or tallies.counts.items n 0) n tally)
  field-fits n lt Count kept.Count is has = count-within count (get_or tallies.counts.items n 0) (shaped.within n 0 lt)
  field-fits n lt Count (kept.Sums sums) is has = absurd is
  field-fits n lt Count (kept.Fields fields) is has = absurd is
  field-fits n lt (Sum column) kept.Count is has = absurd is
  field-fits n lt (Sum column) (kept.Sums sums) is has = has.1 n (pos 0) (omega (arith, lt, has.0))
  field-fits n lt (Sum column) (kept.Fields fields) is has = absurd is
  field-fits n lt (Min column) kept.Count is has = absurd is
  field-fits n lt (Min column) (kept.Sums sums) is has = absurd is
  field-fits n lt (Min column) (kept.Fields fields) is has =
      subst (IsWithin count) (sym (field-told n lt (Min column) (kept.Fields fields) is))
      (field-within count (best lesser (values_in column (mine (get_or keys n [])))))
  field-fits n lt (Max column) kept.Count is has = absurd is
  field-fits n lt (Max column) (kept.Sums sums) is has = absurd is
  field-fits n lt (Max column) (kept.Fields fields) is has =
      subst (IsWithin count) (sym (field-told n lt (Max column) (kept.Fields fields) is))
      (field-within count (best greater (values_in column (mine (get_or keys n [])))))

  abbrev at : ℕ → Tally → Field
  at n tally = field_at (get_or tallies.counts.items n 0) n tally

  fields-told : (n : ℕ) → n < length keys
      → map (at n) tallies.columns.items ≡ map (aggregate_of (mine (get_or keys n []))) plan.aggregates
  fields-told n lt =
      let left = length-map tallies.columns.items (at n) in
      let right = length-map plan.aggregates (aggregate_of (mine (get_or keys n []))) in
      let sizes = shaped.sizes in
      same_lists (map (at n) tallies.columns.items) (map (aggregate_of (mine (get_or keys n []))) plan.aggregates)
      (omega (arith, left, right, sizes))
      (λ k d few.
      let within : k < length tallies.columns.items = omega (arith, few, left) in
      let also : k < length plan.aggregates = omega (arith, few, left, sizes) in
      get_or-map (at n) tallies.columns.items k kept.Count d within
      ∙ field-told n lt (get_or plan.aggregates k Count) (get_or tallies.columns.items k kept.Count) (told.each k Count kept.Count also)
      ∙ sym (get_or-map (aggregate_of (mine (get_or keys n []))) plan.aggregates k Count d also))

  fields-fit : (n : ℕ) → n < length keys → All (IsWithin count) (map (at n) tallies.columns.items)
  fields-fit n lt =
      let left = length-map tallies.columns.items (at n) in
      let sizes = shaped.sizes in
      All-from_get_or (IsWithin count) (map (at n) tallies.columns.items) Absent
      (λ k few.
      let within : k < length tallies.columns.items = omega (arith, few, left) in
      let also : k < length plan.aggregates = omega (arith, few, left, sizes) in
      subst (IsWithin count) (sym (get_or-map (at n) tallies.columns.items k kept.Count Absent within))
      (field-fits n lt (get_or plan.aggregates k Count) (get_or tallies.columns.items k kept.Count)
      (told.each k Count kept.Count also) (shaped.each k Count kept.Count also)))

  one-key : (n : ℕ) → n < length keys → plan.groups ≡ [] → get_or keys n [] ≡ []
  one-key n lt none =
      let is = one none in
      let first : n ≡ 0 = omega (arith, lt, ap length is) in
      (λ i. get_or (is i) (first i) [])

  abbrev found_upto : ℕ → List Value → Option (List Field)
  found_upto i group = cond (list_any (λ key. is_eq (group_cmp group key)) (take i keys)) (kept_at plan rows group) None

  same-kept : (n : ℕ) (group : List Value) (held : Option (List Field)) → n < length keys
      → kept_at plan rows (get_or keys n []) ≡ held
      → found_upto (n + 1) group ≡ cond (is_eq (group_cmp (get_or keys n []) group)) held (found_upto n group)
  same-kept n group held lt is =
      ap (λ any. cond any (kept_at plan rows group) None) (list_any_more (λ key. is_eq (group_cmp group key)) keys n [] lt)
      ∙ ap (λ here. cond (list_any (λ key. is_eq (group_cmp group key)) (take n keys) || here) (kept_at plan rows group) None)
      (flips group (get_or keys n []))
      ∙ by (list_any (λ key. is_eq (group_cmp group key)) (take n keys)) (is_eq (group_cmp (get_or keys n []) group)) refl
    where
      by : (any here : Bool) → is_eq (group_cmp (get_or keys n []) group) ≡ here
          → cond (any || here) (kept_at plan rows group) None ≡ cond here held (cond any (kept_at plan rows group) None)
      by true true e = ap (kept_at plan rows) (sym (same_group (get_or keys n []) group e)) ∙ is
      by false true e = ap (kept_at plan rows) (sym (same_group (get_or keys n []) group e)) ∙ is
      by true false e = refl
      by false false e = refl

  -- a key that is a group, and one that is none
  pub found-told : (n : ℕ) (before after : GroupList) (fields : List Field) → n < length keys
      → is_told plan.groups (get_or tallies.counts.items n 0) ≡ true → fields ≡ map (at n) tallies.columns.items
      → ((group : List Value) → lookup (is_at (group_cmp group)) before ≡ found_upto n group)
      → ((group : List Value) → lookup (is_at (group_cmp group)) after
      ≡ cond (is_eq (group_cmp (get_or keys n []) group)) (Some fields) (lookup (is_at (group_cmp group)) before))
      → (group : List Value) → lookup (is_at (group_cmp group)) after ≡ found_upto (n + 1) group
  found-told n before after fields lt tells are finds puts group =
      let there = group-there plan.groups rows (get_or keys n []) (one-key n lt) (ap (is_told plan.groups) (sym (count-at n lt)) ∙ tells) in
      puts group
      ∙ ap (cond (is_eq (group_cmp (get_or keys n []) group)) (Some fields)) (finds group)
      ∙ sym (same-kept n group (Some fields) lt
      (ap (λ here. cond here (Some (map (aggregate_of (mine (get_or keys n []))) plan.aggregates)) None) there
      ∙ ap Some (sym (fields-told n lt) ∙ sym are)))

  pub found-not : (n : ℕ) (before : GroupList) → n < length keys → is_told plan.groups (get_or tallies.counts.items n 0) ≡ false
      → ((group : List Value) → lookup (is_at (group_cmp group)) before ≡ found_upto n group)
      → (group : List Value) → lookup (is_at (group_cmp group)) before ≡ found_upto (n + 1) group
  found-not n before lt tells finds group =
      finds group
      ∙ by (is_eq (group_cmp (get_or keys n []) group)) refl
      ∙ sym (same-kept n group None lt none)
    where
      none : kept_at plan rows (get_or keys n []) ≡ None
      none =
          ap (λ here. cond here (Some (map (aggregate_of (mine (get_or keys n []))) plan.aggregates)) None)
          (no-group plan.groups rows (get_or keys n []) (ap (is_told plan.groups) (sym (count-at n lt)) ∙ tells))

      all : (any : Bool) (held : Option (List Field)) → cond any held held ≡ held
      all true held = refl
      all false held = refl

      by : (here : Bool) → is_eq (group_cmp (get_or keys n []) group) ≡ here → found_upto n group ≡ cond here None (found_upto n group)
      by true e =
          ap (λ kept. cond (list_any (λ key. is_eq (group_cmp group key)) (take n keys)) kept None)
          (ap (kept_at plan rows) (sym (same_group (get_or keys n []) group e)) ∙ none)
          ∙ all (list_any (λ key. is_eq (group_cmp group key)) (take n keys)) None
      by false e = refl

  pub found-all : (i : ℕ) (groups : GroupList) → length keys ≤ i
      → ((group : List Value) → lookup (is_at (group_cmp group)) groups ≡ found_upto i group) → AreWithin count groups
      → GroupsAreKept plan rows count groups
  found-all i groups le finds within = record {
    found = λ group. finds group ∙ ap (λ list. cond (list_any (λ key. is_eq (group_cmp group key)) list) (kept_at plan rows group) None)
        (take_all i keys le) ∙ by group (list_any (λ key. is_eq (group_cmp group key)) keys) refl;
    within = within;
  }
    where
      by : (group : List Value) (any : Bool) → list_any (λ key. is_eq (group_cmp group key)) keys ≡ any
          → cond any (kept_at plan rows group) None ≡ kept_at plan rows group
      by group true e = refl
      by group false e =
          sym (ap (λ here. cond here (Some (map (aggregate_of (mine group)) plan.aggregates)) None)
          (none-of-keys keys plan.groups rows told.numbers group told.numbered one e))

  pub within-told : (n : ℕ) (before after : GroupList) (fields : List Field) → n < length keys → fields ≡ map (at n) tallies.columns.items
      → AreWithin count before
      → ((group : List Value) → lookup (is_at (group_cmp group)) after
      ≡ cond (is_eq (group_cmp (get_or keys n []) group)) (Some fields) (lookup (is_at (group_cmp group)) before))
      → AreWithin count after
  within-told n before after fields lt are within puts group =
      subst (λ found. IfSome found (λ fields. All (IsWithin count) fields)) (sym (puts group))
      (by (is_eq (group_cmp (get_or keys n []) group)))
    where
      by : (here : Bool)
          → IfSome (cond here (Some fields) (lookup (is_at (group_cmp group)) before)) (λ fields. All (IsWithin count) fields)
      by true = subst (All (IsWithin count)) (sym are) (fields-fit n lt)
      by false = within group

  -- one key more
  module _ (n : ℕ) (lt : n < length keys) (key : List Value) (is : key ≡ get_or keys n []) (before after : GroupList)
      (puts : is_told plan.groups (get_or tallies.counts.items n 0) ≡ true → (group : List Value)
      → lookup (is_at (group_cmp group)) after
      ≡ cond (is_eq (group_cmp key group)) (Some (map (at n) tallies.columns.items)) (lookup (is_at (group_cmp group)) before))
      (same : is_told plan.groups (get_or tallies.counts.items n 0) ≡ false → after ≡ before) where
    puts-here : is_told plan.groups (get_or tallies.counts.items n 0) ≡ true → (group : List Value)
        → lookup (is_at (group_cmp group)) after
        ≡ cond (is_eq (group_cmp (get_or keys n []) group)) (Some (map (at n) tallies.columns.items))
        (lookup (is_at (group_cmp group)) before)
    puts-here e group =
        puts e group
        ∙ ap (λ key. cond (is_eq (group_cmp key group)) (Some (map (at n) tallies.columns.items))
        (lookup (is_at (group_cmp group)) before)) is

    pub found-next : ((group : List Value) → lookup (is_at (group_cmp group)) before ≡ found_upto n group)
        → (group : List Value) → lookup (is_at (group_cmp group)) after ≡ found_upto (n + 1) group
    found-next finds = by (is_told plan.groups (get_or tallies.counts.items n 0)) refl
      where
        by : (tells : Bool) → is_told plan.groups (get_or tallies.counts.items n 0) ≡ tells
            → (group : List Value) → lookup (is_at (group_cmp group)) after ≡ found_upto (n + 1) group
        by true e group = found-told n before after (map (at n) tallies.columns.items) lt e refl finds (puts-here e) group
        by false e group =
            ap (λ groups. lookup (is_at (group_cmp group)) groups) (same e) ∙ found-not n before lt e finds group

    pub within-next : AreWithin count before → AreWithin count after
    within-next within = by (is_told plan.groups (get_or tallies.counts.items n 0)) refl
      where
        by : (tells : Bool) → is_told plan.groups (get_or tallies.counts.items n 0) ≡ tells → AreWithin count after
        by true e = within-told n before after (map (at n) tallies.columns.items) lt refl within (puts-here e)
        by false e = subst (AreWithin count) (sym (same e)) within
