-- What is kept of a plan by the numbers of its groups, with a block of rows more, and with keys more.
use Rattle.std.proofs.Common.{◌≡◌, ◌≢◌, ℕ, zero, suc, ◌+◌, ◌<◌, ◌≤◌, ℤ, ◌+ℤ◌, Bool, true, false, ◌==◌, cond, List, [], ◌∷◌, ◌++◌, length}
use Rattle.std.proofs.Common.{⊎_elim, map, set, get_or, take, drop, Some, slice_get, refl, sym, ap, subst, ◌∙◌, arith, append_assoc}
use Rattle.std.proofs.Common.{eqb-true, length-append}
use Rattle.std.specs.Ordering.{is_eq}
use Rattle.std.proofs.lemmas.Bool.{false≢true, cond-false, cases_lt}
use Rattle.std.proofs.lemmas.Bool.Decides.{nat_tests}
use Rattle.std.proofs.lemmas.List.{get_or_append_left, get_or_push, get_or_default, append-nil, map-append}
use Rattle.std.proofs.lemmas.List.{length-map, get_or-set_same, get_or-set_other, get_or-map, same_lists}
use Rattle.std.proofs.lemmas.List.Elements.{filter-append}
use Rattle.std.proofs.lemmas.Option.{same_Some, slice_get-get_or}
use Rattle.plans.specs.Inner.Picked.{picked, folded}
use Rattle.plans.specs.Inner.Picked.{total as number_total}
use Rattle.rows.specs.declared.value.Value.{Value}
use Rattle.rows.specs.declared.value.Value.TheVariants.{Int}
use Rattle.queries.specs.declared.aggregate.Aggregate.{Aggregate}
use Rattle.queries.specs.declared.aggregate.Aggregate.TheVariants.{Count, Sum, Min, Max}
use Rattle.queries.specs.declared.column.Column.{Column}
use Rattle.queries.specs.declared.field.Field.{Field}
use Rattle.plans.specs.declared.input.Input.{Input}
use Rattle.plans.specs.declared.input.Input.TheVariants as inputs
use Rattle.plans.specs.declared.tallies.Tally.{Tally}
use Rattle.plans.specs.declared.tallies.Tally.TheVariants as tallies
use Rattle.plans.specs.declared.tallies.Tallies.{Tallies}
use Rattle.queries.specs.Order.{group_cmp}
use Rattle.queries.specs.Answers.{JoinedRow, joined_value, integer_of, total, values_in, group_of, rows_in, aggregate_of}
use Rattle.plans.specs.Inner.Kept.{grown, input_of}
use Rattle.plans.specs.Inner.Numbered.{AreNumbers, AreDistinct, integers_in, IsInput, AreInputs}
use Rattle.plans.specs.Inner.Numbered.{sum_of, by_keys, IsTold, IsTallied, IsGrown}
use Rattle.plans.proofs.Orders.{is_itself}
use Rattle.plans.proofs.Aggregates.{aggregate_of-push, total-append}

-- ---- lists that are changed place by place

module _ {X : Type 0} (before now : List X) (i : ℕ) (new : X) where
  pub done-more : (R : ℕ → X → X → Type 0) → i < length now
      → ((k : ℕ) (t : X) → k < i → R k (get_or before k t) (get_or now k t))
      → ((t : X) → R i (get_or before i t) new)
      → (k : ℕ) (t : X) → k < i + 1 → R k (get_or before k t) (get_or (set now i new) k t)
  done-more R few done here k t lt = by (i == k) refl
    where
      by : (same : Bool) → (i == k) ≡ same → R k (get_or before k t) (get_or (set now i new) k t)
      by true same =
          let at : i ≡ k = eqb-true i k same in
          subst (λ j. R j (get_or before j t) (get_or (set now i new) j t)) at
          (subst (R i (get_or before i t)) (sym (get_or-set_same now i new t few)) (here t))
      by false same =
          let apart : k ≢ i = grind (arith, nat_tests, same) in
          subst (R k (get_or before k t)) (sym (get_or-set_other now i k new t apart)) (done k t (omega (arith, apart, lt)))

  pub left-more : ((k : ℕ) (t : X) → i ≤ k → get_or now k t ≡ get_or before k t)
      → (k : ℕ) (t : X) → i + 1 ≤ k → get_or (set now i new) k t ≡ get_or before k t
  left-more left k t le = get_or-set_other now i k new t (omega (arith, le)) ∙ left k t (omega (arith, le))

  pub at-index : (w t : X) → i < length now → ((k : ℕ) (t : X) → i ≤ k → get_or now k t ≡ get_or before k t)
      → get_or now i w ≡ get_or before i t
  at-index w t few left = get_or_default now i w t few ∙ left i t (omega arith)

-- a list with one element more
pub pushed : {X : Type 0} (P : ℕ → X → Type 0) (items : List X) (x : X) (i : ℕ) → length items ≡ i
    → ((k : ℕ) (t : X) → k < i → P k (get_or items k t)) → P i x → (k : ℕ) (t : X) → k < i + 1 → P k (get_or (items ++ x ∷ []) k t)
pushed P items x i size old new k t lt = ⊎_elim here there (cases_lt k i)
  where
    here : k < i → P k (get_or (items ++ x ∷ []) k t)
    here within = subst (P k) (sym (get_or_append_left items (x ∷ []) t k (omega (arith, within, size)))) (old k t within)

    there : i ≤ k → P k (get_or (items ++ x ∷ []) k t)
    there past =
        let at : k ≡ i = omega (arith, lt, past) in
        subst (λ j. P j (get_or (items ++ x ∷ []) j t)) (sym at) (subst (P i) (sym (get_or_push items x t i size)) new)

-- a list that is written over one of the same length
pub refilled : {X : Type 0} (n : ℕ) (items news : List X) → length items ≡ n → length news ≡ length items
    → take n (news ++ drop (length news) items) ≡ news
refilled zero [] [] all same = refl
refilled (suc n) [] news all same = absurd (omega arith)
refilled zero (item ∷ items) news all same = absurd (omega arith)
refilled n [] (new ∷ news) all same = absurd (omega arith)
refilled n (item ∷ items) [] all same = absurd (omega arith)
refilled (suc n) (item ∷ items) (new ∷ news) all same = ap (λ rest. new ∷ rest) (refilled n items news (omega arith) (omega arith))

-- what holds of the elements of two lists holds of those of the same lists
pub through : {X : Type 0} (R : ℕ → X → X → Type 0) (olds before news after : List X) → before ≡ olds → after ≡ news
    → ((k : ℕ) (t : X) → k < length before → R k (get_or before k t) (get_or news k t))
    → (k : ℕ) (t : X) → k < length olds → R k (get_or olds k t) (get_or after k t)
through {X} R olds before news after same is h =
    subst (λ (list : List X). (k : ℕ) (t : X) → k < length list → R k (get_or list k t) (get_or after k t)) same
    (subst (λ (list : List X). (k : ℕ) (t : X) → k < length before → R k (get_or before k t) (get_or list k t)) (sym is) h)

-- ---- rows picked by their numbers

picked-map : {A B : Type 0} (f : A → B) (n : ℕ) (numbers : List ℕ) (xs : List A)
    → map f (picked n numbers xs) ≡ picked n numbers (map f xs)
picked-map f n [] xs = refl
picked-map f n (number ∷ numbers) [] = refl
picked-map {A} {B} f n (number ∷ numbers) (x ∷ xs) = by (number == n) (picked-map f n numbers xs)
  where
    by : (here : Bool) → map f (picked n numbers xs) ≡ picked n numbers (map f xs)
        → map f (cond here (x ∷ picked n numbers xs) (picked n numbers xs))
        ≡ cond here (f x ∷ picked n numbers (map f xs)) (picked n numbers (map f xs))
    by true rest = ap (λ list. f x ∷ list) rest
    by false rest = rest

same-lengths : {A B : Type 0} (n : ℕ) (numbers : List ℕ) (xs : List A) (ys : List B) → length xs ≡ length numbers
    → length ys ≡ length numbers → length (picked n numbers xs) ≡ length (picked n numbers ys)
same-lengths n [] xs ys e f = refl
same-lengths n (number ∷ numbers) [] ys e f = absurd (omega (arith, e))
same-lengths n (number ∷ numbers) (x ∷ xs) [] e f = absurd (omega (arith, f))
same-lengths n (number ∷ numbers) (x ∷ xs) (y ∷ ys) e f =
    by (number == n) (same-lengths n numbers xs ys (omega (arith, e)) (omega (arith, f)))
  where
    by : (here : Bool) → length (picked n numbers xs) ≡ length (picked n numbers ys)
        → length (cond here (x ∷ picked n numbers xs) (picked n numbers xs))
        ≡ length (cond here (y ∷ picked n numbers ys) (picked n numbers ys))
    by true rest = ap suc rest
    by false rest = rest

pub picked-none : {A : Type 0} (n : ℕ) (numbers : List ℕ) (xs : List A) → ((i : ℕ) (d : ℕ) → i < length numbers → get_or numbers i d < n)
    → picked n numbers xs ≡ []
picked-none n [] xs below = refl
picked-none n (number ∷ numbers) [] below = refl
picked-none n (number ∷ numbers) (x ∷ xs) below =
    let lt : number < n = below 0 0 (omega arith) in
    let other : (number == n) ≡ false = grind (arith, nat_tests, lt) in
    cond-false (number == n) (x ∷ picked n numbers xs) (picked n numbers xs) other
    ∙ picked-none n numbers xs (λ i d few. below (suc i) d (omega (arith, few)))

module _ (columns : List Column) (keys : List (List Value)) (distinct : AreDistinct keys) where
  same-number : (n number : ℕ) (key group : List Value) → slice_get keys n ≡ Some key → slice_get keys number ≡ Some group
      → is_eq (group_cmp key group) ≡ (number == n)
  same-number n number key group at there = by (is_eq (group_cmp key group)) (number == n) refl refl
    where
      by : (a b : Bool) → is_eq (group_cmp key group) ≡ a → (number == n) ≡ b → a ≡ b
      by true true e f = refl
      by true false e f =
          let same : n ≡ number = distinct n number key group at there e in
          absurd (grind (arith, nat_tests, same, f))
      by false true e f =
          let same : number ≡ n = eqb-true number n f in
          let is : key ≡ group = same_Some key group (sym at ∙ ap (slice_get keys) (sym same) ∙ there) in
          absurd (false≢true (sym e ∙ ap (λ group. is_eq (group_cmp key group)) (sym is) ∙ is_itself key))
      by false false e f = refl

  -- the rows of a key are those of its number
  pub rows_in-picked : (n : ℕ) (key : List Value) → slice_get keys n ≡ Some key → (rows : List JoinedRow) (numbers : List ℕ)
      → AreNumbers keys columns rows numbers → rows_in columns key rows ≡ picked n numbers rows
  rows_in-picked n key at [] [] are = refl
  rows_in-picked n key at [] (number ∷ numbers) are = absurd (cc)
  rows_in-picked n key at (row ∷ rows) [] are = absurd (cc)
  rows_in-picked n key at (row ∷ rows) (number ∷ numbers) are =
      let head : slice_get keys number ≡ Some (group_of columns row) = cc in
      let tail : map (λ number. slice_get keys number) numbers ≡ map (λ row. Some (group_of columns row)) rows = cc in
      let here = same-number n number key (group_of columns row) at head in
      let rest = rows_in-picked n key at rows numbers tail in
      λ i. cond (here i) (row ∷ rest i) (rest i)

AreNumbers-length : (keys : List (List Value)) (columns : List Column) (rows : List JoinedRow) (numbers : List ℕ)
    → AreNumbers keys columns rows numbers → length rows ≡ length numbers
AreNumbers-length keys columns rows numbers are =
    sym (length-map rows (λ row. Some (group_of columns row))) ∙ ap length (sym are)
    ∙ length-map numbers (λ number. slice_get keys number)

AreNumbers-append : (keys : List (List Value)) (columns : List Column) (rows more : List JoinedRow) (numbers others : List ℕ)
    → AreNumbers keys columns rows numbers → AreNumbers keys columns more others → AreNumbers keys columns (rows ++ more)
    (numbers ++ others)
AreNumbers-append keys columns rows more numbers others are also =
    map-append (λ number. slice_get keys number) numbers others
    ∙ (λ i. are i ++ also i)
    ∙ sym (map-append (λ row. Some (group_of columns row)) rows more)

-- ---- aggregates of rows and of others behind them

total-same : (numbers : List ℤ) → number_total numbers ≡ total numbers
total-same [] = refl
total-same (number ∷ numbers) = ap (λ sum. number +ℤ sum) (total-same numbers)

integers_in-append : (column : Column) (rows more : List JoinedRow)
    → integers_in column (rows ++ more) ≡ integers_in column rows ++ integers_in column more
integers_in-append column rows more =
    ap (map integer_of) (map-append (λ row. joined_value row column) rows more)
    ∙ map-append integer_of (values_in column rows) (values_in column more)

sum_of-append : (column : Column) (rows more : List JoinedRow) → sum_of column (rows ++ more) ≡ sum_of column rows +ℤ sum_of column more
sum_of-append column rows more =
    ap total (integers_in-append column rows more) ∙ total-append (integers_in column rows) (integers_in column more)

folded-aggregate : (aggregate : Aggregate) (rows more : List JoinedRow)
    → aggregate_of (rows ++ more) aggregate
    ≡ folded (grown aggregate) (aggregate_of rows aggregate) (map (λ row. input_of row aggregate) more)
folded-aggregate aggregate rows [] = ap (λ list. aggregate_of list aggregate) (append-nil rows)
folded-aggregate aggregate rows (row ∷ more) =
    ap (λ list. aggregate_of list aggregate) (sym (append_assoc rows (row ∷ []) more))
    ∙ folded-aggregate aggregate (rows ++ row ∷ []) more
    ∙ ap (λ field. folded (grown aggregate) field (map (λ row. input_of row aggregate) more)) (aggregate_of-push rows row aggregate)

-- ---- a block of rows more

module _ (columns : List Column) (keys : List (List Value)) (distinct : AreDistinct keys) (rows more : List JoinedRow) (numbers : List ℕ)
    (are : AreNumbers keys columns more numbers) where
  by_keys-grown : {X : Type 0} (items after : List X) (told : List JoinedRow → X)
      → items ≡ by_keys columns keys rows told → length after ≡ length items
      → ((n : ℕ) (d : X) (key : List Value) → n < length items → slice_get keys n ≡ Some key
      → get_or items n d ≡ told (rows_in columns key rows)
      → get_or after n d ≡ told (rows_in columns key rows ++ picked n numbers more))
      → after ≡ by_keys columns keys (rows ++ more) told
  by_keys-grown {X} items after told is size step =
      let sizes : length items ≡ length keys = ap length is ∙ length-map keys (λ key. told (rows_in columns key rows)) in
      same_lists after (by_keys columns keys (rows ++ more) told)
      (size ∙ sizes ∙ sym (length-map keys (λ key. told (rows_in columns key (rows ++ more)))))
      (λ n d lt. at n d (omega (arith, lt, size)) (omega (arith, lt, size, sizes)))
    where
      at : (n : ℕ) (d : X) → n < length items → n < length keys
          → get_or after n d ≡ get_or (by_keys columns keys (rows ++ more) told) n d
      at n d few lt =
          let key : List Value = get_or keys n [] in
          let there : slice_get keys n ≡ Some key = slice_get-get_or keys n [] lt in
          let before : get_or items n d ≡ told (rows_in columns key rows) =
          ap (λ list. get_or list n d) is ∙ get_or-map (λ key. told (rows_in columns key rows)) keys n [] d lt in
          step n d key few there before
          ∙ ap (λ list. told (rows_in columns key rows ++ list)) (sym (rows_in-picked columns keys distinct n key there more numbers are))
          ∙ ap told (sym (filter-append (λ row. is_eq (group_cmp key (group_of columns row))) rows more))
          ∙ sym (get_or-map (λ key. told (rows_in columns key (rows ++ more))) keys n [] d lt)

  pub counts-grown : (counts after : List ℕ) → counts ≡ by_keys columns keys rows length → length after ≡ length counts
      → ((n : ℕ) (d : ℕ) → n < length counts → get_or after n d ≡ get_or counts n d + length (picked n numbers numbers))
      → after ≡ by_keys columns keys (rows ++ more) length
  counts-grown counts after is size adds =
      by_keys-grown counts after length is size
      (λ n d key few there before.
      adds n d few
      ∙ (λ i. before i + sym (same-lengths n numbers more numbers (AreNumbers-length keys columns more numbers are) refl) i)
      ∙ sym (length-append (rows_in columns key rows) (picked n numbers more)))

  sums-grown : (column : Column) (sums after values : List ℤ) → values ≡ integers_in column more
      → sums ≡ by_keys columns keys rows (sum_of column) → length after ≡ length sums
      → ((n : ℕ) (d : ℤ) → n < length sums → get_or after n d ≡ get_or sums n d +ℤ number_total (picked n numbers values))
      → after ≡ by_keys columns keys (rows ++ more) (sum_of column)
  sums-grown column sums after values takes is size adds =
      by_keys-grown sums after (sum_of column) is size
      (λ n d key few there before.
      adds n d few
      ∙ (λ i. before i +ℤ total-same (picked n numbers (takes i)) i)
      ∙ ap (λ list. sum_of column (rows_in columns key rows) +ℤ total list)
      (sym (picked-map integer_of n numbers (values_in column more))
      ∙ ap (map integer_of) (sym (picked-map (λ row. joined_value row column) n numbers more)))
      ∙ sym (sum_of-append column (rows_in columns key rows) (picked n numbers more)))

  fields-grown : (aggregate : Aggregate) (fields after : List Field) (values : List Value)
      → values ≡ map (λ row. input_of row aggregate) more
      → fields ≡ by_keys columns keys rows (λ mine. aggregate_of mine aggregate) → length after ≡ length fields
      → ((n : ℕ) (d : Field) → n < length fields
      → get_or after n d ≡ folded (grown aggregate) (get_or fields n d) (picked n numbers values))
      → after ≡ by_keys columns keys (rows ++ more) (λ mine. aggregate_of mine aggregate)
  fields-grown aggregate fields after values takes is size adds =
      by_keys-grown fields after (λ mine. aggregate_of mine aggregate) is size
      (λ n d key few there before.
      adds n d few
      ∙ (λ i. folded (grown aggregate) (before i) (picked n numbers (takes i)))
      ∙ ap (folded (grown aggregate) (aggregate_of (rows_in columns key rows) aggregate))
      (sym (picked-map (λ row. input_of row aggregate) n numbers more))
      ∙ sym (folded-aggregate aggregate (rows_in columns key rows) (picked n numbers more)))

  told-grown : (aggregate : Aggregate) (input : Input) (tally after : Tally) → IsTold columns keys rows aggregate tally
      → IsGrown numbers aggregate input tally after → IsInput more aggregate input → IsTold columns keys (rows ++ more) aggregate after
  told-grown Count input tallies.Count tallies.Count told grows takes = tt
  told-grown Count input tallies.Count (tallies.Sums after) told grows takes = absurd grows
  told-grown Count input tallies.Count (tallies.Fields after) told grows takes = absurd grows
  told-grown Count input (tallies.Sums sums) after told grows takes = absurd told
  told-grown Count input (tallies.Fields fields) after told grows takes = absurd told
  told-grown (Sum column) input tallies.Count after told grows takes = absurd told
  told-grown (Sum column) input (tallies.Fields fields) after told grows takes = absurd told
  told-grown (Sum column) inputs.Rows (tallies.Sums sums) after told grows takes = absurd takes
  told-grown (Sum column) (inputs.Values values) (tallies.Sums sums) after told grows takes = absurd takes
  told-grown (Sum column) (inputs.Numbers values) (tallies.Sums sums) tallies.Count told grows takes = absurd grows
  told-grown (Sum column) (inputs.Numbers values) (tallies.Sums sums) (tallies.Fields after) told grows takes = absurd grows
  told-grown (Sum column) (inputs.Numbers values) (tallies.Sums sums) (tallies.Sums after) told grows takes =
      sums-grown column sums.items after.items values.now takes told grows.0 grows.1
  told-grown (Min column) input tallies.Count after told grows takes = absurd told
  told-grown (Min column) input (tallies.Sums sums) after told grows takes = absurd told
  told-grown (Min column) inputs.Rows (tallies.Fields fields) after told grows takes = absurd takes
  told-grown (Min column) (inputs.Numbers values) (tallies.Fields fields) tallies.Count told grows takes = absurd grows
  told-grown (Min column) (inputs.Numbers values) (tallies.Fields fields) (tallies.Sums after) told grows takes = absurd grows
  told-grown (Min column) (inputs.Numbers values) (tallies.Fields fields) (tallies.Fields after) told grows takes =
      fields-grown (Min column) fields.items after.items (map Int values.now) takes told grows.0 grows.1
  told-grown (Min column) (inputs.Values values) (tallies.Fields fields) tallies.Count told grows takes = absurd grows
  told-grown (Min column) (inputs.Values values) (tallies.Fields fields) (tallies.Sums after) told grows takes = absurd grows
  told-grown (Min column) (inputs.Values values) (tallies.Fields fields) (tallies.Fields after) told grows takes =
      fields-grown (Min column) fields.items after.items values.now takes told grows.0 grows.1
  told-grown (Max column) input tallies.Count after told grows takes = absurd told
  told-grown (Max column) input (tallies.Sums sums) after told grows takes = absurd told
  told-grown (Max column) inputs.Rows (tallies.Fields fields) after told grows takes = absurd takes
  told-grown (Max column) (inputs.Numbers values) (tallies.Fields fields) tallies.Count told grows takes = absurd grows
  told-grown (Max column) (inputs.Numbers values) (tallies.Fields fields) (tallies.Sums after) told grows takes = absurd grows
  told-grown (Max column) (inputs.Numbers values) (tallies.Fields fields) (tallies.Fields after) told grows takes =
      fields-grown (Max column) fields.items after.items (map Int values.now) takes told grows.0 grows.1
  told-grown (Max column) (inputs.Values values) (tallies.Fields fields) tallies.Count told grows takes = absurd grows
  told-grown (Max column) (inputs.Values values) (tallies.Fields fields) (tallies.Sums after) told grows takes = absurd grows
  told-grown (Max column) (inputs.Values values) (tallies.Fields fields) (tallies.Fields after) told grows takes =
      fields-grown (Max column) fields.items after.items values.now takes told grows.0 grows.1

-- tallies with a block of rows more
pub tallied-more : (columns : List Column) (aggregates : List Aggregate) (keys : List (List Value)) (rows more : List JoinedRow)
    (numbers : List ℕ) (given : List Input) (before after : Tallies)
    → IsTallied columns aggregates keys rows before → AreNumbers keys columns more numbers → AreInputs more aggregates given
    → length after.counts.items ≡ length before.counts.items
    → ((n : ℕ) (d : ℕ) → n < length before.counts.items
    → get_or after.counts.items n d ≡ get_or before.counts.items n d + length (picked n numbers numbers))
    → ((k : ℕ) (d : Aggregate) (e : Input) (t : Tally) → k < length aggregates
    → IsGrown numbers (get_or aggregates k d) (get_or given k e) (get_or before.columns.items k t) (get_or after.columns.items k t))
    → IsTallied columns aggregates keys (rows ++ more) after
tallied-more columns aggregates keys rows more numbers given before after told are takes size counts grows = record {
  distinct = told.distinct;
  numbers = told.numbers ++ numbers;
  numbered = AreNumbers-append keys columns rows more told.numbers numbers told.numbered are;
  counts = counts-grown columns keys told.distinct rows more numbers are before.counts.items after.counts.items told.counts size counts;
  each = λ k d t lt.
      told-grown columns keys told.distinct rows more numbers are (get_or aggregates k d) (get_or given k inputs.Rows)
      (get_or before.columns.items k t) (get_or after.columns.items k t) (told.each k d t lt) (grows k d inputs.Rows t lt)
      (takes k d inputs.Rows lt);
}
