-- A range of positions of a table, looked at row by row; two ranges, one behind the other.
use Rattle.std.proofs.Common.{◌≡◌, ℕ, zero, suc, ◌+◌, ◌-◌, ◌<◌, ◌≤◌, Bool, true, false, List, [], ◌∷◌, ◌++◌, length, map, take, drop}
use Rattle.std.proofs.Common.{get_or, set, replicate}
use Rattle.std.proofs.Common.{Some, slice_get, Result, Ok, Err, IfOk, ◌⊎◌, inl, inr, refl, sym, ap, ◌∙◌, subst, ⊎_elim, arith}
use Rattle.std.specs.BTreeMap.{is_at}
use Rattle.std.specs.List.{All, AllZip}
use Rattle.std.specs.List.Sorted.{IsStrictlySortedBy}
use Rattle.std.specs.Map.{keys_of, lookup}
use Rattle.std.proofs.Math.Seq.{take-add}
use Rattle.std.proofs.lemmas.Bool.{cases_eq}
use Rattle.std.proofs.lemmas.List.{drop-drop, take_all, length-drop, length-set, get_or-drop, get_or-map, get_or-set_same, get_or-set_other}
use Rattle.std.proofs.lemmas.List.{length_push, length-map, get_or-take, take_at, take-take, drop_all, take-append-le}
use Rattle.std.proofs.lemmas.List.Elements.{All-nil, All-cons, All-head, All-tail, All-weaker, All-same, All-set}
use Rattle.std.proofs.lemmas.Option.{slice_get_within, slice_get-get_or, get_or_from_slice_get}
use Rattle.rows.specs.declared.value.Value.{Value}
use Rattle.rows.specs.Tables.{Rows, Tables, rows_of, row_at}
use Rattle.queries.specs.declared.aggregate.Aggregate.{Aggregate}
use Rattle.queries.specs.declared.plan.Plan.{Plan}
use Rattle.queries.specs.Order.{group_cmp}
use Rattle.queries.specs.Answers.{rows_among, answer_lines, plain_answer}
use Rattle.plans.specs.Partials.{Parts, range, rows_between, groups_between, answer_between, IsPartial}
use Rattle.plans.specs.Inner.Kept.{GroupList, AreWithin, GroupsAreKept, opening_groups, row_among}
use Rattle.plans.specs.Inner.Merged.{merged_at}
use Rattle.plans.specs.Inner.Ranges.{TakesRow, LooksAt, AreMerged, lines_of}
use Rattle.plans.proofs.Keeping.{opening-kept, kept-next, kept-with, with-kept, lines-with, rows_among-append}
use Rattle.plans.proofs.Parts.{AreWithin-add, kept-merged}

-- ---- ranges

range-none : (rows : Rows) (from : ℕ) → range rows from from ≡ []
range-none rows from = let none : from - from ≡ 0 = omega arith in ap (λ n. take n (drop from rows)) none

-- all rows up to a position, where there are none behind it
range-all : (rows : Rows) (from i to : ℕ) → i ≤ to → length rows ≤ i → range rows from i ≡ range rows from to
range-all rows from i to le end =
    let left = length-drop from rows in
    take_all (i - from) (drop from rows) (omega (arith, left)) ∙ sym (take_all (to - from) (drop from rows) (omega (arith, left)))

range-append : (rows : Rows) (a b c : ℕ) → a ≤ b → b ≤ c → range rows a b ++ range rows b c ≡ range rows a c
range-append rows a b c le more =
    let place : b ≡ a + (b - a) = omega arith in
    let behind : drop b rows ≡ drop (b - a) (drop a rows) = ap (λ n. drop n rows) place ∙ sym (drop-drop (b - a) a rows) in
    let size : (b - a) + (c - b) ≡ c - a = omega arith in
    ap (λ list. range rows a b ++ take (c - b) list) behind
    ∙ sym (take-add (b - a) (c - b) (drop a rows))
    ∙ ap (λ n. take n (drop a rows)) size

module _ (tables : Tables) (plan : Plan) where
  abbrev rows : Rows
  rows = rows_of tables plan.table

  -- before the first row
  between-none : (from : ℕ) (groups : GroupList) → groups ≡ opening_groups plan
      → GroupsAreKept plan (rows_between tables from from plan) (from - from) groups
  between-none from groups is =
      let none : from - from ≡ 0 = omega arith in
      subst (λ list. GroupsAreKept plan (rows_among tables plan list) (from - from) groups) (sym (range-none rows from))
      (subst (λ n. GroupsAreKept plan [] n groups) (sym none) (subst (GroupsAreKept plan [] 0) (sym is) (opening-kept plan)))

  -- one row more
  between-next : (from i id : ℕ) (own : List Value) (groups : GroupList) → from ≤ i → slice_get rows i ≡ Some (id, own)
      → row_at rows id ≡ Some own
      → GroupsAreKept plan (rows_between tables from i plan ++ row_among tables plan id) ((i - from) + 1) groups
      → GroupsAreKept plan (rows_between tables from (i + 1) plan) ((i + 1) - from) groups
  between-next from i id own groups le here there kept =
      let within : i < length rows = slice_get_within rows i (id, own) here in
      let left = length-drop from rows in
      let inside : i - from < length (drop from rows) = omega (arith, left, within) in
      let place : from + (i - from) ≡ i = omega arith in
      let at : slice_get (drop from rows) (i - from) ≡ Some (id, own) =
      slice_get-get_or (drop from rows) (i - from) (id, own) inside
      ∙ ap Some (get_or-drop from rows (i - from) (id, own) ∙ ap (λ n. get_or rows n (id, own)) place
      ∙ get_or_from_slice_get rows i (id, own) (id, own) here) in
      let more : (i - from) + 1 ≡ (i + 1) - from = omega arith in
      subst (λ n. GroupsAreKept plan (rows_among tables plan (take n (drop from rows))) n groups) more
      (kept-next tables plan (drop from rows) [] (i - from) id ((i - from) + 1) own groups at there kept)

  -- at the end of the range, or of the table
  between-end : (from i to : ℕ) (groups : GroupList) → from ≤ i → i ≤ to → (i ≡ to) ⊎ (length rows ≤ i)
      → GroupsAreKept plan (rows_between tables from i plan) (i - from) groups
      → GroupsAreKept plan (rows_between tables from to plan) (to - from) groups
  between-end from i to groups low high (inl e) kept =
      subst (λ n. GroupsAreKept plan (rows_between tables from n plan) (n - from) groups) e kept
  between-end from i to groups low high (inr end) kept =
      let more : (i - from) + (to - i) ≡ to - from = omega arith in
      subst (λ list. GroupsAreKept plan (rows_among tables plan list) (to - from) groups) (range-all rows from i to high end)
      (record {
        found = kept.found;
        within = subst (λ n. AreWithin n groups) more (AreWithin-add (i - from) (to - i) groups kept.within);
      })

-- ---- a plan, as a table is looked at

module _ (tables : Tables) (plan : Plan) (table from : ℕ) where
  pub looks-init : (groups : GroupList) → LooksAt tables plan table from from groups groups
  looks-init groups = record {
    kept = λ on opening. between-none tables plan from groups opening;
    other = λ off. refl;
  }

  -- the numbers of a plan on the table are those of the rows so far
  pub looks-within : (i : ℕ) (old groups : GroupList) → LooksAt tables plan table from i old groups → old ≡ opening_groups plan
      → plan.table ≡ table → AreWithin (i - from) groups
  looks-within i old groups looks opening on = (looks.kept on opening).within

  pub looks-next : (i id : ℕ) (own : List Value) (old groups after : GroupList) → from ≤ i
      → slice_get (rows_of tables table) i ≡ Some (id, own) → row_at (rows_of tables table) id ≡ Some own
      → LooksAt tables plan table from i old groups → TakesRow tables plan table id (i - from) groups after
      → LooksAt tables plan table from (i + 1) old after
  looks-next i id own old groups after le here there looks takes = record {
    kept = λ on opening.
        between-next tables plan from i id own after le (ap (λ n. slice_get (rows_of tables n) i) on ∙ here)
        (ap (λ n. row_at (rows_of tables n) id) on ∙ there)
        (takes.taken on (rows_between tables from i plan) (looks.kept on opening));
    other = λ off. takes.other off ∙ looks.other off;
  }

  pub looks-end : (i to : ℕ) (old groups : GroupList) → from ≤ i → i ≤ to → (i ≡ to) ⊎ (length (rows_of tables table) ≤ i)
      → LooksAt tables plan table from i old groups → LooksAt tables plan table from to old groups
  looks-end i to old groups low high end looks = record {
    kept = λ on opening.
        between-end tables plan from i to groups low high
        (subst (λ n. (i ≡ to) ⊎ (length (rows_of tables n) ≤ i)) (sym on) end) (looks.kept on opening);
    other = looks.other;
  }

-- the plans before an index have looked at the row of an identifier, and the others have not
pub record EachTakes (tables : Tables) (plans : List Plan) (table id count k : ℕ) (first groups : List GroupList) : Type 0 where
  pub taken : (j : ℕ) (d : Plan) (e : GroupList) → j < k
      → TakesRow tables (get_or plans j d) table id count (get_or first j e) (get_or groups j e)
  pub left : (j : ℕ) (e : GroupList) → k ≤ j → get_or groups j e ≡ get_or first j e

pub takes-next : (tables : Tables) (plans : List Plan) (table id count k : ℕ) (first groups : List GroupList) (new : GroupList)
    → EachTakes tables plans table id count k first groups → k < length groups
    → ((d : Plan) (e : GroupList) → TakesRow tables (get_or plans k d) table id count (get_or first k e) new)
    → EachTakes tables plans table id count (k + 1) first (set groups k new)
takes-next tables plans table id count k first groups new state lt here = record {
  taken = λ j d e less.
      ⊎_elim
      (λ same.
      subst (λ n. TakesRow tables (get_or plans n d) table id count (get_or first n e) (get_or (set groups k new) n e)) (sym same)
      (subst (TakesRow tables (get_or plans k d) table id count (get_or first k e)) (sym (get_or-set_same groups k new e lt)) (here d e)))
      (λ off.
      subst (TakesRow tables (get_or plans j d) table id count (get_or first j e)) (sym (get_or-set_other groups k j new e off))
      (state.taken j d e (omega (arith, less, off))))
      (cases_eq j k);
  left = λ j e le. get_or-set_other groups k j new e (λ same. absurd (omega (arith, le, same))) ∙ state.left j e (omega (arith, le));
}

-- ---- tables one after the other

-- the plans on a table that was looked at have the groups of its rows; the others have those before any row
pub record AreScanned (tables : Tables) (plans : List Plan) (from to : ℕ) (scanned : List Bool) (groups : List GroupList) : Type 0 where
  pub kept : (k : ℕ) (d : Plan) (e : GroupList) → k < length plans → get_or scanned (get_or plans k d).table false ≡ true
      → GroupsAreKept (get_or plans k d) (rows_between tables from to (get_or plans k d)) (to - from) (get_or groups k e)
  pub opening : (k : ℕ) (d : Plan) (e : GroupList) → k < length plans → get_or scanned (get_or plans k d).table false ≡ false
      → get_or groups k e ≡ opening_groups (get_or plans k d)

module _ (tables : Tables) (plans : List Plan) (from to table : ℕ) (scanned : List Bool) (groups after : List GroupList)
    (state : AreScanned tables plans from to scanned groups) (within : table < length scanned)
    (not_yet : get_or scanned table false ≡ false)
    (looks : (k : ℕ) (d : Plan) (e : GroupList) → k < length plans
    → LooksAt tables (get_or plans k d) table from to (get_or groups k e) (get_or after k e)) where
  true_false : {X : Type 0} → true ≡ false → X
  true_false e = absurd (let never = e in cc)

  -- whether a plan's table was looked at by then
  other-table : (n : ℕ) → (n ≡ table → ⊥) → get_or (set scanned table true) n false ≡ get_or scanned n false
  other-table n off = get_or-set_other scanned table n true false off

  this-table : (n : ℕ) → n ≡ table → get_or (set scanned table true) n false ≡ true
  this-table n is = ap (λ n. get_or (set scanned table true) n false) is ∙ get_or-set_same scanned table true false within

  pub scanned-next : AreScanned tables plans from to (set scanned table true) after
  scanned-next = record {
    kept = λ k d e lt told.
        ⊎_elim
        (λ on. (looks k d e lt).kept on (state.opening k d e lt (ap (λ n. get_or scanned n false) on ∙ not_yet)))
        (λ off.
        subst (GroupsAreKept (get_or plans k d) (rows_between tables from to (get_or plans k d)) (to - from))
        (sym ((looks k d e lt).other off))
        (state.kept k d e lt (sym (other-table (get_or plans k d).table off) ∙ told)))
        (cases_eq (get_or plans k d).table table);
    opening = λ k d e lt untold.
        ⊎_elim
        (λ on. true_false (sym (this-table (get_or plans k d).table on) ∙ untold))
        (λ off.
        (looks k d e lt).other off
        ∙ state.opening k d e lt (sym (other-table (get_or plans k d).table off) ∙ untold))
        (cases_eq (get_or plans k d).table table);
  }

  -- the tables of the plans before an index were looked at
  pub named-next : (i : ℕ) → ((k : ℕ) (d : Plan) → k < i → get_or scanned (get_or plans k d).table false ≡ true)
      → ((d : Plan) → (get_or plans i d).table ≡ table)
      → (k : ℕ) (d : Plan) → k < i + 1 → get_or (set scanned table true) (get_or plans k d).table false ≡ true
  named-next i named here k d lt =
      ⊎_elim
      (λ on. this-table (get_or plans k d).table on)
      (λ off.
      other-table (get_or plans k d).table off
      ∙ named k d (below off))
      (cases_eq (get_or plans k d).table table)
    where
      below : ((get_or plans k d).table ≡ table → ⊥) → k < i
      below off = ⊎_elim (λ e. absurd (off (ap (λ n. (get_or plans n d).table) e ∙ here d))) (λ e. omega (arith, e, lt)) (cases_eq k i)

pub none-marked : (size n : ℕ) → get_or (replicate size false) n false ≡ false
none-marked zero n = refl
none-marked (suc size) zero = refl
none-marked (suc size) (suc n) = none-marked size n

-- before the first
pub scanned-init : (tables : Tables) (plans : List Plan) (from to : ℕ) (scanned : List Bool) (groups : List GroupList)
    → ((n : ℕ) → get_or scanned n false ≡ false) → groups ≡ map opening_groups plans → AreScanned tables plans from to scanned groups
scanned-init tables plans from to scanned groups none is = record {
  kept = λ k d e lt told. absurd (let both = sym told ∙ none (get_or plans k d).table in cc);
  opening = λ k d e lt untold. ap (λ list. get_or list k e) is ∙ get_or-map opening_groups plans k d e lt;
}

-- ---- lists side by side

pub zip-from_index : {A B : Type 0} (R : A → B → Type 0) (xs : List A) (ys : List B) → length ys ≡ length xs
    → ((k : ℕ) (d : A) (e : B) → k < length xs → R (get_or xs k d) (get_or ys k e)) → AllZip R xs ys
zip-from_index R [] [] same each = tt
zip-from_index R [] (y ∷ ys) same each = absurd (omega (arith, same))
zip-from_index R (x ∷ xs) [] same each = absurd (omega (arith, same))
zip-from_index R (x ∷ xs) (y ∷ ys) same each =
    (each 0 x y (omega arith), zip-from_index R xs ys (omega (arith, same)) (λ k d e lt. each (suc k) d e (omega (arith, lt))))

pub index-from_zip : {A B : Type 0} (R : A → B → Type 0) (xs : List A) (ys : List B) → AllZip R xs ys
    → (k : ℕ) (d : A) (e : B) → k < length xs → R (get_or xs k d) (get_or ys k e)
index-from_zip R [] [] zip k d e lt = absurd (omega (arith, lt))
index-from_zip R [] (y ∷ ys) zip k d e lt = absurd zip
index-from_zip R (x ∷ xs) [] zip k d e lt = absurd zip
index-from_zip R (x ∷ xs) (y ∷ ys) zip zero d e lt = zip.0
index-from_zip R (x ∷ xs) (y ∷ ys) zip (suc k) d e lt = index-from_zip R xs ys zip.1 k d e (omega (arith, lt))

pub zip-length : {A B : Type 0} (R : A → B → Type 0) (xs : List A) (ys : List B) → AllZip R xs ys → length ys ≡ length xs
zip-length R [] [] zip = refl
zip-length R [] (y ∷ ys) zip = absurd zip
zip-length R (x ∷ xs) [] zip = absurd zip
zip-length R (x ∷ xs) (y ∷ ys) zip = let rest = zip-length R xs ys zip.1 in omega (arith, rest)

-- a list that is written over one of the same length
pub written_over : {X : Type 0} (n : ℕ) (items news : List X) → length items ≡ n → length news ≡ length items
    → take n (news ++ drop (length news) items) ≡ news
written_over n items news all same =
    let past : length items ≤ length news = omega (arith, same) in
    ap (λ rest. take n (news ++ rest)) (drop_all (length news) items past)
    ∙ take-append-le n news [] (omega (arith, all, same))
    ∙ take_all n news (omega (arith, all, same))

-- ---- what is computed of a range

abbrev pub AreSorted : GroupList → Type 0
AreSorted groups = IsStrictlySortedBy group_cmp (keys_of groups)

kept-between : (tables : Tables) (from to : ℕ) (plans : List Plan) (groups : List GroupList)
    → AllZip (λ plan groups. GroupsAreKept plan (rows_between tables from to plan) (to - from) groups) plans groups → All AreSorted groups
    → groups ≡ map (groups_between tables from to) plans
kept-between tables from to [] [] kept sorted = refl
kept-between tables from to [] (list ∷ groups) kept sorted = absurd kept
kept-between tables from to (plan ∷ plans) [] kept sorted = absurd kept
kept-between tables from to (plan ∷ plans) (list ∷ groups) kept sorted =
    let first = kept-with plan (rows_between tables from to plan) (to - from) list kept.0 (All-head AreSorted list groups sorted) in
    let rest = kept-between tables from to plans groups kept.1 (All-tail AreSorted list groups sorted) in
    λ i. first i ∷ rest i

-- the lines of the groups at these positions are the answers
pub lines-between : (tables : Tables) (from to : ℕ) (plans : List Plan)
    → map lines_of (map (groups_between tables from to) plans) ≡ map (answer_between tables from to) plans
lines-between tables from to [] = refl
lines-between tables from to (plan ∷ plans) =
    let first = lines-with plan (rows_between tables from to plan) in
    let rest = lines-between tables from to plans in
    λ i. first i ∷ rest i

-- the answers on all positions are the plain ones
pub answers-all : (tables : Tables) (end : ℕ) (plans : List Plan) → All (λ plan. length (rows_of tables plan.table) ≤ end) plans
    → map (answer_between tables 0 end) plans ≡ map (plain_answer tables) plans
answers-all tables end [] all = refl
answers-all tables end (plan ∷ plans) all =
    let P : Plan → Type 0 = λ plan. length (rows_of tables plan.table) ≤ end in
    let le = All-head P plan plans all in
    let whole : range (rows_of tables plan.table) 0 end ≡ rows_of tables plan.table =
    take_all (end - 0) (rows_of tables plan.table) (omega (arith, le)) in
    let first : answer_between tables 0 end plan ≡ plain_answer tables plan =
    ap (λ list. answer_lines plan (rows_among tables plan list)) whole in
    let rest = answers-all tables end plans (All-tail P plan plans all) in
    λ i. first i ∷ rest i

pub partial-made : (tables : Tables) (plans : List Plan) (from to : ℕ) (aggregates : List (List Aggregate)) (groups : List GroupList)
    (count : ℕ) (parts : Parts)
    → count ≡ to - from → aggregates ≡ map (λ plan. plan.aggregates) plans
    → AllZip (λ plan groups. GroupsAreKept plan (rows_between tables from to plan) (to - from) groups) plans groups → All AreSorted groups
    → parts ≡ record { positions = count; aggregates = aggregates; groups = groups }
    → IsPartial tables plans from to parts
partial-made tables plans from to aggregates groups count parts size lists kept sorted is = record {
  positions = ap (λ parts. parts.positions) is ∙ size;
  aggregates = ap (λ parts. parts.aggregates) is ∙ lists;
  groups = ap (λ parts. parts.groups) is ∙ kept-between tables from to plans groups kept sorted;
}

-- what is true of each second one
pub zip-second : {A B : Type 0} (R : A → B → Type 0) (Q : B → Type 0) → ((x : A) (y : B) → R x y → Q y) → (xs : List A) (ys : List B)
    → AllZip R xs ys → All Q ys
zip-second R Q each [] [] zip = All-nil Q
zip-second R Q each [] (y ∷ ys) zip = absurd zip
zip-second R Q each (x ∷ xs) [] zip = absurd zip
zip-second R Q each (x ∷ xs) (y ∷ ys) zip = All-cons Q y ys (each x y zip.0) (zip-second R Q each xs ys zip.1)

-- what follows of two clauses on a value
pub both-if-ok : {T E : Type 0} (P Q R : T → Type 0) (result : Result T E) → ((value : T) → P value → Q value → R value)
    → IfOk result P → IfOk result Q → IfOk result R
both-if-ok P Q R (Ok value) both p q = both value p q
both-if-ok P Q R (Err fault) both p q = tt

-- ---- two ranges

module _ (tables : Tables) (plans : List Plan) (a b c : ℕ) (le : a ≤ b) (more : b ≤ c) (first second : Parts)
    (front : IsPartial tables plans a b first) (behind : IsPartial tables plans b c second) (groups : List GroupList)
    (size : length groups ≡ length first.groups)
    (merged : (k : ℕ) (d : List Aggregate) (e : GroupList)
    → k < length first.groups → k < length first.aggregates → k < length second.groups
    → AreMerged (get_or first.aggregates k d) (get_or first.groups k e) (get_or second.groups k e) (get_or groups k e))
    (within : All (AreWithin (first.positions + second.positions)) groups) (front_within : All (AreWithin first.positions) first.groups)
    (behind_within : All (AreWithin second.positions) second.groups) where
  abbrev Kept : ℕ → ℕ → Plan → GroupList → Type 0
  Kept from to plan groups = GroupsAreKept plan (rows_between tables from to plan) (to - from) groups

  both-between : (plan : Plan) → rows_between tables a b plan ++ rows_between tables b c plan ≡ rows_between tables a c plan
  both-between plan =
      sym (rows_among-append tables plan (range (rows_of tables plan.table) a b) (range (rows_of tables plan.table) b c))
      ∙ ap (rows_among tables plan) (range-append (rows_of tables plan.table) a b c le more)

  count : first.positions + second.positions ≡ c - a
  count = let one = front.positions in let other = behind.positions in omega (arith, one, other)

  counts : (b - a) + (c - b) ≡ c - a
  counts = omega arith

  firsts : length first.groups ≡ length plans
  firsts = ap length front.groups ∙ length-map plans (groups_between tables a b)

  seconds : length second.groups ≡ length plans
  seconds = ap length behind.groups ∙ length-map plans (groups_between tables b c)

  lists : length first.aggregates ≡ length plans
  lists = ap length front.aggregates ∙ length-map plans (λ plan. plan.aggregates)

  kept-both : (k : ℕ) (d : Plan) (e : GroupList) → k < length plans → Kept a c (get_or plans k d) (get_or groups k e)
  kept-both k d e lt =
      let plan : Plan = get_or plans k d in
      let one : Kept a b plan (get_or first.groups k e) =
      with-kept plan (rows_between tables a b plan) (b - a) (get_or first.groups k e)
      (ap (λ list. get_or list k e) front.groups ∙ get_or-map (groups_between tables a b) plans k d e lt)
      (subst (λ n. AreWithin n (get_or first.groups k e)) front.positions (front_within k e (omega (arith, firsts, lt)))) in
      let other : Kept b c plan (get_or second.groups k e) =
      with-kept plan (rows_between tables b c plan) (c - b) (get_or second.groups k e)
      (ap (λ list. get_or list k e) behind.groups ∙ get_or-map (groups_between tables b c) plans k d e lt)
      (subst (λ n. AreWithin n (get_or second.groups k e)) behind.positions (behind_within k e (omega (arith, seconds, lt)))) in
      let of_plan : get_or first.aggregates k d.aggregates ≡ plan.aggregates =
      ap (λ list. get_or list k d.aggregates) front.aggregates ∙ get_or-map (λ plan. plan.aggregates) plans k d d.aggregates lt in
      let finds =
      subst (λ aggregates. AreMerged aggregates (get_or first.groups k e) (get_or second.groups k e) (get_or groups k e)) of_plan
      (merged k d.aggregates e (omega (arith, firsts, lt)) (omega (arith, lists, lt)) (omega (arith, seconds, lt))) in
      let fits : AreWithin ((b - a) + (c - b)) (get_or groups k e) =
      subst (λ n. AreWithin n (get_or groups k e)) (count ∙ sym counts) (within k e (omega (arith, size, firsts, lt))) in
      subst (λ n. GroupsAreKept plan (rows_between tables a c plan) n (get_or groups k e)) counts
      (subst (λ list. GroupsAreKept plan list ((b - a) + (c - b)) (get_or groups k e)) (both-between plan)
      (kept-merged plan (rows_between tables a b plan) (rows_between tables b c plan) (b - a) (c - b) (get_or first.groups k e)
      (get_or second.groups k e) (get_or groups k e) one other finds fits))

  pub partial-merged : (parts : Parts) → All AreSorted groups
      → parts ≡ record { positions = first.positions + second.positions; aggregates = first.aggregates; groups = groups }
      → IsPartial tables plans a c parts
  partial-merged parts sorted is =
      partial-made tables plans a c first.aggregates groups (first.positions + second.positions) parts count front.aggregates
      (zip-from_index (Kept a c) plans groups (size ∙ firsts) kept-both) sorted is

pub get_or-last : {X : Type 0} (xs : List X) (x d : X) → get_or (xs ++ x ∷ []) (length xs) d ≡ x
get_or-last [] x d = refl
get_or-last (first ∷ xs) x d = get_or-last xs x d

-- what is said of lists is said of those that they are
pub through-merged : (aggregates given : List (List Aggregate)) (front olds behind news : List GroupList)
    → given ≡ aggregates → olds ≡ front
    → ((k : ℕ) (d : List Aggregate) (e : GroupList) → k < length olds → k < length given → k < length behind
    → AreMerged (get_or given k d) (get_or olds k e) (get_or behind k e) (get_or news k e))
    → (k : ℕ) (d : List Aggregate) (e : GroupList) → k < length front → k < length aggregates → k < length behind
    → AreMerged (get_or aggregates k d) (get_or front k e) (get_or behind k e) (get_or news k e)
through-merged aggregates given front olds behind news same is merged =
    subst
    (λ (list : List GroupList).
    (k : ℕ) (d : List Aggregate) (e : GroupList) → k < length list → k < length aggregates → k < length behind
    → AreMerged (get_or aggregates k d) (get_or list k e) (get_or behind k e) (get_or news k e)) is
    (subst
    (λ (list : List (List Aggregate)).
    (k : ℕ) (d : List Aggregate) (e : GroupList) → k < length olds → k < length list → k < length behind
    → AreMerged (get_or list k d) (get_or olds k e) (get_or behind k e) (get_or news k e)) same merged)

-- ---- the groups of each plan, merged one after the other

-- those from an index on are merged
pub record EachMerges (aggregates : List (List Aggregate)) (first second groups left : List GroupList) (rows more : ℕ) : Type 0 where
  pub sizes : length groups ≡ length first
  pub fewer : length left ≤ length second
  pub left_is : left ≡ take (length left) second
  pub before : (k : ℕ) (e : GroupList) → k < length left → get_or groups k e ≡ get_or first k e
  pub merged : (k : ℕ) (d : List Aggregate) (e : GroupList) → length left ≤ k → k < length first → k < length aggregates → k < length second
      → AreMerged (get_or aggregates k d) (get_or first k e) (get_or second k e) (get_or groups k e)
  pub within : All (AreWithin (rows + more)) groups

pub each-init : (aggregates : List (List Aggregate)) (first second : List GroupList) (rows more : ℕ) → All (AreWithin rows) first
    → EachMerges aggregates first second first second rows more
each-init aggregates first second rows more within = record {
  sizes = refl;
  fewer = omega arith;
  left_is = sym (take_all (length second) second (omega arith));
  before = λ k e lt. refl;
  merged = λ k d e le in_first in_lists in_second. absurd (omega (arith, le, in_second));
  within = All-weaker (AreWithin rows) (AreWithin (rows + more)) (AreWithin-add rows more) first within;
}

module _ (aggregates : List (List Aggregate)) (first second groups left rest : List GroupList) (rows more : ℕ) (other : GroupList)
    (state : EachMerges aggregates first second groups left rows more) (popped : left ≡ rest ++ other ∷ []) where
  size : length left ≡ length rest + 1
  size = ap length popped ∙ length_push rest other

  -- the last of those that are left
  pub popped-is : (e : GroupList) → get_or second (length rest) e ≡ other
  popped-is e =
      let lt : length rest < length left = omega (arith, size) in
      sym (get_or-take (length left) second (length rest) e lt) ∙ ap (λ list. get_or list (length rest) e) (sym state.left_is)
      ∙ ap (λ list. get_or list (length rest) e) popped ∙ get_or-last rest other e

  pub popped-within : All (AreWithin more) second → AreWithin more other
  popped-within within =
      subst (AreWithin more) (popped-is other) (within (length rest) other (let le = state.fewer in omega (arith, size, le)))

  rest-is : rest ≡ take (length rest) second
  rest-is =
      let whole : take (length rest) left ≡ rest = ap (take (length rest)) popped ∙ take_at rest (other ∷ []) (length rest) refl in
      let le : length rest ≤ length left = omega (arith, size) in
      sym whole ∙ ap (take (length rest)) state.left_is ∙ take-take (length rest) (length left) second le

  -- a plan's groups are merged with it
  pub each-next : (after : List GroupList) (list : List Aggregate) (new : GroupList) → length rest < length groups
      → ((d : List Aggregate) → get_or aggregates (length rest) d ≡ list) → after ≡ set groups (length rest) new
      → ((e : GroupList) → AreMerged list (get_or groups (length rest) e) other new) → AreWithin (rows + more) new
      → EachMerges aggregates first second after rest rows more
  each-next after list new lt lists puts finds fits = record {
    sizes = ap length puts ∙ length-set groups (length rest) new ∙ state.sizes;
    fewer = let le = state.fewer in omega (arith, size, le);
    left_is = rest-is;
    before = λ k e less.
        ap (λ list. get_or list k e) puts ∙ get_or-set_other groups (length rest) k new e (λ same. absurd (omega (arith, less, same)))
        ∙ state.before k e (omega (arith, size, less));
    merged = λ k d e le in_first in_lists in_second.
        ⊎_elim
        (λ same.
        subst (λ n. AreMerged (get_or aggregates n d) (get_or first n e) (get_or second n e) (get_or after n e)) (sym same)
        (merged-here d e))
        (λ off.
        subst (AreMerged (get_or aggregates k d) (get_or first k e) (get_or second k e))
        (sym (ap (λ list. get_or list k e) puts ∙ get_or-set_other groups (length rest) k new e off))
        (state.merged k d e (omega (arith, size, le, off)) in_first in_lists in_second))
        (cases_eq k (length rest));
    within = All-same (AreWithin (rows + more)) after (set groups (length rest) new) puts
        (All-set (AreWithin (rows + more)) groups (length rest) new fits state.within);
  }
    where
      merged-here : (d : List Aggregate) (e : GroupList)
          → AreMerged (get_or aggregates (length rest) d) (get_or first (length rest) e) (get_or second (length rest) e)
          (get_or after (length rest) e)
      merged-here d e group =
          ap (λ list. lookup (is_at (group_cmp group)) list)
          (ap (λ list. get_or list (length rest) e) puts ∙ get_or-set_same groups (length rest) new e lt)
          ∙ finds e group
          ∙ (λ i. merged_at (sym (lists d) i) (lookup (is_at (group_cmp group)) (state.before (length rest) e (omega (arith, size)) i))
          (lookup (is_at (group_cmp group)) (sym (popped-is e) i)))
