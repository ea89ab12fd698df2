-- The groups of rows, merged with those of others behind them.
use Rattle.std.proofs.Common.{◌≡◌, ℕ, ◌+◌, Bool, true, false, cond, List, [], ◌∷◌, ◌++◌, Option, None, Some, IsSome, IfSome, is_some}
use Rattle.std.proofs.Common.{◌<◌, ◌≤◌, length, take, drop, set, get_or, slice_get, refl, sym, ap, ◌∙◌, subst, arith, append_assoc}
use Rattle.std.specs.BTreeMap.{is_at}
use Rattle.std.specs.Cmp.{eq_by_cmp_equiv}
use Rattle.std.specs.List.{All}
use Rattle.std.specs.List.Sorted.{IsStrictlySortedBy}
use Rattle.std.specs.Map.{keys_of, lookup}
use Rattle.std.specs.Ordering.{is_eq}
use Rattle.std.proofs.lemmas.Int.{ints}
use Rattle.std.proofs.lemmas.List.{take_more_set, drop-set-lt, drop_more, drop_all, take-append-drop}
use Rattle.std.proofs.lemmas.List.Elements.{All-weaker}
use Rattle.std.proofs.lemmas.Map.{lookup-none}
use Rattle.std.proofs.lemmas.Map.Entries.{none_past_head}
use Rattle.std.proofs.lemmas.Map.Keys.{sorted_tail, IsDistinct-from_sorted}
use Rattle.std.proofs.lemmas.Option.{IfSome_then, slice_get_within, get_or_from_slice_get}
use Rattle.rows.specs.declared.value.Value.{Value}
use Rattle.queries.specs.declared.aggregate.Aggregate.{Aggregate}
use Rattle.queries.specs.declared.field.Field.{Field}
use Rattle.queries.specs.declared.field.Field.TheVariants.{Stored, Number, Absent}
use Rattle.queries.specs.declared.plan.Plan.{Plan}
use Rattle.queries.specs.Order.{group_cmp}
use Rattle.queries.specs.Answers.{JoinedRow}
use Rattle.plans.specs.Inner.Merged.{merged, merged_all, merged_at}
use Rattle.plans.specs.Inner.Kept.{GroupList, IsWithin, AreWithin, GroupsAreKept}
use Rattle.plans.specs.Inner.TotalOrder.{group_cmp_total}
use Rattle.plans.proofs.Orders.{same_group, is_itself, flips}
use Rattle.plans.proofs.Merging.{kept_at-append}

-- ---- numbers that fit

-- of more rows
pub IsWithin-add : (rows more : ℕ) (field : Field) → IsWithin rows field → IsWithin (rows + more) field
IsWithin-add rows more (Stored value) within = tt
IsWithin-add rows more (Number number) within = let low = within.0 in let high = within.1 in (omega (arith, ints), omega (arith, ints))
IsWithin-add rows more Absent within = tt

-- of rows before them
pub IsWithin-behind : (rows more : ℕ) (field : Field) → IsWithin more field → IsWithin (rows + more) field
IsWithin-behind rows more (Stored value) within = tt
IsWithin-behind rows more (Number number) within = let low = within.0 in let high = within.1 in (omega (arith, ints), omega (arith, ints))
IsWithin-behind rows more Absent within = tt

pub AreWithin-add : (rows more : ℕ) (groups : GroupList) → AreWithin rows groups → AreWithin (rows + more) groups
AreWithin-add rows more groups within group =
    IfSome_then (lookup (is_at (group_cmp group)) groups) (within group)
    (λ fields all. All-weaker (IsWithin rows) (IsWithin (rows + more)) (IsWithin-add rows more) fields all)

-- ---- the fields of a group, merged one after the other

-- one more is merged
pub merge-more : (aggregates : List Aggregate) (fields others after : List Field) (i : ℕ) (a : Aggregate) (d other result : Field)
    → i < length aggregates → i < length fields → slice_get others i ≡ Some other
    → result ≡ merged (get_or aggregates i a) (get_or fields i d) other → after ≡ set others i result
    → take (i + 1) after ++ merged_all (drop (i + 1) aggregates) (drop (i + 1) fields) (drop (i + 1) after)
    ≡ take i others ++ merged_all (drop i aggregates) (drop i fields) (drop i others)
merge-more aggregates fields others after i a d other result lt in_fields there merges puts =
    let within : i < length others = slice_get_within others i other there in
    let front : take (i + 1) after ≡ take i others ++ result ∷ [] = ap (take (i + 1)) puts ∙ take_more_set others i result within in
    let behind : drop (i + 1) after ≡ drop (i + 1) others =
    ap (drop (i + 1)) puts ∙ drop-set-lt (i + 1) others i result (omega arith) in
    let here : drop i others ≡ other ∷ drop (i + 1) others =
    drop_more others i other within ∙ ap (λ f. f ∷ drop (i + 1) others) (get_or_from_slice_get others i other other there) in
    let rest = merged_all (drop (i + 1) aggregates) (drop (i + 1) fields) (drop (i + 1) others) in
    (λ j. front j ++ merged_all (drop (i + 1) aggregates) (drop (i + 1) fields) (behind j))
    ∙ append_assoc (take i others) (result ∷ []) rest
    ∙ ap (λ f. take i others ++ f ∷ rest) merges
    ∙ (λ j. take i others ++ merged_all (sym (drop_more aggregates i a lt) j) (sym (drop_more fields i d in_fields) j) (sym here j))

merged-nothing : (aggregates : List Aggregate) (others : List Field) → merged_all aggregates [] others ≡ others
merged-nothing [] others = refl
merged-nothing (aggregate ∷ aggregates) others = refl

merged-to_nothing : (aggregates : List Aggregate) (fields : List Field) → merged_all aggregates fields [] ≡ []
merged-to_nothing [] fields = refl
merged-to_nothing (aggregate ∷ aggregates) [] = refl
merged-to_nothing (aggregate ∷ aggregates) (field ∷ fields) = refl

pub merge-past : (aggregates : List Aggregate) (fields others : List Field) (i : ℕ) → length fields ≤ i
    → others ≡ take i others ++ merged_all (drop i aggregates) (drop i fields) (drop i others)
merge-past aggregates fields others i past =
    sym (ap (λ list. take i others ++ merged_all (drop i aggregates) list (drop i others)) (drop_all i fields past)
    ∙ ap (λ list. take i others ++ list) (merged-nothing (drop i aggregates) (drop i others))
    ∙ take-append-drop i others)

-- there are no others any more
pub merge-none : (aggregates : List Aggregate) (fields others : List Field) (i : ℕ) → length others ≤ i
    → others ≡ take i others ++ merged_all (drop i aggregates) (drop i fields) (drop i others)
merge-none aggregates fields others i past =
    sym (ap (λ list. take i others ++ merged_all (drop i aggregates) (drop i fields) list) (drop_all i others past)
    ∙ ap (λ list. take i others ++ list)
    (merged-to_nothing (drop i aggregates) (drop i fields) ∙ sym (drop_all i others past))
    ∙ take-append-drop i others)

-- ---- a group more is merged

-- what is found of a group
abbrev pub at : GroupList → List Value → Option (List Field)
at groups group = lookup (is_at (group_cmp group)) groups

-- the groups so far, and those of the others that are left
pub record IsMerging (aggregates : List Aggregate) (first second held rest : GroupList) (rows more : ℕ) : Type 0 where
  pub sorted : IsStrictlySortedBy group_cmp (keys_of rest)
  pub whole : (group : List Value)
      → merged_at aggregates (at held group) (at rest group) ≡ merged_at aggregates (at first group) (at second group)
  pub left : (group : List Value) → IsSome (at rest group) → IfSome (at held group) (All (IsWithin rows))
  pub all : AreWithin (rows + more) held
  pub others : AreWithin more rest

merged-none : (aggregates : List Aggregate) (found : Option (List Field)) → merged_at aggregates found None ≡ found
merged-none aggregates None = refl
merged-none aggregates (Some fields) = refl

module _ (aggregates : List Aggregate) (first second held rest : GroupList) (rows more : ℕ) (key : List Value) (fields : List Field)
    (state : IsMerging aggregates first second held ((key, fields) ∷ rest) rows more) where
  abbrev all_left : GroupList
  all_left = (key, fields) ∷ rest

  fresh : at rest key ≡ None
  fresh =
      lookup-none (is_at (group_cmp key)) rest
      (none_past_head (eq_by_cmp_equiv group_cmp_total) key (key, fields) rest
      (IsDistinct-from_sorted group_cmp (keys_of all_left) state.sorted) (is_itself key))

  here : at all_left key ≡ Some fields
  here = ap (λ b. cond b (Some fields) (at rest key)) (is_itself key)

  elsewhere : (group : List Value) → is_eq (group_cmp key group) ≡ false → at all_left group ≡ at rest group
  elsewhere group e = ap (λ b. cond b (Some fields) (at rest group)) (flips group key ∙ e)

  -- the numbers of what is held of the group are those of the first rows
  pub held-within : IfSome (at held key) (All (IsWithin rows))
  held-within = state.left key (subst IsSome (sym here) refl)

  pub fields-within : All (IsWithin more) fields
  fields-within = subst (λ found. IfSome found (λ fields. All (IsWithin more) fields)) here (state.others key)

  module _ (merged : List Field) (after : GroupList) (is : Some merged ≡ merged_at aggregates (at held key) (Some fields))
      (within : All (IsWithin (rows + more)) merged)
      (finds : (group : List Value) → at after group ≡ cond (is_eq (group_cmp key group)) (Some merged) (at held group)) where
    whole-next : (group : List Value) (same : Bool) → is_eq (group_cmp key group) ≡ same
        → merged_at aggregates (cond same (Some merged) (at held group)) (at rest group)
        ≡ merged_at aggregates (at held group) (at all_left group)
    whole-next group true e =
        subst (λ group. merged_at aggregates (Some merged) (at rest group) ≡ merged_at aggregates (at held group) (at all_left group))
        (same_group key group e)
        (ap (merged_at aggregates (Some merged)) fresh ∙ is ∙ ap (merged_at aggregates (at held key)) (sym here))
    whole-next group false e = ap (merged_at aggregates (at held group)) (sym (elsewhere group e))

    left-next : (group : List Value) (same : Bool) → is_eq (group_cmp key group) ≡ same → IsSome (at rest group)
        → IfSome (cond same (Some merged) (at held group)) (All (IsWithin rows))
    left-next group true e there =
        let none : at rest group ≡ None = ap (at rest) (sym (same_group key group e)) ∙ fresh in
        absurd (let some = ap is_some none in cc)
    left-next group false e there = state.left group (subst IsSome (sym (elsewhere group e)) there)

    all-next : (group : List Value) (same : Bool)
        → IfSome (cond same (Some merged) (at held group)) (λ fields. All (IsWithin (rows + more)) fields)
    all-next group true = within
    all-next group false = state.all group

    others-next : (group : List Value) (same : Bool) → is_eq (group_cmp key group) ≡ same
        → IfSome (at rest group) (λ fields. All (IsWithin more) fields)
    others-next group true e =
        subst (λ found. IfSome found (λ fields. All (IsWithin more) fields))
        (sym (ap (at rest) (sym (same_group key group e)) ∙ fresh)) tt
    others-next group false e =
        subst (λ found. IfSome found (λ fields. All (IsWithin more) fields)) (elsewhere group e) (state.others group)

    pub merging-next : IsMerging aggregates first second after rest rows more
    merging-next = record {
      sorted = sorted_tail group_cmp key (keys_of rest) state.sorted;
      whole = λ group.
          ap (λ found. merged_at aggregates found (at rest group)) (finds group)
          ∙ whole-next group (is_eq (group_cmp key group)) refl
          ∙ state.whole group;
      left = λ group there.
          subst (λ found. IfSome found (All (IsWithin rows))) (sym (finds group))
          (left-next group (is_eq (group_cmp key group)) refl there);
      all = λ group.
          subst (λ found. IfSome found (λ fields. All (IsWithin (rows + more)) fields)) (sym (finds group))
          (all-next group (is_eq (group_cmp key group)));
      others = λ group. others-next group (is_eq (group_cmp key group)) refl;
    }

-- the groups of rows and of others behind them
pub kept-merged : (plan : Plan) (rows others : List JoinedRow) (count more : ℕ) (first second after : GroupList)
    → GroupsAreKept plan rows count first → GroupsAreKept plan others more second
    → ((group : List Value) → at after group ≡ merged_at plan.aggregates (at first group) (at second group))
    → AreWithin (count + more) after
    → GroupsAreKept plan (rows ++ others) (count + more) after
kept-merged plan rows others count more first second after kept behind finds within = record {
  found = λ group.
      finds group
      ∙ (λ i. merged_at plan.aggregates (kept.found group i) (behind.found group i))
      ∙ sym (kept_at-append plan rows others group);
  within = within;
}
