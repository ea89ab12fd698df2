-- Groups in rising order: each is there once, and none other.
use Rattle.std.proofs.Common.{◌≡◌, Bool, true, false, ◌||◌, cond, List, [], ◌∷◌, map, Some, None, Less, Equal, Greater, refl, sym, ap, ◌∙◌}
use Rattle.std.proofs.lemmas.Map.Keys.{sorted_head, sorted_tail}
use Rattle.std.proofs.lemmas.Map.Made.{is_member-Decides}
use Rattle.std.specs.Bool.{Decides}
use Rattle.std.specs.BTreeMap.{is_at}
use Rattle.std.specs.BTreeSet.{insert_key}
use Rattle.std.specs.List.{AllByRecursion, list_any}
use Rattle.std.specs.List.Sorted.{IsStrictlySortedBy}
use Rattle.std.specs.Map.{keys_of, lookup}
use Rattle.std.specs.Ordering.{is_eq, match_ordering, ordering_reverse}
use Rattle.std.specs.declared.cmp.Ordering.{Ordering}
use Rattle.rows.specs.declared.value.Value.{Value}
use Rattle.queries.specs.Order.{group_cmp, rising}
use Rattle.plans.specs.Inner.TotalOrder.{group_cmp_total}
use Rattle.plans.specs.Laws.{GroupsRise, GroupsStay}
use Rattle.plans.proofs.Orders.{group_cmp-exact, same_group, is_itself}

abbrev Group : Type 0
Group = List Value

sorted-nil : IsStrictlySortedBy group_cmp []
unfolding IsStrictlySortedBy
sorted-nil = tt

sorted-cons : (group : Group) (groups : List Group) → AllByRecursion (λ other. group_cmp group other ≡ Less) groups
    → IsStrictlySortedBy group_cmp groups → IsStrictlySortedBy group_cmp (group ∷ groups)
unfolding IsStrictlySortedBy
sorted-cons group groups above sorted = (above, sorted)

all-insert : (P : Group → Type 0) (group : Group) (groups : List Group) → P group → AllByRecursion P groups
    → AllByRecursion P (insert_key group_cmp groups group)
all-insert P group [] p all = (p, tt)
all-insert P group (first ∷ groups) p all = by (group_cmp group first) (all-insert P group groups p all.1)
  where
    by : (o : Ordering) → AllByRecursion P (insert_key group_cmp groups group)
        → AllByRecursion P (match_ordering o (group ∷ first ∷ groups) (first ∷ groups) (first ∷ insert_key group_cmp groups group))
    by Less rest = (p, all)
    by Equal rest = all
    by Greater rest = (all.0, rest)

above-all : (group first : Group) (groups : List Group) → group_cmp group first ≡ Less
    → AllByRecursion (λ other. group_cmp first other ≡ Less) groups → AllByRecursion (λ other. group_cmp group other ≡ Less) groups
above-all group first [] h all = tt
above-all group first (next ∷ groups) h all = (group_cmp_total.trans group first next h all.0, above-all group first groups h all.1)

sorted-insert : (group : Group) (groups : List Group) → IsStrictlySortedBy group_cmp groups
    → IsStrictlySortedBy group_cmp (insert_key group_cmp groups group)
sorted-insert group [] sorted = sorted-cons group [] tt sorted-nil
sorted-insert group (first ∷ groups) sorted =
    by (group_cmp group first) refl (sorted-insert group groups (sorted_tail group_cmp first groups sorted))
  where
    above : AllByRecursion (λ other. group_cmp first other ≡ Less) groups
    above = sorted_head group_cmp first groups sorted

    by : (o : Ordering) → group_cmp group first ≡ o → IsStrictlySortedBy group_cmp (insert_key group_cmp groups group)
        → IsStrictlySortedBy group_cmp
        (match_ordering o (group ∷ first ∷ groups) (first ∷ groups) (first ∷ insert_key group_cmp groups group))
    by Less h rest = sorted-cons group (first ∷ groups) (h, above-all group first groups h above) sorted
    by Equal h rest = sorted
    by Greater h rest =
        sorted-cons first (insert_key group_cmp groups group)
        (all-insert (λ other. group_cmp first other ≡ Less) group groups
        (group_cmp_total.antisymm first group ∙ ap ordering_reverse h) above)
        rest

pub rising-sorted : GroupsRise
rising-sorted [] = sorted-nil
rising-sorted (group ∷ groups) = sorted-insert group (rising groups) (rising-sorted groups)

-- ---- which groups there are

or_again : (a b : Bool) → (a || b) ≡ (a || (a || b))
or_again true b = refl
or_again false b = refl

or_swap : (a b c : Bool) → (a || (b || c)) ≡ (b || (a || c))
or_swap true true c = refl
or_swap true false c = refl
or_swap false true c = refl
or_swap false false c = refl

any-insert : (test : Group → Bool) (group : Group) (groups : List Group)
    → list_any test (insert_key group_cmp groups group) ≡ (test group || list_any test groups)
any-insert test group [] = refl
any-insert test group (first ∷ groups) = by (group_cmp group first) refl (any-insert test group groups)
  where
    by : (o : Ordering) → group_cmp group first ≡ o
        → list_any test (insert_key group_cmp groups group) ≡ (test group || list_any test groups)
        → list_any test (match_ordering o (group ∷ first ∷ groups) (first ∷ groups) (first ∷ insert_key group_cmp groups group))
        ≡ (test group || (test first || list_any test groups))
    by Less h rest = refl
    by Equal h rest =
        or_again (test first) (list_any test groups)
        ∙ ap (λ b. b || (test first || list_any test groups)) (ap test (sym (group_cmp-exact group first h)))
    by Greater h rest = ap (λ b. test first || b) rest ∙ or_swap (test first) (test group) (list_any test groups)

-- a test passes among them where it does among all
pub rising-any : (test : Group → Bool) (groups : List Group) → list_any test (rising groups) ≡ list_any test groups
rising-any test [] = refl
rising-any test (group ∷ groups) = any-insert test group (rising groups) ∙ ap (λ b. test group || b) (rising-any test groups)

same_decides : (a b : Group) → Decides (is_eq (group_cmp a b)) (a ≡ b)
same_decides a b = (same_group a b, λ e. sym (ap (λ x. is_eq (group_cmp a x)) e) ∙ is_itself a)

pub rising-stay : GroupsStay
rising-stay groups group =
    let before = is_member-Decides same_decides groups group in
    let after = is_member-Decides same_decides (rising groups) group in
    let same = rising-any (λ other. is_eq (group_cmp group other)) groups in
    (λ there. before.0 (sym same ∙ after.1 there), λ there. after.0 (same ∙ before.1 there))

-- ---- each group with something of it

abbrev pub paired : {X : Type 0} → (Group → X) → List Group → List (Group × X)
paired {X} f groups = map {B = Group × X} (λ (group : Group). (group, f group)) groups

pub keys_of-paired : {X : Type 0} (f : Group → X) (groups : List Group) → keys_of (paired f groups) ≡ groups
keys_of-paired f [] = refl
keys_of-paired f (group ∷ groups) = ap (λ rest. group ∷ rest) (keys_of-paired f groups)

pub lookup-paired : {X : Type 0} (f : Group → X) (group : Group) (groups : List Group)
    → lookup (is_at (group_cmp group)) (paired f groups)
    ≡ cond (list_any (λ other. is_eq (group_cmp group other)) groups) (Some (f group)) None
lookup-paired f group [] = refl
lookup-paired {X} f group (first ∷ groups) = by (is_eq (group_cmp group first)) refl (lookup-paired f group groups)
  where
    by : (here : Bool) → is_eq (group_cmp group first) ≡ here
        → lookup (is_at (group_cmp group)) (paired f groups)
        ≡ cond (list_any (λ other. is_eq (group_cmp group other)) groups) (Some (f group)) None
        → cond here (Some (f first)) (lookup (is_at (group_cmp group)) (paired f groups))
        ≡ cond (here || list_any (λ other. is_eq (group_cmp group other)) groups) (Some (f group)) None
    by true h rest = ap (λ other. Some (f other)) (sym (same_group group first h))
    by false h rest = rest
