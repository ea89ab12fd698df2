-- Values and groups that are in the same place of the order are the same; entries in order with the same look-ups are the same.
use Rattle.std.proofs.Common.{◌≡◌, true, List, [], ◌∷◌, Option, None, Some, Less, Equal, Greater, refl, sym, ap, ◌∙◌}
use Rattle.std.proofs.Common.{⊎_elim}
use Rattle.std.specs.BTreeMap.{is_at}
use Rattle.std.specs.Cmp.{IsTotalOrder, eq_by_cmp_equiv, tied_itself}
use Rattle.std.specs.List.Sorted.{IsStrictlySortedBy}
use Rattle.std.specs.Map.{keys_of, lookup}
use Rattle.std.specs.Option.{unwrap_or}
use Rattle.std.specs.Ordering.{ordering_reverse, ordering_then, is_eq, eq_by_cmp}
use Rattle.std.specs.declared.cmp.Ordering.{Ordering}
use Rattle.std.proofs.lemmas.Bool.{cases_Bool}
use Rattle.std.proofs.lemmas.Map.{lookup-none}
use Rattle.std.proofs.lemmas.Map.Entries.{lookup_head, lookup_tail, none_past_head, none_below_head}
use Rattle.std.proofs.lemmas.Map.Keys.{sorted_tail, IsDistinct-from_sorted}
use Rattle.std.proofs.lemmas.Map.Lookups.{CmpEqualImpliesEq, exact_signed, exact_bytes}
use Rattle.rows.specs.declared.value.Value.{Value}
use Rattle.rows.specs.declared.value.Value.TheVariants.{Int, Octets}
use Rattle.queries.specs.Order.{value_cmp, group_cmp}
use Rattle.plans.specs.Inner.TotalOrder.{group_cmp_total}

pub value_cmp-exact : (x y : Value) → value_cmp x y ≡ Equal → x ≡ y
value_cmp-exact (Int a) (Int b) e = ap Int (exact_signed a b e)
value_cmp-exact (Int a) (Octets b) e = cc
value_cmp-exact (Octets a) (Int b) e = cc
value_cmp-exact (Octets a) (Octets b) e = ap Octets (exact_bytes a b e)

pub group_cmp-exact : CmpEqualImpliesEq group_cmp
group_cmp-exact [] [] e = refl
group_cmp-exact [] (y ∷ ys) e = cc
group_cmp-exact (x ∷ xs) [] e = cc
group_cmp-exact (x ∷ xs) (y ∷ ys) e = by (value_cmp x y) refl (group_cmp-exact xs ys) e
  where
    by : (o : Ordering) → value_cmp x y ≡ o → (group_cmp xs ys ≡ Equal → xs ≡ ys) → ordering_then o (group_cmp xs ys) ≡ Equal
        → x ∷ xs ≡ y ∷ ys
    by Less h rest e = cc
    by Equal h rest e = λ i. value_cmp-exact x y h i ∷ rest e i
    by Greater h rest e = cc

pub is_Equal : (o : Ordering) → is_eq o ≡ true → o ≡ Equal
is_Equal Less e = cc
is_Equal Equal e = refl
is_Equal Greater e = cc

-- groups that a test takes for the same
pub same_group : (x y : List Value) → is_eq (group_cmp x y) ≡ true → x ≡ y
same_group x y e = group_cmp-exact x y (is_Equal (group_cmp x y) e)

pub is_itself : (x : List Value) → is_eq (group_cmp x x) ≡ true
is_itself x = ap is_eq (tied_itself group_cmp_total x)

pub flips : (x y : List Value) → is_eq (group_cmp x y) ≡ is_eq (group_cmp y x)
flips x y = (eq_by_cmp_equiv group_cmp_total).symm x y

-- ---- entries in order

some_not_none : {X : Type 0} (x : X) → Some x ≡ None → ⊥
some_not_none x e = cc

module _ {K X : Type 0} {R : K → K → Ordering} (o : IsTotalOrder R) (exact : CmpEqualImpliesEq R) where
  abbrev found : List (K × X) → K → Option X
  found es q = lookup (is_at (R q)) es

  at_head : (x : K × X) (xs : List (K × X)) → found (x ∷ xs) x.0 ≡ Some x.1
  at_head x xs = lookup_head (is_at (R x.0)) x xs (ap is_eq (tied_itself o x.0))

  past_head : (q : K) (x : K × X) (xs : List (K × X)) → IsStrictlySortedBy R (keys_of (x ∷ xs)) → eq_by_cmp R q x.0 ≡ true
      → found xs q ≡ None
  past_head q x xs s t =
      lookup-none (is_at (R q)) xs (none_past_head (eq_by_cmp_equiv o) q x xs (IsDistinct-from_sorted R (keys_of (x ∷ xs)) s) t)

  module _ (x y : K × X) (xs ys : List (K × X)) (s : IsStrictlySortedBy R (keys_of (x ∷ xs))) (t : IsStrictlySortedBy R (keys_of (y ∷ ys)))
      (h : (q : K) → found (x ∷ xs) q ≡ found (y ∷ ys) q) where
    by_heads : (r : Ordering) → R x.0 y.0 ≡ r → R x.0 y.0 ≡ Equal
    by_heads Less p =
        absurd (some_not_none x.1 (sym (at_head x xs) ∙ h x.0 ∙ lookup-none (is_at (R x.0)) (y ∷ ys) (none_below_head o x.0 y ys t p)))
    by_heads Equal p = p
    by_heads Greater p =
        absurd (some_not_none y.1 (sym (at_head y ys) ∙ sym (h y.0)
        ∙ lookup-none (is_at (R y.0)) (x ∷ xs) (none_below_head o y.0 x xs s (o.antisymm y.0 x.0 ∙ ap ordering_reverse p))))

    heads : R x.0 y.0 ≡ Equal
    heads = by_heads (R x.0 y.0) refl

    values : x.1 ≡ y.1
    values = ap (λ u. unwrap_or u x.1) (sym (at_head x xs) ∙ h x.0 ∙ lookup_head (is_at (R x.0)) y ys (ap is_eq heads))

    tails : (q : K) → found xs q ≡ found ys q
    tails q =
        let alike = eq_by_cmp_equiv o in
        let e : eq_by_cmp R q y.0 ≡ eq_by_cmp R q x.0 =
        alike.symm q y.0 ∙ sym (alike.congr x.0 y.0 q (ap is_eq heads)) ∙ alike.symm x.0 q in
        ⊎_elim
        (λ b. past_head q x xs s b ∙ sym (past_head q y ys t (e ∙ b)))
        (λ b. sym (lookup_tail (is_at (R q)) x xs b) ∙ h q ∙ lookup_tail (is_at (R q)) y ys (e ∙ b))
        (cases_Bool (eq_by_cmp R q x.0))

  -- entries whose keys rise are the same where each key finds the same
  pub same_entries : (es fs : List (K × X)) → IsStrictlySortedBy R (keys_of es) → IsStrictlySortedBy R (keys_of fs)
      → ((q : K) → lookup (is_at (R q)) es ≡ lookup (is_at (R q)) fs) → es ≡ fs
  same_entries [] [] s t h = refl
  same_entries [] (y ∷ ys) s t h = absurd (some_not_none y.1 (sym (h y.0 ∙ at_head y ys)))
  same_entries (x ∷ xs) [] s t h = absurd (some_not_none x.1 (sym (at_head x xs) ∙ h x.0))
  same_entries (x ∷ xs) (y ∷ ys) s t h =
      let rest = same_entries xs ys (sorted_tail R x.0 (keys_of xs) s) (sorted_tail R y.0 (keys_of ys) t) (tails x y xs ys s t h) in
      λ i. (exact x.0 y.0 (heads x y xs ys s t h) i, values x y xs ys s t h i) ∷ rest i
