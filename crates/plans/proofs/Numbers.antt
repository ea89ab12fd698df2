-- A key behind the others has its place as its number, and the others keep theirs.
use Rattle.std.proofs.Common.{◌≡◌, ℕ, zero, suc, ℤ, Bool, true, false, cond, List, [], ◌∷◌, ◌++◌, length, Option, None, Some, slice_get}
use Rattle.std.proofs.Common.{refl, sym, ap, ◌∙◌, subst, arith, FitsSigned, w64, to_z, of_z}
use Rattle.std.specs.BTreeMap.{is_at}
use Rattle.std.specs.Map.{lookup}
use Rattle.std.specs.Ordering.{int_cmp, is_eq}
use Rattle.std.specs.declared.cmp.Ordering.{Ordering}
use Rattle.std.specs.declared.cmp.Ordering.TheVariants.{Less, Equal, Greater}
use Rattle.std.proofs.lemmas.Bool.{false≢true}
use Rattle.std.proofs.lemmas.Int.{ints}
use Rattle.std.proofs.lemmas.Option.{same_Some}
use Rattle.std.proofs.lemmas.Map.Lookups.{exact_signed}
use Rattle.rows.specs.declared.value.Value.{Value}
use Rattle.rows.specs.declared.value.Value.TheVariants.{Int, Octets}
use Rattle.queries.specs.Order.{group_cmp}
use Rattle.plans.specs.Inner.Blocks.{number_kept, IsOther}
use Rattle.plans.proofs.Orders.{same_group, is_itself}

pub none-some : {X : Type 0} (x : X) → None ≡ Some x → ⊥
none-some x e = cc

-- a number of 64 bits, as bits and back
pub held : (number : ℤ) → FitsSigned w64 number → to_z w64 (of_z w64 number) ≡ number
held number fits = omega (arith, ints, fits)

-- ---- one key more

pub get-last : {X : Type 0} (keys : List X) (key : X) → slice_get (keys ++ key ∷ []) (length keys) ≡ Some key
get-last [] key = refl
get-last (first ∷ keys) key = get-last keys key

pub get-more : {X : Type 0} (keys more : List X) (n : ℕ) (key : X) → slice_get keys n ≡ Some key → slice_get (keys ++ more) n ≡ Some key
get-more [] more n key e = absurd (none-some key e)
get-more (first ∷ keys) more zero key e = e
get-more (first ∷ keys) more (suc n) key e = get-more keys more n key e

-- what has a place with one key more: one of those before, or that key
get-either : {X : Type 0} (Z : Type 0) (keys : List X) (key : X) (n : ℕ) (other : X) → slice_get (keys ++ key ∷ []) n ≡ Some other
    → (slice_get keys n ≡ Some other → Z) → (n ≡ length keys → other ≡ key → Z) → Z
get-either Z [] key zero other e before last = last refl (sym (same_Some key other e))
get-either Z [] key (suc n) other e before last = absurd (none-some other e)
get-either Z (first ∷ keys) key zero other e before last = before e
get-either Z (first ∷ keys) key (suc n) other e before last = get-either Z keys key n other e before (λ at is. last (ap suc at) is)

module _ (keys : List (List Value)) (key : List Value) (before after : List Value → Option ℕ)
    (none : before key ≡ None) (new : after key ≡ Some (length keys))
    (others : (other : List Value) → (other ≡ key → ⊥) → after other ≡ before other) where
  pub known-next : ((n : ℕ) (other : List Value) → slice_get keys n ≡ Some other → before other ≡ Some n)
      → (n : ℕ) (other : List Value) → slice_get (keys ++ key ∷ []) n ≡ Some other → after other ≡ Some n
  known-next known n other e =
      get-either (after other ≡ Some n) keys key n other e
      (λ was. others other (λ same. none-some n (sym none ∙ ap before (sym same) ∙ known n other was)) ∙ known n other was)
      (λ at is. ap after is ∙ new ∙ ap Some (sym at))

  pub there-next : ((n : ℕ) (other : List Value) → before other ≡ Some n → slice_get keys n ≡ Some other)
      → (n : ℕ) (other : List Value) → after other ≡ Some n → slice_get (keys ++ key ∷ []) n ≡ Some other
  there-next there n other e = by (is_eq (group_cmp key other)) refl
    where
      apart : is_eq (group_cmp key other) ≡ false → other ≡ key → ⊥
      apart e same = false≢true (sym e ∙ ap (λ x. is_eq (group_cmp key x)) same ∙ is_itself key)

      by : (same : Bool) → is_eq (group_cmp key other) ≡ same → slice_get (keys ++ key ∷ []) n ≡ Some other
      by true same =
          let is : key ≡ other = same_group key other same in
          subst (λ x. slice_get (keys ++ key ∷ []) n ≡ Some x) is
          (subst (λ m. slice_get (keys ++ key ∷ []) m ≡ Some key) (same_Some (length keys) n (sym new ∙ ap after is ∙ e))
          (get-last keys key))
      by false same = get-more keys (key ∷ []) n other (there n other (sym (others other (apart same)) ∙ e))

-- ---- which of both maps has the number

-- a number more among the single ones
pub single-others : (singles after : List (ℤ × ℕ)) (others : List (List Value × ℕ)) (number : ℤ) (place : ℕ)
    → ((q : ℤ) → lookup (is_at (int_cmp q)) after ≡ cond (is_at (int_cmp number) q) (Some place) (lookup (is_at (int_cmp q)) singles))
    → (other : List Value) → (other ≡ Int number ∷ [] → ⊥) → number_kept after others other ≡ number_kept singles others other
single-others singles after others number place updates [] apart = refl
single-others singles after others number place updates (Octets bytes ∷ []) apart = refl
single-others singles after others number place updates (Int first ∷ next ∷ values) apart = refl
single-others singles after others number place updates (Octets first ∷ next ∷ values) apart = refl
single-others singles after others number place updates (Int other ∷ []) apart = by (int_cmp number other) refl
  where
    by : (o : Ordering) → int_cmp number other ≡ o → lookup (is_at (int_cmp other)) after ≡ lookup (is_at (int_cmp other)) singles
    by Less e = updates other ∙ ap (λ o. cond (is_eq o) (Some place) (lookup (is_at (int_cmp other)) singles)) e
    by Greater e = updates other ∙ ap (λ o. cond (is_eq o) (Some place) (lookup (is_at (int_cmp other)) singles)) e
    by Equal e = absurd (apart (ap (λ z. Int z ∷ []) (sym (exact_signed number other e))))

-- a number more among the others
pub other-others : (singles : List (ℤ × ℕ)) (others after : List (List Value × ℕ)) (key : List Value) (place : ℕ)
    → ((q : List Value) → lookup (is_at (group_cmp q)) after
    ≡ cond (is_at (group_cmp key) q) (Some place) (lookup (is_at (group_cmp q)) others))
    → (other : List Value) → (other ≡ key → ⊥) → number_kept singles after other ≡ number_kept singles others other
other-others singles others after key place updates other apart = go other apart
  where
    by : (q : List Value) → (q ≡ key → ⊥) → (same : Bool) → is_eq (group_cmp key q) ≡ same
        → lookup (is_at (group_cmp q)) after ≡ lookup (is_at (group_cmp q)) others
    by q apart true e = absurd (apart (sym (same_group key q e)))
    by q apart false e = updates q ∙ ap (λ b. cond b (Some place) (lookup (is_at (group_cmp q)) others)) e

    go : (q : List Value) → (q ≡ key → ⊥) → number_kept singles after q ≡ number_kept singles others q
    go [] apart = by [] apart (is_eq (group_cmp key [])) refl
    go (Int number ∷ []) apart = refl
    go (Octets bytes ∷ []) apart = by (Octets bytes ∷ []) apart (is_eq (group_cmp key (Octets bytes ∷ []))) refl
    go (Int number ∷ next ∷ values) apart =
        by (Int number ∷ next ∷ values) apart (is_eq (group_cmp key (Int number ∷ next ∷ values))) refl
    go (Octets bytes ∷ next ∷ values) apart =
        by (Octets bytes ∷ next ∷ values) apart (is_eq (group_cmp key (Octets bytes ∷ next ∷ values))) refl

-- ---- groups of other than one number

pub other-empty : (values : List Value) → length values ≡ 0 → IsOther values
other-empty [] e = λ singles others. refl
other-empty (value ∷ values) e = absurd (omega arith)

pub other-octets : (bytes : List ℕ) (rest : List Value) → IsOther (Octets bytes ∷ rest)
other-octets bytes [] = λ singles others. refl
other-octets bytes (next ∷ rest) = λ singles others. refl

pub other-more : (number : ℤ) (rest : List Value) → (length rest ≡ 0 → ⊥) → IsOther (Int number ∷ rest)
other-more number [] more = absurd (more refl)
other-more number (next ∷ rest) more = λ singles others. refl
