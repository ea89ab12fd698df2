-- A hash table of identifiers: which are found, before and after a slot changes, alone and beside others.
use Rattle.std.proofs.Common.{◌≡◌, ◌≢◌, ℕ, ◌+◌, ◌*◌, ◌<◌, Bool, true, false, cond, ◌&&◌, ◌||◌, ◌==◌, List, [], ◌∷◌}
use Rattle.std.proofs.Common.{zero, suc, length, get_or, refl, sym, ap, subst, ◌∙◌, arith, set, inl, inr, None, Some, replicate}
use Rattle.std.specs.Prelude.{not, ◌⊎◌, Option, MatchOption, is_some}
use Rattle.std.proofs.lemmas.Bool.{false≢true, eqb-true}
use Rattle.std.proofs.lemmas.Bool.Decides.{nat_tests}
use Rattle.std.proofs.lemmas.List.{get_or-set_same, get_or-set_other, length-set, get_or_past}
use Rattle.std.proofs.lemmas.List.Folds.{list_any-append}
use Rattle.std.proofs.lemmas.Bool.{cases_eq, cases_lt}
use Rattle.std.proofs.lemmas.Map.Views.{any-filter_same}
use Rattle.journal.specs.Inner.Presence.{has_id}
use Rattle.journal.specs.Inner.Slots.{bucket_in, IsInBucket, AreInBuckets, IsCleared, ids_of, ids_in}

-- an identifier that is found is at an index, and one that is at an index is found
has-get : (ids : List ℕ) (id : ℕ) → has_id ids id ≡ true → (at : ℕ) × (get_or ids at 0 ≡ id)
has-get [] id h = absurd cc
has-get (first ∷ ids) id h = by (first == id) refl (has-get ids id)
  where
    by : (here : Bool) → (first == id) ≡ here → (has_id ids id ≡ true → (at : ℕ) × (get_or ids at 0 ≡ id))
        → (at : ℕ) × (get_or (first ∷ ids) at 0 ≡ id)
    by true e rest = (0, eqb-true first id e)
    by false e rest = let found = rest (sym (ap (λ here. here || has_id ids id) e) ∙ h) in (suc found.0, found.1)

get-has : (ids : List ℕ) (id at : ℕ) → 0 < id → get_or ids at 0 ≡ id → has_id ids id ≡ true
get-has [] id at some e = absurd (omega arith)
get-has (first ∷ ids) id zero some e = grind (arith, nat_tests)
get-has (first ∷ ids) id (suc at) some e = by (first == id) (get-has ids id at some e)
  where
    by : (here : Bool) → has_id ids id ≡ true → (here || has_id ids id) ≡ true
    by true has = refl
    by false has = has

-- an identifier that is at no index is not found
has-none : (ids : List ℕ) (id : ℕ) → ((at : ℕ) → get_or ids at 0 ≢ id) → has_id ids id ≡ false
has-none ids id none = by (has_id ids id) refl
  where
    by : (has : Bool) → has_id ids id ≡ has → has_id ids id ≡ false
    by true e = let found = has-get ids id e in absurd (none found.0 found.1)
    by false e = e

-- where it is at the same indices, it is found in both
has-same : (ids others : List ℕ) (id : ℕ) → 0 < id → ((at : ℕ) → get_or ids at 0 ≡ id → get_or others at 0 ≡ id)
    → ((at : ℕ) → get_or others at 0 ≡ id → get_or ids at 0 ≡ id) → has_id ids id ≡ has_id others id
has-same ids others id some to from = by (has_id ids id) (has_id others id) refl refl
  where
    by : (a b : Bool) → has_id ids id ≡ a → has_id others id ≡ b → has_id ids id ≡ has_id others id
    by true true e f = e ∙ sym f
    by false false e f = e ∙ sym f
    by true false e f =
        let found = has-get ids id e in absurd (false≢true (sym f ∙ get-has others id found.0 some (to found.0 found.1)))
    by false true e f =
        let found = has-get others id f in absurd (false≢true (sym e ∙ get-has ids id found.0 some (from found.0 found.1)))

-- an identifier is put into an empty slot
other : (slots : List ℕ) (at id r k : ℕ) → get_or slots at 0 ≡ 0 → at < length slots → 0 < r → (id == r) ≡ false
    → get_or (set slots at id) k 0 ≡ r → get_or slots k 0 ≡ r
other slots at id r k empty within some e h = elim (cases_eq k at) [
  | inl same ↦ absurd (false≢true (sym e ∙ grind (arith, nat_tests, get_or-set_same slots at id 0 within)))
  | inr apart ↦ sym (get_or-set_other slots at k id 0 apart) ∙ h
]

kept : (slots : List ℕ) (at id r k : ℕ) → get_or slots at 0 ≡ 0 → 0 < r → get_or slots k 0 ≡ r → get_or (set slots at id) k 0 ≡ r
kept slots at id r k empty some h = elim (cases_eq k at) [
  | inl same ↦ absurd (omega (arith, sym empty ∙ ap (λ k. get_or slots k 0) (sym same) ∙ h))
  | inr apart ↦ get_or-set_other slots at k id 0 apart ∙ h
]

has-put : (slots : List ℕ) (at id : ℕ) → at < length slots → get_or slots at 0 ≡ 0 → (r : ℕ) → 0 < r
    → has_id (set slots at id) r ≡ ((id == r) || has_id slots r)
has-put slots at id within empty r some = by (id == r) refl
  where
    by : (same : Bool) → (id == r) ≡ same → has_id (set slots at id) r ≡ ((id == r) || has_id slots r)
    by true e =
        get-has (set slots at id) r at some (get_or-set_same slots at id 0 within ∙ eqb-true id r e)
        ∙ sym (ap (λ same. same || has_id slots r) e)
    by false e =
        has-same (set slots at id) slots r some
        (λ k h. other slots at id r k empty within some e h)
        (λ k h. kept slots at id r k empty some h)
        ∙ sym (ap (λ same. same || has_id slots r) e)

-- a slot of an identifier's bucket is so in as many slots
in_bucket-of : (slots new : List ℕ) (id other at : ℕ) → length new ≡ length slots → other ≡ id → IsInBucket slots id at
    → IsInBucket new other at
in_bucket-of slots new id other at len same here =
    (omega (arith, here.0, len), here.1 ∙ ap (λ n. bucket_in n id) (sym len) ∙ ap (bucket_in (length new)) (sym same))

-- an identifier that is not in its bucket is not found
none-in_bucket : (slots : List ℕ) (id : ℕ) → 0 < id → AreInBuckets slots
    → ((at : ℕ) → at < length slots → IsInBucket slots id at → get_or slots at 0 ≢ id) → has_id slots id ≡ false
none-in_bucket slots id some are none =
    has-none slots id (λ at e. elim (cases_lt at (length slots)) [
      | inl within ↦ none at within
          (in_bucket-of slots slots (get_or slots at 0) id at refl (sym e) (are at (subst (λ (n : ℕ). 0 < n) (sym e) some))) e
      | inr past ↦ omega (arith, get_or_past slots at 0 past)
    ])

-- nothing is found in fewer slots than a bucket has
none-in_few : (slots : List ℕ) (id : ℕ) → 0 < id → AreInBuckets slots → length slots < 16 → has_id slots id ≡ false
none-in_few slots id some are few = none-in_bucket slots id some are (λ at within here. absurd (omega (arith, here.0)))

-- ---- a bucket that is cleared of an identifier

-- one more slot, which has the identifier and is emptied, or does not have it
pub cleared-set : (old now : List ℕ) (id first at : ℕ) → 0 < id → at < length now → IsCleared old now id first at → get_or now at 0 ≡ id
    → IsCleared old (set now at 0) id first (at + 1)
cleared-set old now id first at some within is e = record {
  len = length-set now at 0 ∙ is.len;
  each = λ k. elim (cases_eq k at) [
    | inl same ↦ (elim (is.each k) [
      | inl was ↦ inr (
        ap (λ k. get_or (set now at 0) k 0) same ∙ get_or-set_same now at 0 0 within,
        sym was ∙ ap (λ k. get_or now k 0) same ∙ e,
      )
      | inr gone ↦ inr (ap (λ k. get_or (set now at 0) k 0) same ∙ get_or-set_same now at 0 0 within, gone.1)
    ])
    | inr apart ↦ subst (λ (n : ℕ). (n ≡ get_or old k 0) ⊎ ((n ≡ 0) × (get_or old k 0 ≡ id))) (sym (get_or-set_other now at k 0 0 apart))
        (is.each k)
  ];
  gone = λ k from below h. elim (cases_eq k at) [
    | inl same ↦ omega (arith, sym h, ap (λ k. get_or (set now at 0) k 0) same ∙ get_or-set_same now at 0 0 within)
    | inr apart ↦ is.gone k from (omega arith) (sym (get_or-set_other now at k 0 0 apart) ∙ h)
  ];
}

pub cleared-kept : (old now : List ℕ) (id first at : ℕ) → IsCleared old now id first at → get_or now at 0 ≢ id
    → IsCleared old now id first (at + 1)
cleared-kept old now id first at is apart = record {
  len = is.len;
  each = is.each;
  gone = λ k from below h. elim (cases_eq k at) [
    | inl same ↦ apart (ap (λ k. get_or now k 0) (sym same) ∙ h)
    | inr other ↦ is.gone k from (omega arith) h
  ];
}

module _ (old new : List ℕ) (id first behind : ℕ) (cleared : IsCleared old new id first behind) where
  kept-others : (r : ℕ) → 0 < r → (id == r) ≡ false → has_id new r ≡ has_id old r
  kept-others r some e =
      has-same new old r some
      (λ k h. elim (cleared.each k) [ inl same ↦ sym same ∙ h | inr gone ↦ absurd (omega (arith, gone.0)) ])
      (λ k h. elim (cleared.each k) [ inl same ↦ same ∙ h | inr gone ↦ absurd (false≢true (sym e ∙ grind (arith, nat_tests, gone.1))) ])

  -- where the identifier still is, it was, and so that is in its bucket
  in_place : 0 < id → AreInBuckets old → (at : ℕ) → get_or new at 0 ≡ id → IsInBucket old id at
  in_place some are at h = elim (cleared.each at) [
    | inl same ↦ in_bucket-of old old (get_or old at 0) id at refl (sym h ∙ same) (are at (omega (arith, same, h)))
    | inr gone ↦ absurd (omega (arith, gone.0, h))
  ]

  pub has-cleared : 0 < id → AreInBuckets old → first ≡ 16 * bucket_in (length old) id → behind ≡ first + 16 → (r : ℕ) → 0 < r
      → has_id new r ≡ cond (id == r) false (has_id old r)
  has-cleared some are from to r r-some = by (id == r) refl
    where
      by : (same : Bool) → (id == r) ≡ same → has_id new r ≡ cond (id == r) false (has_id old r)
      by true e =
          let same : id ≡ r = eqb-true id r e in
          has-none new r
          (λ at h.
          let here : IsInBucket old id at = in_place some are at (h ∙ sym same) in
          cleared.gone at (omega (arith, here.1, from)) (omega (arith, here.1, from, to)) (h ∙ sym same))
          ∙ sym (ap (λ same. cond same false (has_id old r)) e)
      by false e = kept-others r r-some e ∙ sym (ap (λ same. cond same false (has_id old r)) e)

-- an identifier that is not found is taken out by changing nothing
not-there : (ids : List ℕ) (id r : ℕ) → has_id ids id ≡ false → has_id ids r ≡ cond (id == r) false (has_id ids r)
not-there ids id r none = by (id == r) refl
  where
    by : (same : Bool) → (id == r) ≡ same → has_id ids r ≡ cond same false (has_id ids r)
    by true e = ap (has_id ids) (sym (eqb-true id r e)) ∙ none
    by false e = refl

-- empty slots
empty-at : (n at : ℕ) → ◌≡◌ {A = ℕ} (get_or (replicate n 0) at 0) 0
empty-at zero at = refl
empty-at (suc n) zero = refl
empty-at (suc n) (suc at) = empty-at n at

none-in_empty : (n id : ℕ) → 0 < id → has_id (replicate n 0) id ≡ false
none-in_empty n id some = has-none (replicate n 0) id (λ at e. omega (arith, empty-at n at, e))

-- ---- 0 is not an identifier

not-zero : (r : ℕ) → 0 < r → (r == 0) ≡ false
not-zero r some = grind (arith, nat_tests)

has-ids_of : (slots : List ℕ) (r : ℕ) → has_id (ids_of slots) r ≡ (not (r == 0) && has_id slots r)
has-ids_of slots r =
    any-filter_same (λ other. other == r) (λ id. not (id == 0)) (not (r == 0)) (λ k e. ap (λ id. not (id == 0)) (eqb-true k r e)) slots

some-is : (slots : List ℕ) (r : ℕ) → 0 < r → has_id (ids_of slots) r ≡ has_id slots r
some-is slots r some = has-ids_of slots r ∙ ap (λ none. not none && has_id slots r) (not-zero r some)

zero-is : (slots : List ℕ) → has_id (ids_of slots) 0 ≡ false
zero-is slots = has-ids_of slots 0

-- what holds of 0 and of each other number
by-zero : (P : ℕ → Type 0) → P 0 → ((r : ℕ) → 0 < r → P r) → (r : ℕ) → P r
by-zero P zero-holds some-hold zero = zero-holds
by-zero P zero-holds some-hold (suc r) = some-hold (suc r) (omega arith)

pub zero-found : (slots : List ℕ) (id : ℕ) → id ≡ 0 → false ≡ has_id (ids_of slots) id
zero-found slots id e = sym (ap (has_id (ids_of slots)) e ∙ zero-is slots)

pub id-found : (slots : List ℕ) (id : ℕ) (found : Option ℕ) → 0 < id → AreInBuckets slots
    → MatchOption found ((at : ℕ) → at < length slots → IsInBucket slots id at → get_or slots at 0 ≢ id)
    (λ at. (at < length slots) × (get_or slots at 0 ≡ id) × IsInBucket slots id at)
    → is_some found ≡ has_id (ids_of slots) id
id-found slots id None some are none = sym (none-in_bucket slots id some are none) ∙ sym (some-is slots id some)
id-found slots id (Some at) some are here = sym (get-has slots id at some here.1) ∙ sym (some-is slots id some)

pub id-put : (slots : List ℕ) (at id : ℕ) → at < length slots → get_or slots at 0 ≡ 0 → 0 < id → (r : ℕ)
    → has_id (ids_of (set slots at id)) r ≡ ((id == r) || has_id (ids_of slots) r)
id-put slots at id within empty some =
    by-zero (λ r. has_id (ids_of (set slots at id)) r ≡ ((id == r) || has_id (ids_of slots) r))
    (zero-is (set slots at id) ∙ sym (zero-is slots) ∙ ap (λ same. same || has_id (ids_of slots) 0) (sym (not-zero id some)))
    (λ r r-some. some-is (set slots at id) r r-some ∙ has-put slots at id within empty r r-some
    ∙ ap (λ has. (id == r) || has) (sym (some-is slots r r-some)))

pub zero-removed : (slots : List ℕ) (id : ℕ) → id ≡ 0 → (r : ℕ)
    → has_id (ids_of slots) r ≡ cond (id == r) false (has_id (ids_of slots) r)
zero-removed slots id e r = not-there (ids_of slots) id r (sym (zero-found slots id e))

pub few-removed : (slots : List ℕ) (id : ℕ) → 0 < id → AreInBuckets slots → length slots < 16 → (r : ℕ)
    → has_id (ids_of slots) r ≡ cond (id == r) false (has_id (ids_of slots) r)
few-removed slots id some are few r =
    not-there (ids_of slots) id r (some-is slots id some ∙ none-in_few slots id some are few)

pub id-removed : (old new : List ℕ) (id first behind : ℕ) → IsCleared old new id first behind → 0 < id → AreInBuckets old
    → first ≡ 16 * bucket_in (length old) id → behind ≡ first + 16 → (r : ℕ)
    → has_id (ids_of new) r ≡ cond (id == r) false (has_id (ids_of old) r)
id-removed old new id first behind cleared some are from to =
    by-zero (λ r. has_id (ids_of new) r ≡ cond (id == r) false (has_id (ids_of old) r))
    (zero-is new ∙ sym (zero-is old) ∙ ap (λ same. cond same false (has_id (ids_of old) 0)) (sym (not-zero id some)))
    (λ r r-some. some-is new r r-some ∙ has-cleared old new id first behind cleared some are from to r r-some
    ∙ ap (cond (id == r) false) (sym (some-is old r r-some)))

pub none-found : (n r : ℕ) → has_id (ids_of (replicate n 0)) r ≡ false
none-found n =
    by-zero (λ r. has_id (ids_of (replicate n 0)) r ≡ false) (zero-is (replicate n 0))
    (λ r some. some-is (replicate n 0) r some ∙ none-in_empty n r some)

-- ---- beside others

both : (slots others : List ℕ) (r : ℕ) → has_id (ids_in slots others) r ≡ (has_id (ids_of slots) r || has_id others r)
both slots others r = list_any-append (λ other. other == r) (ids_of slots) others

or-cond : (a same b : Bool) → (a || cond same true b) ≡ cond same true (a || b)
or-cond true true b = refl
or-cond true false b = refl
or-cond false true b = refl
or-cond false false b = refl

cond-or : (same a b : Bool) → ((same || a) || b) ≡ cond same true (a || b)
cond-or true a b = refl
cond-or false a b = refl

neither : (same a b : Bool) → (cond same false a || cond same false b) ≡ cond same false (a || b)
neither true a b = refl
neither false a b = refl

-- an identifier is put among the others if its bucket is full, and otherwise into a slot
pub put-others : (slots new others more : List ℕ) (id : ℕ) (put : Bool) → put ≡ false
    → ((r : ℕ) → has_id (ids_of new) r ≡ ((put && (id == r)) || has_id (ids_of slots) r))
    → ((r : ℕ) → has_id more r ≡ cond (id == r) true (has_id others r))
    → (r : ℕ) → has_id (ids_in new more) r ≡ cond (id == r) true (has_id (ids_in slots others) r)
put-others slots new others more id put e same added r =
    both new more r
    ∙ ap (λ has. has || has_id more r) (same r ∙ ap (λ put. (put && (id == r)) || has_id (ids_of slots) r) e)
    ∙ ap (λ has. has_id (ids_of slots) r || has) (added r)
    ∙ or-cond (has_id (ids_of slots) r) (id == r) (has_id others r)
    ∙ ap (cond (id == r) true) (sym (both slots others r))

pub put-slots : (slots new others : List ℕ) (id : ℕ) (put : Bool) → put ≡ true
    → ((r : ℕ) → has_id (ids_of new) r ≡ ((put && (id == r)) || has_id (ids_of slots) r))
    → (r : ℕ) → has_id (ids_in new others) r ≡ cond (id == r) true (has_id (ids_in slots others) r)
put-slots slots new others id put e added r =
    both new others r
    ∙ ap (λ has. has || has_id others r) (added r ∙ ap (λ put. (put && (id == r)) || has_id (ids_of slots) r) e)
    ∙ cond-or (id == r) (has_id (ids_of slots) r) (has_id others r)
    ∙ ap (cond (id == r) true) (sym (both slots others r))

-- an identifier is taken out of both
pub removed-both : (slots new others fewer : List ℕ) (id : ℕ)
    → ((r : ℕ) → has_id (ids_of new) r ≡ cond (id == r) false (has_id (ids_of slots) r))
    → ((r : ℕ) → has_id fewer r ≡ cond (id == r) false (has_id others r))
    → (r : ℕ) → has_id (ids_in new fewer) r ≡ cond (id == r) false (has_id (ids_in slots others) r)
removed-both slots new others fewer id here there r =
    both new fewer r
    ∙ ap (λ has. has || has_id fewer r) (here r)
    ∙ ap (λ has. cond (id == r) false (has_id (ids_of slots) r) || has) (there r)
    ∙ neither (id == r) (has_id (ids_of slots) r) (has_id others r)
    ∙ ap (cond (id == r) false) (sym (both slots others r))
