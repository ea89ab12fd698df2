-- The rows that chains have at a version are those of the tables there, in the same order.
use Rattle.std.proofs.Common.{◌≡◌, ℕ, ◌+◌, ◌<◌, Bool, true, false, cond, ◌&&◌, ◌==◌, nat_le, nat_lt, List, [], ◌∷◌, ◌++◌, map, take, length}
use Rattle.std.proofs.Common.{Option, None, Some, Less, refl, sym, ap, subst, ◌∙◌, inl, inr, arith, append-nil, append_assoc}
use Rattle.std.specs.Prelude.{IfSome}
use Rattle.std.specs.List.{AllByRecursion, filter}
use Rattle.std.specs.List.Sorted.{IsStrictlySortedBy, IsNonDecreasingBy}
use Rattle.std.specs.Map.{lookup, keys_of}
use Rattle.std.specs.Option.{option_map}
use Rattle.std.specs.Ordering.{nat_cmp}
use Rattle.std.specs.BTreeMap.{is_at}
use Rattle.std.specs.BTreeMap.Range.{range_contains, entries_between}
use Rattle.std.specs.Result.{is_ok}
use Rattle.std.specs.declared.ops.Bound.{Bound}
use Rattle.std.specs.declared.ops.Bound.TheVariants.{Included, Excluded}
use Rattle.std.proofs.lemmas.Bool.{cases_Bool, cases_lt, cond-true, cond-false, eqb-true}
use Rattle.std.proofs.lemmas.Bool.Decides.{nat_tests}
use Rattle.std.proofs.lemmas.List.{map-append}
use Rattle.std.proofs.lemmas.List.Elements.{filter_agree}
use Rattle.std.proofs.lemmas.Map.Keys.{sorted_head, sorted_tail}
use Rattle.std.proofs.lemmas.Option.{same_Some, none-some}
use Rattle.rows.specs.declared.commit.Commit.{Commit}
use Rattle.rows.specs.declared.entry.Entry.{Entry}
use Rattle.rows.specs.declared.entry.Entry.TheVariants.{Insert}
use Rattle.rows.specs.declared.kind.Kind.{Kind}
use Rattle.rows.specs.declared.value.Value.{Value}
use Rattle.rows.specs.Image.{rows_image}
use Rattle.rows.specs.ImageLaws.{Rise, VersionsRise, BytesAreBack}
use Rattle.rows.specs.Shape.{Shape}
use Rattle.rows.specs.Spelling.{AreBytes}
use Rattle.rows.specs.Tables.{Rows, opening, kinds_of, rows_of, row_at}
use Rattle.rows.specs.Commits.{apply_commits, tables_after}
use Rattle.rows.specs.Values.{bytes_of}
use Rattle.mvcc.specs.declared.link.Link.{Link}
use Rattle.mvcc.specs.Inner.Chains.{Chains, bytes_at, links_at, links_found, AreChains}
use Rattle.mvcc.specs.Inner.Images.{Found, found, found_at, chains_of, chains_within, is_within, inserts_of}
use Rattle.mvcc.specs.Inner.Keys.{is_key_of, key_cmp}
use Rattle.mvcc.specs.Inner.RowBytes.{wide, blank_in, blank_after_commits, HaveValues, IsTold, RowsHaveBytes}
use Rattle.mvcc.proofs.Keeping.{row-kept}
use Rattle.mvcc.proofs.RowBytes.{length-wide}

-- ---- rows whose identifiers rise

abbrev Up : {X : Type 0} → List (ℕ × X) → Type 0
Up [] = Unit {0}
Up (e ∷ es) = AllByRecursion (λ other. e.0 < other.0) es × Up es

abbrev look : {X : Type 0} → List (ℕ × X) → ℕ → Option X
look es r = lookup (is_at (nat_cmp r)) es

at-is : (r k : ℕ) → is_at (nat_cmp r) k ≡ (k == r)
at-is r k = grind (arith, nat_tests)

at-own : (r : ℕ) → is_at (nat_cmp r) r ≡ true
at-own r = grind (arith, nat_tests)

at-less : (r k : ℕ) → r < k → is_at (nat_cmp r) k ≡ false
at-less r k h = grind (arith, nat_tests)

above-none : {X : Type 0} (r : ℕ) (es : List (ℕ × X)) → AllByRecursion (λ e. r < e.0) es → look es r ≡ None
above-none r [] h = refl
above-none r (e ∷ es) h = cond-false (is_at (nat_cmp r) e.0) (Some e.1) (look es r) (at-less r e.0 h.0) ∙ above-none r es h.1

above-lower : {X : Type 0} (low high : ℕ) (es : List (ℕ × X)) → low < high → AllByRecursion (λ e. high < e.0) es
    → AllByRecursion (λ e. low < e.0) es
above-lower low high [] below h = tt
above-lower low high (e ∷ es) below h = (omega (arith, below, h.0), above-lower low high es below h.1)

module _ {X : Type 0} where
  head-found : (e : ℕ × X) (es : List (ℕ × X)) → look (e ∷ es) e.0 ≡ Some e.1
  head-found e es = cond-true (is_at (nat_cmp e.0) e.0) (Some e.1) (look es e.0) (at-own e.0)

  -- such rows are the same if a look-up finds the same in both
  same : (es fs : List (ℕ × X)) → Up es → Up fs → ((r : ℕ) → look es r ≡ look fs r) → es ≡ fs
  same [] [] s u h = refl
  same [] (f ∷ fs) s u h = absurd (none-some f.1 (h f.0 ∙ head-found f fs))
  same (e ∷ es) [] s u h = absurd (none-some e.1 (sym (h e.0) ∙ head-found e es))
  same (e ∷ es) (f ∷ fs) s u h = elim (cases_lt e.0 f.0) [
    | inl less ↦
        absurd (none-some e.1 (sym (h e.0 ∙ above-none e.0 (f ∷ fs) (less, above-lower e.0 f.0 fs less u.0)) ∙ head-found e es))
    | inr le ↦ elim (cases_lt f.0 e.0) [
      | inl less ↦
          absurd (none-some f.1 (sym (sym (h f.0) ∙ above-none f.0 (e ∷ es) (less, above-lower f.0 e.0 es less s.0)) ∙ head-found f fs))
      | inr ge ↦
          let keys : e.0 ≡ f.0 = omega (arith, le, ge) in
          let values : e.1 ≡ f.1 =
          same_Some e.1 f.1 (sym (head-found e es) ∙ h e.0 ∙ ap (look (f ∷ fs)) keys ∙ head-found f fs) in
          let tails : (r : ℕ) → look es r ≡ look fs r =
          λ r. elim (cases_Bool (is_at (nat_cmp r) e.0)) [
            | inl here ↦
                let at : e.0 ≡ r = eqb-true e.0 r (sym (at-is r e.0) ∙ here) in
                subst (λ (k : ℕ). look es k ≡ None) at (above-none e.0 es s.0)
                ∙ sym (subst (λ (k : ℕ). look fs k ≡ None) (sym keys ∙ at) (above-none f.0 fs u.0))
            | inr apart ↦
                sym (cond-false (is_at (nat_cmp r) e.0) (Some e.1) (look es r) apart) ∙ h r
                ∙ cond-false (is_at (nat_cmp r) f.0) (Some f.1) (look fs r) (ap (is_at (nat_cmp r)) (sym keys) ∙ apart)
          ] in
          let pair : e ≡ f = λ i. (keys i, values i) in
          ap (λ (x : ℕ × X). x ∷ es) pair ∙ ap (λ (xs : List (ℕ × X)). f ∷ xs) (same es fs s.1 u.1 tails)
    ]
  ]

-- ---- chains whose keys rise

abbrev After : ℕ × ℕ → Chains → Type 0
After key chains = AllByRecursion (λ chain. key_cmp key chain.0 ≡ Less) chains

abbrev Rising : Chains → Type 0
Rising [] = Unit {0}
Rising (chain ∷ chains) = After chain.0 chains × Rising chains

heads : (key : ℕ × ℕ) (chains : Chains) → AllByRecursion (λ other. key_cmp key other ≡ Less) (keys_of chains) → After key chains
heads key [] h = tt
heads key (chain ∷ chains) h = (h.0, heads key chains h.1)

sorted-rising : (chains : Chains) → IsStrictlySortedBy key_cmp (keys_of chains) → Rising chains
sorted-rising [] h = tt
sorted-rising (chain ∷ chains) h = (
  heads chain.0 chains (sorted_head key_cmp chain.0 (keys_of chains) h),
  sorted-rising chains (sorted_tail key_cmp chain.0 (keys_of chains) h),
)

-- those from a key of a table to before the first of the next are those of the table from that row on
abbrev first_key : ℕ → ℕ → Bound (ℕ × ℕ)
first_key table from = Included (table, from)

abbrev next_key : ℕ → Bound (ℕ × ℕ)
next_key table = Excluded (table + 1, 0)

in-range : (table from a b : ℕ)
    → range_contains key_cmp (first_key table from) (next_key table) (a, b) ≡ ((a == table) && is_within from None b)
in-range table from a b = grind (arith, nat_tests)

-- a filter by both is a filter of what the first leaves
filter-both : {X : Type 0} (p q : X → Bool) (xs : List X) → filter (λ x. p x && q x) xs ≡ filter q (filter p xs)
filter-both p q [] = refl
filter-both p q (x ∷ xs) = by (p x) (filter-both p q xs)
  where
    by : (here : Bool) → filter (λ y. p y && q y) xs ≡ filter q (filter p xs)
        → cond (here && q x) (x ∷ filter (λ y. p y && q y) xs) (filter (λ y. p y && q y) xs)
        ≡ filter q (cond here (x ∷ filter p xs) (filter p xs))
    by true rest = ap (λ ys. cond (q x) (x ∷ ys) ys) rest
    by false rest = rest

pub between : (table from : ℕ) (chains : Chains)
    → entries_between key_cmp (first_key table from) (next_key table) chains ≡ chains_within table from None chains
between table from chains =
    filter_agree (λ (chain : (ℕ × ℕ) × List Link). range_contains key_cmp (first_key table from) (next_key table) chain.0)
    (λ (chain : (ℕ × ℕ) × List Link). (chain.0.0 == table) && is_within from None chain.0.1)
    (λ chain. in-range table from chain.0.0 chain.0.1) chains
    ∙ filter-both (λ (chain : (ℕ × ℕ) × List Link). chain.0.0 == table) (λ chain. is_within from None chain.0.1) chains

-- ---- the versions of each chain do not fall

abbrev pub Falls : Chains → Type 0
Falls chains = AllByRecursion (λ chain. IsNonDecreasingBy (λ (link : Link). link.version) chain.1) chains

less-not : (t r a b : ℕ) → key_cmp (t, r) (a, b) ≡ Less → is_key_of t r (a, b) ≡ false
less-not t r a b e = grind (arith, nat_tests)

own-key : (t r : ℕ) → is_key_of t r (t, r) ≡ true
own-key t r = grind (arith, nat_tests)

same-table : (t r a b : ℕ) → is_key_of t r (a, b) ≡ true → a ≡ t
same-table t r a b h = grind (arith, nat_tests)

same-row : (t r a b : ℕ) → is_key_of t r (a, b) ≡ true → b ≡ r
same-row t r a b h = grind (arith, nat_tests)

later-row : (t r a b : ℕ) → key_cmp (t, r) (a, b) ≡ Less → a ≡ t → r < b
later-row t r a b less same = grind (arith, nat_tests)

after-none : (t r : ℕ) (chains : Chains) → After (t, r) chains → lookup (is_key_of t r) chains ≡ None
after-none t r [] h = refl
after-none t r (chain ∷ chains) h =
    cond-false (is_key_of t r chain.0) (Some chain.1) (lookup (is_key_of t r) chains) (less-not t r chain.0.0 chain.0.1 h.0)
    ∙ after-none t r chains h.1

abbrev Sorted : List Link → Type 0
Sorted links = IsNonDecreasingBy (λ (link : Link). link.version) links

none-sorted : Sorted []
none-sorted i j d le lt = absurd (omega (arith, lt))

each-sorted : (chains : Chains) → Rising chains → ((t r : ℕ) → Sorted (links_at chains t r)) → Falls chains
each-sorted [] rise h = tt
each-sorted (chain ∷ chains) rise h = (
  subst (λ (links : Option (List Link)). Sorted (links_found links))
      (cond-true (is_key_of chain.0.0 chain.0.1 chain.0) (Some chain.1) (lookup (is_key_of chain.0.0 chain.0.1) chains)
      (own-key chain.0.0 chain.0.1)) (h chain.0.0 chain.0.1),
  each-sorted chains rise.1 rest,
)
  where
    rest : (t r : ℕ) → Sorted (links_at chains t r)
    rest t r = elim (cases_Bool (is_key_of t r chain.0)) [
      | inl here ↦
          let none : lookup (is_key_of t r) chains ≡ None =
          ap (λ (n : ℕ). lookup (is_key_of n r) chains) (sym (same-table t r chain.0.0 chain.0.1 here))
          ∙ ap (λ (n : ℕ). lookup (is_key_of chain.0.0 n) chains) (sym (same-row t r chain.0.0 chain.0.1 here))
          ∙ after-none chain.0.0 chain.0.1 chains rise.0 in
          subst (λ (links : Option (List Link)). Sorted (links_found links)) (sym none) none-sorted
      | inr apart ↦
          subst (λ (links : Option (List Link)). Sorted (links_found links))
          (cond-false (is_key_of t r chain.0) (Some chain.1) (lookup (is_key_of t r) chains) apart) (h t r)
    ]

filtered : (keep : (ℕ × ℕ) × List Link → Bool) (chains : Chains) → Falls chains → Falls (filter keep chains)
filtered keep [] all = tt
filtered keep (chain ∷ chains) all = by (keep chain) (filtered keep chains all.1)
  where
    by : (here : Bool) → Falls (filter keep chains) → Falls (cond here (chain ∷ filter keep chains) (filter keep chains))
    by true rest = (all.0, rest)
    by false rest = rest

pub within-sorted : (table from : ℕ) (next : Option ℕ) (chains : Chains) → IsStrictlySortedBy key_cmp (keys_of chains)
    → ((t r : ℕ) → Sorted (links_at chains t r)) → Falls (chains_within table from next chains)
within-sorted table from next chains sorted h =
    filtered (λ chain. is_within from next chain.0.1) (chains_of table chains)
    (filtered (λ chain. chain.0.0 == table) chains (each-sorted chains (sorted-rising chains sorted) h))

-- ---- chains up to one of them

-- the chains of a table rise by row
abbrev RowsRise : Chains → Type 0
RowsRise [] = Unit {0}
RowsRise (chain ∷ chains) = AllByRecursion (λ other. chain.0.1 < other.0.1) chains × RowsRise chains

rows-after : (table : ℕ) (key : ℕ × ℕ) (chains : Chains) → key.0 ≡ table → After key chains
    → AllByRecursion (λ other. key.1 < other.0.1) (chains_of table chains)
rows-after table key [] same h = tt
rows-after table key (chain ∷ chains) same h = by (chain.0.0 == table) refl (rows-after table key chains same h.1)
  where
    by : (here : Bool) → (chain.0.0 == table) ≡ here → AllByRecursion (λ other. key.1 < other.0.1) (chains_of table chains)
        → AllByRecursion (λ other. key.1 < other.0.1) (cond here (chain ∷ chains_of table chains) (chains_of table chains))
    by true e rest = (later-row key.0 key.1 chain.0.0 chain.0.1 h.0 (eqb-true chain.0.0 table e ∙ sym same), rest)
    by false e rest = rest

rows-rise : (table : ℕ) (chains : Chains) → Rising chains → RowsRise (chains_of table chains)
rows-rise table [] h = tt
rows-rise table (chain ∷ chains) h = by (chain.0.0 == table) refl (rows-rise table chains h.1)
  where
    by : (here : Bool) → (chain.0.0 == table) ≡ here → RowsRise (chains_of table chains)
        → RowsRise (cond here (chain ∷ chains_of table chains) (chains_of table chains))
    by true e rest = (rows-after table chain.0 chains (eqb-true chain.0.0 table e) h.0, rest)
    by false e rest = rest

above-filtered : (keep : (ℕ × ℕ) × List Link → Bool) (low : ℕ) (chains : Chains) → AllByRecursion (λ other. low < other.0.1) chains
    → AllByRecursion (λ other. low < other.0.1) (filter keep chains)
above-filtered keep low [] h = tt
above-filtered keep low (chain ∷ chains) h = by (keep chain) (above-filtered keep low chains h.1)
  where
    by : (here : Bool) → AllByRecursion (λ other. low < other.0.1) (filter keep chains)
        → AllByRecursion (λ other. low < other.0.1) (cond here (chain ∷ filter keep chains) (filter keep chains))
    by true rest = (h.0, rest)
    by false rest = rest

rise-filtered : (keep : (ℕ × ℕ) × List Link → Bool) (chains : Chains) → RowsRise chains → RowsRise (filter keep chains)
rise-filtered keep [] h = tt
rise-filtered keep (chain ∷ chains) h = by (keep chain) (rise-filtered keep chains h.1)
  where
    by : (here : Bool) → RowsRise (filter keep chains) → RowsRise (cond here (chain ∷ filter keep chains) (filter keep chains))
    by true rest = (above-filtered keep chain.0.1 chains h.0, rest)
    by false rest = rest

all-below : (row : ℕ) (chains : Chains) → AllByRecursion (λ other. row < other.0.1) chains
    → filter (λ chain. nat_lt chain.0.1 row) chains ≡ []
all-below row [] h = refl
all-below row (chain ∷ chains) h =
    let apart : nat_lt chain.0.1 row ≡ false = grind (arith, nat_tests, h.0) in
    cond-false (nat_lt chain.0.1 row) (chain ∷ filter (λ other. nat_lt other.0.1 row) chains)
    (filter (λ other. nat_lt other.0.1 row) chains) apart
    ∙ all-below row chains h.1

-- those below the first that is left are those so far
below-head : (done : Chains) (key : ℕ × ℕ) (links : List Link) (rest : Chains) → RowsRise (done ++ (key, links) ∷ rest)
    → filter (λ chain. nat_lt chain.0.1 key.1) (done ++ (key, links) ∷ rest) ≡ done
below-head [] key links rest h =
    let apart : nat_lt key.1 key.1 ≡ false = grind (arith, nat_tests) in
    cond-false (nat_lt key.1 key.1) ((key, links) ∷ filter (λ chain. nat_lt chain.0.1 key.1) rest)
    (filter (λ chain. nat_lt chain.0.1 key.1) rest) apart
    ∙ all-below key.1 rest h.0
below-head (chain ∷ done) key links rest h =
    let less : chain.0.1 < key.1 = in-middle done h.0 in
    let here : nat_lt chain.0.1 key.1 ≡ true = grind (arith, nat_tests, less) in
    cond-true (nat_lt chain.0.1 key.1) (chain ∷ filter (λ other. nat_lt other.0.1 key.1) (done ++ (key, links) ∷ rest))
    (filter (λ other. nat_lt other.0.1 key.1) (done ++ (key, links) ∷ rest)) here
    ∙ ap (λ chains. chain ∷ chains) (below-head done key links rest h.1)
  where
    in-middle : (begun : Chains) → AllByRecursion (λ other. chain.0.1 < other.0.1) (begun ++ (key, links) ∷ rest) → chain.0.1 < key.1
    in-middle [] all = all.0
    in-middle (one ∷ begun) all = in-middle begun all.1

-- so of the rows from one on, those before the first that is left are those so far
pub upto-head : (table from : ℕ) (chains done rest : Chains) (key : ℕ × ℕ) (links : List Link)
    → IsStrictlySortedBy key_cmp (keys_of chains) → done ++ (key, links) ∷ rest ≡ chains_within table from None chains
    → chains_within table from (Some key.1) chains ≡ done
upto-head table from chains done rest key links sorted is =
    filter-both (λ (chain : (ℕ × ℕ) × List Link). is_within from None chain.0.1) (λ chain. nat_lt chain.0.1 key.1)
    (chains_of table chains)
    ∙ ap (filter (λ chain. nat_lt chain.0.1 key.1)) (sym is)
    ∙ below-head done key links rest
    (subst RowsRise (sym is)
    (rise-filtered (λ chain. is_within from None chain.0.1) (chains_of table chains)
    (rows-rise table chains (sorted-rising chains sorted))))

from-on : (from : ℕ) (chains : Chains)
    → AllByRecursion (λ chain. nat_le from chain.0.1 ≡ true) (filter (λ chain. is_within from None chain.0.1) chains)
from-on from [] = tt
from-on from (chain ∷ chains) = by (nat_le from chain.0.1) refl (from-on from chains)
  where
    by : (here : Bool) → nat_le from chain.0.1 ≡ here
        → AllByRecursion (λ other. nat_le from other.0.1 ≡ true) (filter (λ other. is_within from None other.0.1) chains)
        → AllByRecursion (λ other. nat_le from other.0.1 ≡ true)
        (cond here (chain ∷ filter (λ other. is_within from None other.0.1) chains)
        (filter (λ other. is_within from None other.0.1) chains))
    by true e rest = (e, rest)
    by false e rest = rest

-- and the first that is left is behind the one from which they are, once there is one before it
pub later-head : (table from : ℕ) (chains done rest : Chains) (key : ℕ × ℕ) (links : List Link)
    → IsStrictlySortedBy key_cmp (keys_of chains) → done ++ (key, links) ∷ rest ≡ chains_within table from None chains
    → 0 < length done → from < key.1
later-head table from chains [] rest key links sorted is some = absurd (omega (arith, some))
later-head table from chains (first ∷ done) rest key links sorted is some =
    grind (arith, nat_tests, low, less)
  where
    low : nat_le from first.0.1 ≡ true
    low = (subst (AllByRecursion (λ chain. nat_le from chain.0.1 ≡ true)) (sym is) (from-on from (chains_of table chains))).0

    in-middle : (begun : Chains) → AllByRecursion (λ other. first.0.1 < other.0.1) (begun ++ (key, links) ∷ rest) → first.0.1 < key.1
    in-middle [] all = all.0
    in-middle (one ∷ begun) all = in-middle begun all.1

    less : first.0.1 < key.1
    less =
        in-middle done (subst RowsRise (sym is)
        (rise-filtered (λ chain. is_within from None chain.0.1) (chains_of table chains)
        (rows-rise table chains (sorted-rising chains sorted)))).0

-- ---- a walk over the chains of a table

found-append : (version : ℕ) (blank : List ℕ) (done more : Chains)
    → found_at version blank (done ++ more) ≡ found_at version blank done ++ found_at version blank more
found-append version blank [] more = refl
found-append version blank (chain ∷ done) more =
    let own = found blank chain.0.1 (bytes_at version chain.1) in
    ap (λ (rest : Found). own ++ rest) (found-append version blank done more)
    ∙ sym (append_assoc own (found_at version blank done) (found_at version blank more))

-- one chain on
found-more : (version : ℕ) (blank : List ℕ) (done : Chains) (key : ℕ × ℕ) (links : List Link) (bytes : Option (List ℕ))
    → bytes ≡ bytes_at version links
    → found_at version blank (done ++ (key, links) ∷ []) ≡ found_at version blank done ++ found blank key.1 bytes
found-more version blank done key links bytes own =
    found-append version blank done ((key, links) ∷ [])
    ∙ ap (λ (one : Found). found_at version blank done ++ one) (append-nil (found blank key.1 (bytes_at version links)))
    ∙ ap (λ (b : Option (List ℕ)). found_at version blank done ++ found blank key.1 b) (sym own)

pub inserts-more : (version table : ℕ) (blank : List ℕ) (start now after : List Entry) (done : Chains) (key : ℕ × ℕ) (links : List Link)
    (bytes : Option (List ℕ)) → bytes ≡ bytes_at version links → now ≡ start ++ inserts_of table (found_at version blank done)
    → after ≡ now ++ inserts_of table (found blank key.1 bytes)
    → after ≡ start ++ inserts_of table (found_at version blank (done ++ (key, links) ∷ []))
inserts-more version table blank start now after done key links bytes own is pushed =
    let begun = found_at version blank done in
    let more = found blank key.1 bytes in
    pushed ∙ ap (λ (front : List Entry). front ++ inserts_of table more) is
    ∙ append_assoc start (inserts_of table begun) (inserts_of table more)
    ∙ ap (λ (all : List Entry). start ++ all) (sym (map-append _ begun more))
    ∙ ap (λ (all : Found). start ++ inserts_of table all) (sym (found-more version blank done key links bytes own))

bytes-found : (blank : List ℕ) (done : Found) (row : ℕ) (bytes : Option (List ℕ)) → AllByRecursion (λ one. AreBytes one.1) done
    → IfSome bytes (λ b. AreBytes (wide blank b)) → AllByRecursion (λ one. AreBytes one.1) (done ++ found blank row bytes)
bytes-found blank [] row None all are = tt
bytes-found blank [] row (Some bytes) all are = (are, tt)
bytes-found blank (one ∷ done) row bytes all are = (all.0, bytes-found blank done row bytes all.1 are)

pub bytes-more : (version : ℕ) (blank : List ℕ) (done : Chains) (key : ℕ × ℕ) (links : List Link) (bytes : Option (List ℕ))
    → bytes ≡ bytes_at version links → AllByRecursion (λ one. AreBytes one.1) (found_at version blank done)
    → IfSome bytes (λ b. AreBytes (wide blank b))
    → AllByRecursion (λ one. AreBytes one.1) (found_at version blank (done ++ (key, links) ∷ []))
bytes-more version blank done key links bytes own all are =
    subst (AllByRecursion (λ one. AreBytes one.1)) (sym (found-more version blank done key links bytes own))
    (bytes-found blank (found_at version blank done) key.1 bytes all are)

pub walk-more : (done : Chains) (key : ℕ × ℕ) (links : List Link) (rest all whole : Chains) → all ≡ (key, links) ∷ rest
    → done ++ all ≡ whole → (done ++ (key, links) ∷ []) ++ rest ≡ whole
walk-more done key links rest all whole step is =
    append_assoc done ((key, links) ∷ []) rest ∙ ap (λ (chains : Chains). done ++ chains) (sym step) ∙ is

-- ---- what is found of a table

put-up : (blank : List ℕ) (row : ℕ) (bytes : Option (List ℕ)) (rest : Found) → AllByRecursion (λ e. row < e.0) rest → Up rest
    → Up (found blank row bytes ++ rest)
put-up blank row None rest above up = up
put-up blank row (Some bytes) rest above up = (above, up)

put-above : (blank : List ℕ) (low row : ℕ) (bytes : Option (List ℕ)) (rest : Found) → low < row → AllByRecursion (λ e. low < e.0) rest
    → AllByRecursion (λ e. low < e.0) (found blank row bytes ++ rest)
put-above blank low row None rest below above = above
put-above blank low row (Some bytes) rest below above = (below, above)

put-here : (blank : List ℕ) (r row : ℕ) (bytes : Option (List ℕ)) (rest : Found) → is_at (nat_cmp r) row ≡ true → look rest r ≡ None
    → look (found blank row bytes ++ rest) r ≡ option_map (wide blank) bytes
put-here blank r row None rest own none = none
put-here blank r row (Some bytes) rest own none = cond-true (is_at (nat_cmp r) row) (Some (wide blank bytes)) (look rest r) own

put-apart : (blank : List ℕ) (r row : ℕ) (bytes : Option (List ℕ)) (rest : Found) → is_at (nat_cmp r) row ≡ false
    → look (found blank row bytes ++ rest) r ≡ look rest r
put-apart blank r row None rest apart = refl
put-apart blank r row (Some bytes) rest apart = cond-false (is_at (nat_cmp r) row) (Some (wide blank bytes)) (look rest r) apart

module _ (version table : ℕ) (blank : List ℕ) where
  abbrev found_in : Chains → Found
  found_in chains = found_at version blank (chains_of table chains)

  abbrev own_bytes : List Link → Option (List ℕ)
  own_bytes links = option_map (wide blank) (bytes_at version links)

  found-above : (key : ℕ × ℕ) (chains : Chains) → key.0 ≡ table → After key chains → AllByRecursion (λ row. key.1 < row.0) (found_in chains)
  found-above key [] same h = tt
  found-above key (chain ∷ chains) same h = by (chain.0.0 == table) refl (found-above key chains same h.1)
    where
      by : (here : Bool) → (chain.0.0 == table) ≡ here → AllByRecursion (λ row. key.1 < row.0) (found_in chains)
          → AllByRecursion (λ row. key.1 < row.0)
          (found_at version blank (cond here (chain ∷ chains_of table chains) (chains_of table chains)))
      by true e rest =
          let below = later-row key.0 key.1 chain.0.0 chain.0.1 h.0 (eqb-true chain.0.0 table e ∙ sym same) in
          put-above blank key.1 chain.0.1 (bytes_at version chain.1) (found_in chains) below rest
      by false e rest = rest

  found-up : (chains : Chains) → Rising chains → Up (found_in chains)
  found-up [] h = tt
  found-up (chain ∷ chains) h = by (chain.0.0 == table) refl (found-up chains h.1)
    where
      by : (here : Bool) → (chain.0.0 == table) ≡ here → Up (found_in chains)
          → Up (found_at version blank (cond here (chain ∷ chains_of table chains) (chains_of table chains)))
      by true e rest =
          put-up blank chain.0.1 (bytes_at version chain.1) (found_in chains)
          (found-above chain.0 chains (eqb-true chain.0.0 table e) h.0) rest
      by false e rest = rest

  found-there : (chains : Chains) (r : ℕ) → Rising chains → look (found_in chains) r ≡ own_bytes (links_at chains table r)
  found-there [] r h = refl
  found-there (chain ∷ chains) r h = by (chain.0.0 == table) (chain.0.1 == r) refl refl (found-there chains r h.1)
    where
      by : (here own : Bool) → (chain.0.0 == table) ≡ here → (chain.0.1 == r) ≡ own
          → look (found_in chains) r ≡ own_bytes (links_at chains table r)
          → look (found_at version blank (cond here (chain ∷ chains_of table chains) (chains_of table chains))) r
          ≡ own_bytes (links_found (cond (here && own) (Some chain.1) (lookup (is_key_of table r) chains)))
      by true true e f rest =
          let above = found-above chain.0 chains (eqb-true chain.0.0 table e) h.0 in
          let none : look (found_in chains) r ≡ None =
          subst (λ (k : ℕ). look (found_in chains) k ≡ None) (eqb-true chain.0.1 r f) (above-none chain.0.1 (found_in chains) above) in
          put-here blank r chain.0.1 (bytes_at version chain.1) (found_in chains) (at-is r chain.0.1 ∙ f) none
      by true false e f rest = put-apart blank r chain.0.1 (bytes_at version chain.1) (found_in chains) (at-is r chain.0.1 ∙ f) ∙ rest
      by false own e f rest = rest

-- ---- the rows of a table

abbrev listed : Rows → Found
listed rows = map (λ row. (row.0, bytes_of row.1)) rows

listed-inserts : (table : ℕ) (rows : Rows) → inserts_of table (listed rows) ≡ rows_image table rows
listed-inserts table [] = refl
listed-inserts table (row ∷ rows) =
    ap (λ (entries : List Entry). Insert table (record { 0 = row.0 }) (bytes_of row.1) ∷ entries) (listed-inserts table rows)

listed-above : (low : ℕ) (rows : Rows) → AllByRecursion (λ row. low < row.0) rows → AllByRecursion (λ row. low < row.0) (listed rows)
listed-above low [] h = tt
listed-above low (row ∷ rows) h = (h.0, listed-above low rows h.1)

listed-up : (rows : Rows) → Rise rows → Up (listed rows)
listed-up [] rise = tt
listed-up (row ∷ rows) rise = (listed-above row.0 rows rise.0, listed-up rows rise.1)

listed-found : (rows : Rows) (r : ℕ) → look (listed rows) r ≡ option_map bytes_of (row_at rows r)
listed-found [] r = refl
listed-found (row ∷ rows) r = by (is_at (nat_cmp r) row.0) (listed-found rows r)
  where
    by : (here : Bool) → look (listed rows) r ≡ option_map bytes_of (row_at rows r)
        → cond here (Some (bytes_of row.1)) (look (listed rows) r) ≡ option_map bytes_of (cond here (Some row.1) (row_at rows r))
    by true rest = refl
    by false rest = rest

-- the bytes of the values of a row's bytes are these
told-back : (back : BytesAreBack) (columns : List Kind) (blank : List ℕ) (values : Option (List Value)) (bytes : Option (List ℕ))
    → IsTold columns blank values bytes → IfSome (option_map (wide blank) bytes) AreBytes
    → option_map bytes_of values ≡ option_map (wide blank) bytes
told-back back columns blank values None is are = ap (option_map bytes_of) is.told
told-back back columns blank values (Some bytes) is are =
    ap (option_map bytes_of) is.told
    ∙ ap (λ (row : List ℕ). Some row) (back columns (wide blank bytes) are (length-wide blank bytes is.narrow ∙ is.blank_wide))

found-bytes : (es : Found) (r : ℕ) → AllByRecursion (λ e. AreBytes e.1) es → IfSome (look es r) AreBytes
found-bytes [] r all = tt
found-bytes (e ∷ es) r all = by (is_at (nat_cmp r) e.0) (found-bytes es r all.1)
  where
    by : (here : Bool) → IfSome (look es r) AreBytes → IfSome (cond here (Some e.1) (look es r)) AreBytes
    by true rest = all.0
    by false rest = rest

-- ---- some of the rows

-- those whose identifiers a test keeps
module _ (keep : ℕ → Bool) where
  kept-above : {X : Type 0} (low : ℕ) (es : List (ℕ × X)) → AllByRecursion (λ e. low < e.0) es
      → AllByRecursion (λ e. low < e.0) (filter (λ e. keep e.0) es)
  kept-above low [] h = tt
  kept-above low (e ∷ es) h = by (keep e.0) (kept-above low es h.1)
    where
      by : (here : Bool) → AllByRecursion (λ one. low < one.0) (filter (λ one. keep one.0) es)
          → AllByRecursion (λ one. low < one.0) (cond here (e ∷ filter (λ one. keep one.0) es) (filter (λ one. keep one.0) es))
      by true rest = (h.0, rest)
      by false rest = rest

  kept-up : {X : Type 0} (es : List (ℕ × X)) → Up es → Up (filter (λ e. keep e.0) es)
  kept-up [] h = tt
  kept-up (e ∷ es) h = by (keep e.0) (kept-up es h.1)
    where
      by : (here : Bool) → Up (filter (λ one. keep one.0) es)
          → Up (cond here (e ∷ filter (λ one. keep one.0) es) (filter (λ one. keep one.0) es))
      by true rest = (kept-above e.0 es h.0, rest)
      by false rest = rest

  either-way : {Y : Type 0} (here : Bool) (y : Y) → cond here y y ≡ y
  either-way true y = refl
  either-way false y = refl

  kept-look : {X : Type 0} (es : List (ℕ × X)) (r : ℕ) → look (filter (λ e. keep e.0) es) r ≡ cond (keep r) (look es r) None
  kept-look [] r = sym (either-way (keep r) None)
  kept-look {X} (e ∷ es) r = by (keep e.0) (is_at (nat_cmp r) e.0) refl refl (kept-look es r)
    where
      same-keep : is_at (nat_cmp r) e.0 ≡ true → keep r ≡ keep e.0
      same-keep at = ap keep (sym (eqb-true e.0 r (sym (at-is r e.0) ∙ at)))

      by : (here at : Bool) → keep e.0 ≡ here → is_at (nat_cmp r) e.0 ≡ at
          → look (filter (λ one. keep one.0) es) r ≡ cond (keep r) (look es r) None
          → look (cond here (e ∷ filter (λ one. keep one.0) es) (filter (λ one. keep one.0) es)) r
          ≡ cond (keep r) (cond at (Some e.1) (look es r)) None
      by true true k a rest =
          cond-true (is_at (nat_cmp r) e.0) (Some e.1) (look (filter (λ one. keep one.0) es) r) a
          ∙ sym (cond-true (keep r) (Some e.1) None (same-keep a ∙ k))
      by true false k a rest =
          cond-false (is_at (nat_cmp r) e.0) (Some e.1) (look (filter (λ one. keep one.0) es) r) a ∙ rest
      by false true k a rest =
          rest ∙ cond-false (keep r) (look es r) None (same-keep a ∙ k) ∙ sym (cond-false (keep r) (Some e.1) None (same-keep a ∙ k))
      by false false k a rest = rest

  kept-listed : (rows : Rows) → listed (filter (λ row. keep row.0) rows) ≡ filter (λ e. keep e.0) (listed rows)
  kept-listed [] = refl
  kept-listed (row ∷ rows) = by (keep row.0) (kept-listed rows)
    where
      by : (here : Bool) → listed (filter (λ one. keep one.0) rows) ≡ filter (λ e. keep e.0) (listed rows)
          → listed (cond here (row ∷ filter (λ one. keep one.0) rows) (filter (λ one. keep one.0) rows))
          ≡ cond here ((row.0, bytes_of row.1) ∷ filter (λ e. keep e.0) (listed rows)) (filter (λ e. keep e.0) (listed rows))
      by true rest = ap (λ (all : Found). (row.0, bytes_of row.1) ∷ all) rest
      by false rest = rest

  kept-found : (version : ℕ) (blank : List ℕ) (chains : Chains)
      → found_at version blank (filter (λ chain. keep chain.0.1) chains) ≡ filter (λ e. keep e.0) (found_at version blank chains)
  kept-found version blank [] = refl
  kept-found version blank (chain ∷ chains) =
      by (keep chain.0.1) (bytes_at version chain.1) refl refl (kept-found version blank chains)
    where
      by : (here : Bool) (bytes : Option (List ℕ)) → keep chain.0.1 ≡ here → bytes_at version chain.1 ≡ bytes
          → found_at version blank (filter (λ one. keep one.0.1) chains) ≡ filter (λ e. keep e.0) (found_at version blank chains)
          → found_at version blank (cond here (chain ∷ filter (λ one. keep one.0.1) chains) (filter (λ one. keep one.0.1) chains))
          ≡ filter (λ e. keep e.0) (found blank chain.0.1 bytes ++ found_at version blank chains)
      by true None k b rest = ap (λ (own : Option (List ℕ)). found blank chain.0.1 own
          ++ found_at version blank (filter (λ one. keep one.0.1) chains)) b ∙ rest
      by true (Some bytes) k b rest = ap (λ (own : Option (List ℕ)). found blank chain.0.1 own
          ++ found_at version blank (filter (λ one. keep one.0.1) chains)) b
          ∙ ap (λ (all : Found). (chain.0.1, wide blank bytes) ∷ all) rest
          ∙ sym (cond-true (keep chain.0.1) ((chain.0.1, wide blank bytes) ∷ filter (λ e. keep e.0) (found_at version blank chains))
          (filter (λ e. keep e.0) (found_at version blank chains)) k)
      by false None k b rest = rest
      by false (Some bytes) k b rest = rest
          ∙ sym (cond-false (keep chain.0.1) ((chain.0.1, wide blank bytes) ∷ filter (λ e. keep e.0) (found_at version blank chains))
          (filter (λ e. keep e.0) (found_at version blank chains)) k)

-- so the inserts of what is found of some rows are those of these rows of the table
pub rows-found : (law : RowsHaveBytes) (rise : VersionsRise) (back : BytesAreBack) (shape : Shape) (commits : List Commit) (chains : Chains)
    (version table from : ℕ) (next : Option ℕ) (blank : List ℕ) → is_ok (apply_commits (opening shape) commits) ≡ true
    → HaveValues commits → AreChains shape commits chains → IsStrictlySortedBy key_cmp (keys_of chains)
    → blank ≡ blank_after_commits table (blank_in shape table) (take version commits)
    → AllByRecursion (λ row. AreBytes row.1) (found_at version blank (chains_within table from next chains))
    → inserts_of table (found_at version blank (chains_within table from next chains))
    ≡ rows_image table (filter (λ row. is_within from next row.0) (rows_of (tables_after shape commits version) table))
rows-found law rise back shape commits chains version table from next blank legal valued kept sorted is are =
    let tables = tables_after shape commits version in
    let rows = rows_of tables table in
    let rising = sorted-rising chains sorted in
    let keep : ℕ → Bool = is_within from next in
    let all : Found = found_in version table blank chains in
    let parts : found_at version blank (chains_within table from next chains) ≡ filter (λ e. keep e.0) all =
    kept-found keep version blank (chains_of table chains) in
    let own : (r : ℕ) → keep r ≡ true → look all r ≡ look (listed rows) r =
    λ r here.
    let bytes = bytes_at version (links_at chains table r) in
    let there = found-there version table blank chains r rising in
    let told : IsTold (kinds_of tables table) blank (row_at rows r) bytes =
    subst (λ (front : List ℕ). IsTold (kinds_of tables table) front (row_at rows r) bytes) (sym is)
    (row-kept law shape commits chains version table r legal valued kept) in
    let some : IfSome (look all r) AreBytes =
    subst (λ (row : Option (List ℕ)). IfSome row AreBytes)
    (kept-look keep all r ∙ cond-true (keep r) (look all r) None here)
    (found-bytes (filter (λ e. keep e.0) all) r (subst (AllByRecursion (λ row. AreBytes row.1)) parts are)) in
    there
    ∙ sym (told-back back (kinds_of tables table) blank (row_at rows r) bytes told
    (subst (λ (row : Option (List ℕ)). IfSome row AreBytes) there some))
    ∙ sym (listed-found rows r) in
    let alike : (r : ℕ) → look (filter (λ e. keep e.0) all) r ≡ look (filter (λ e. keep e.0) (listed rows)) r =
    λ r. kept-look keep all r ∙ by-keep (keep r) (look all r) (look (listed rows) r) (own r) ∙ sym (kept-look keep (listed rows) r) in
    ap (inserts_of table) (parts
    ∙ same (filter (λ e. keep e.0) all) (filter (λ e. keep e.0) (listed rows))
    (kept-up keep all (found-up version table blank chains rising))
    (kept-up keep (listed rows) (listed-up rows (rise shape commits version table))) alike
    ∙ sym (kept-listed keep rows))
    ∙ listed-inserts table (filter (λ row. keep row.0) rows)
  where
    by-keep : (here : Bool) (one other : Option (List ℕ)) → (here ≡ true → one ≡ other) → cond here one None ≡ cond here other None
    by-keep true one other is = is refl
    by-keep false one other is = refl
