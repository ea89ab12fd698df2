-- Parts that are read one behind the other: step by step, and from the words of each.
use Rattle.std.proofs.Common.{◌≡◌, ℕ, zero, suc, ◌≤◌, List, [], ◌∷◌, ◌++◌, length, Option, None, Some, refl, sym, ap, ◌∙◌, arith}
use Rattle.std.proofs.Common.{append_assoc, append-nil, length-append, ◌+◌, ◌<◌}
use Rattle.std.specs.List.{AllByRecursion, flat_map}
use Rattle.script.specs.Inner.PlanReading.{led, many, series}

-- what was read before, and more
abbrev pub onto : {A : Type 0} → List A → List A × List (List ℕ) → List A × List (List ℕ)
onto front more = (front ++ more.0, more.1)

pub series-none : {A : Type 0} (first : Option (A × List (List ℕ))) (next : List (List ℕ) → Option (A × List (List ℕ)))
    (words : List (List ℕ)) → first ≡ None → series first next words ≡ ([], words)
series-none first next words none = rw none refl

pub series-begun : {A : Type 0} (first : Option (A × List (List ℕ))) (next : List (List ℕ) → Option (A × List (List ℕ)))
    (words behind : List (List ℕ)) (part : A) (items : List A) (count : ℕ) → first ≡ Some (part, behind) → items ≡ part ∷ []
    → count ≡ length behind → series first next words ≡ onto items (many next count behind)
series-begun first next words behind part items count is begun all = rw is (rw begun (rw all refl))

pub many-step : {A : Type 0} (next : List (List ℕ) → Option (A × List (List ℕ))) (words behind : List (List ℕ)) (part : A)
    (front items : List A) (count rest : ℕ) → next words ≡ Some (part, behind) → items ≡ front ++ part ∷ [] → count ≡ suc rest
    → onto front (many next count words) ≡ onto items (many next rest behind)
many-step next words behind part front items count rest is more one =
    rw one (rw is (rw more (ap (λ (all : List _). (all, (many next rest behind).1))
    (sym (append_assoc front (part ∷ []) (many next rest behind).0)))))

pub many-stopped : {A : Type 0} (next : List (List ℕ) → Option (A × List (List ℕ))) (words : List (List ℕ)) (front : List A)
    (count : ℕ) → next words ≡ None → onto front (many next count words) ≡ (front, words)
many-stopped next words front zero none = ap (λ (all : List _). (all, words)) (append-nil front)
many-stopped next words front (suc count) none = rw none (ap (λ (all : List _). (all, words)) (append-nil front))

pub many-done : {A : Type 0} (next : List (List ℕ) → Option (A × List (List ℕ))) (words : List (List ℕ)) (front : List A)
    (count : ℕ) → count ≡ 0 → onto front (many next count words) ≡ (front, words)
many-done next words front count none = rw none (ap (λ (all : List _). (all, words)) (append-nil front))

-- what is read is spelled so
abbrev pub IsSpelt : {A : Type 0} → (A → Type 0) → (A → List (List ℕ)) → List A × List (List ℕ) → List (List ℕ) → Type 0
IsSpelt Good spell found words = AllByRecursion Good found.0 × (flat_map spell found.0 ++ found.1 ≡ words)

abbrev pub SpellsOne : {A : Type 0} → (A → Type 0) → (A → List (List ℕ)) → (List (List ℕ) → Option (A × List (List ℕ))) → Type 0
SpellsOne {A} Good spell next = (words : List (List ℕ)) (found : A × List (List ℕ)) → next words ≡ Some found
    → Good found.0 × (spell found.0 ++ found.1 ≡ words)

pub many-sound : {A : Type 0} (Good : A → Type 0) (spell : A → List (List ℕ)) (next : List (List ℕ) → Option (A × List (List ℕ)))
    → SpellsOne Good spell next → (count : ℕ) (words : List (List ℕ)) → IsSpelt Good spell (many next count words) words
many-sound Good spell next one zero words = (tt, refl)
many-sound {A} Good spell next one (suc count) words = by (next words) refl (many-sound Good spell next one count)
  where
    by : (found : Option (A × List (List ℕ))) → next words ≡ found
        → ((behind : List (List ℕ)) → IsSpelt Good spell (many next count behind) behind)
        → IsSpelt Good spell (led found (λ behind. many next count behind) words) words
    by None e others = (tt, refl)
    by (Some found) e others =
        let first = one words found e in
        let rest = others found.1 in
        let more = many next count found.1 in (
          (first.0, rest.0),
          append_assoc (spell found.0) (flat_map spell more.0) more.1
              ∙ ap (λ (words : List (List ℕ)). spell found.0 ++ words) rest.1 ∙ first.1,
        )

-- what is spelled so is read
abbrev pub ReadsOne : {A : Type 0} → (A → Type 0) → (A → List (List ℕ)) → (List (List ℕ) → Option (A × List (List ℕ))) → Type 0
ReadsOne {A} Good spell next = (part : A) (words : List (List ℕ)) → Good part → next (spell part ++ words) ≡ Some (part, words)

pub many-complete : {A : Type 0} (Good : A → Type 0) (spell : A → List (List ℕ)) (next : List (List ℕ) → Option (A × List (List ℕ)))
    → ReadsOne Good spell next → (items : List A) (count : ℕ) (words : List (List ℕ)) → length items ≤ count
    → AllByRecursion Good items → next words ≡ None → many next count (flat_map spell items ++ words) ≡ (items, words)
many-complete Good spell next one [] zero words few good none = refl
many-complete Good spell next one [] (suc count) words few good none = rw none refl
many-complete Good spell next one (item ∷ items) zero words few good none = absurd (omega arith)
many-complete Good spell next one (item ∷ items) (suc count) words few good none =
    rw (append_assoc (spell item) (flat_map spell items) words)
    (rw (one item (flat_map spell items ++ words) good.0)
    (rw (many-complete Good spell next one items count words (omega arith) good.1 none) refl))

-- a first part and others
abbrev pub led_words : {A : Type 0} → (A → List (List ℕ)) → (A → List (List ℕ)) → List A → List (List ℕ)
led_words opening spell [] = []
led_words opening spell (item ∷ items) = opening item ++ flat_map spell items

pub series-sound : {A : Type 0} (Good : A → Type 0) (opening spell : A → List (List ℕ)) (first : Option (A × List (List ℕ)))
    (next : List (List ℕ) → Option (A × List (List ℕ))) (words : List (List ℕ))
    → ((found : A × List (List ℕ)) → first ≡ Some found → Good found.0 × (opening found.0 ++ found.1 ≡ words))
    → SpellsOne Good spell next
    → AllByRecursion Good (series first next words).0
    × (led_words opening spell (series first next words).0 ++ (series first next words).1 ≡ words)
series-sound Good opening spell None next words one others = (tt, refl)
series-sound Good opening spell (Some found) next words one others =
    let p = one found refl in
    let rest = many-sound Good spell next others (length found.1) found.1 in
    let more = many next (length found.1) found.1 in (
      (p.0, rest.0),
      append_assoc (opening found.0) (flat_map spell more.0) more.1
          ∙ ap (λ (words : List (List ℕ)). opening found.0 ++ words) rest.1 ∙ p.1,
    )

-- parts have no more items than words
enough : {A : Type 0} (spell : A → List (List ℕ)) → ((part : A) → 0 < length (spell part)) → (items : List A) (words : List (List ℕ))
    → length items ≤ length (flat_map spell items ++ words)
enough spell some [] words = omega arith
enough spell some (item ∷ items) words =
    let rest = enough spell some items words in
    let one = some item in
    let count : length ((spell item ++ flat_map spell items) ++ words) ≡ length (spell item) + length (flat_map spell items ++ words) =
    ap length (append_assoc (spell item) (flat_map spell items) words)
    ∙ length-append (spell item) (flat_map spell items ++ words) in
    omega arith

pub series-complete : {A : Type 0} (Good : A → Type 0) (opening spell : A → List (List ℕ))
    (first next : List (List ℕ) → Option (A × List (List ℕ))) → ((part : A) → 0 < length (spell part))
    → ReadsOne Good opening first → ReadsOne Good spell next → (items : List A) (words : List (List ℕ)) → AllByRecursion Good items
    → first words ≡ None → next words ≡ None
    → series (first (led_words opening spell items ++ words)) next (led_words opening spell items ++ words) ≡ (items, words)
series-complete Good opening spell first next some one others [] words good none stop = rw none refl
series-complete Good opening spell first next some one others (item ∷ items) words good none stop =
    let behind = flat_map spell items ++ words in
    rw (append_assoc (opening item) (flat_map spell items) words)
    (rw (one item behind good.0)
    (rw (many-complete Good spell next others items (length behind) words (enough spell some items words) good.1 stop) refl))
