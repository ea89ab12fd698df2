-- The steps keep the rule.
use Rattle.std.proofs.Common.{◌≡◌, refl, ap, sym, ◌∙◌, subst, arith, ℕ, zero, suc, ◌+◌, ◌<◌, ◌≤◌, ◌==◌, Bool, true, false}
use Rattle.std.proofs.Common.{◌⊎◌, ⊎_elim, inl, inr, List, [], ◌∷◌, ◌++◌, length, length-append, None, Some, slice_get, slice_set}
use Rattle.std.proofs.lemmas.List.{append-nil}
use Rattle.std.proofs.lemmas.Bool.Decides.{nat_tests}
use mathlib.Core.List.{IsPrefix}
use prog.Atomic.{either}
use Rattle.logbook.specs.Pages.{Cell, cell, keeps, gives, adds, Nib, no_nib, may_write, step, Moves, Goes, Away}
use Rattle.history.specs.declared.stamp.Stamp.{Stamp}
use Rattle.history.specs.Inner.Rule.{IsHome, IsHistory, last_key}
use Rattle.history.specs.Inner.Steps.{MakesPen, Begins, Adds, Checks}
use Rattle.history.proofs.Beginnings.{prefix_whole, prefix_get}
use Rattle.history.proofs.Cells.{home_set, home_here, home_longer, set_length, number_here, number_longer, number_else}
use Rattle.history.proofs.Stamps.{last_has_key, last_stamp, get_snoc}

abbrev pub shown : List Stamp → List Stamp
shown log = []

abbrev pub moved : List Stamp → List Stamp → ℕ → Type 0
moved xs ys n = Unit {0}

-- who has the pen of the last stamp has seen all
whole : (cs : List Cell) (log v : List Stamp) (p : Nib) → IsHistory cs log → IsPrefix v log → Away p cs → p.right ≡ may_write
    → p.key ≡ last_key v → 0 < length v → length log ≤ length v
whole cs log v p kept pre away right key some =
    let e = last_stamp v some in
    let at : slice_get log e.0 ≡ Some e.1 = prefix_get v log e.0 e.1 pre e.3 in
    let gone : (cell cs p.key).1 ≡ false = (away right).1 in
    let home : suc e.0 < length log → IsHome cs p.key = λ more. subst (λ k. IsHome cs k) (e.4 ∙ sym key) (kept.spent e.0 e.1 more at) in
    let never : suc e.0 < length log → ⊥ = λ more. cc (sym gone ∙ home more) in
    not_less (suc e.0) (length log) (length v) e.2 never
  where
    not_less : (i n m : ℕ) → m ≡ i → (i < n → ⊥) → n ≤ m
    not_less i n m is never = grind (arith, is, never)

same_number : (n : ℕ) → either (n == 1) 1 n ≡ n
same_number n = by_test n (n == 1) refl
  where
    by_test : (n : ℕ) (b : Bool) → (n == 1) ≡ b → either b 1 n ≡ n
    by_test n true is = grind (arith, nat_tests)
    by_test n false is = refl

-- a step that makes a pen
pub makes_moves : (v : List Stamp) (e : Stamp)
    → Moves IsHistory shown moved 0 (v, (no_nib, None)) (λ n. either (n == 1) 1 n) (MakesPen (step 0 1 1 e) (v, (no_nib, None)))
makes_moves v e cs log kept pre away =
    let n = (cell cs 0).0 in
    let n' = either (n == 1) 1 n in
    let same : n' ≡ n = same_number n in
    let after : List Cell = slice_set cs 0 (n', true) in
    let long : 0 < length after = omega (arith, set_length cs 0 (n', true), kept.some) in
    let all : log ++ [] ≡ log = append-nil log in (
      kept.some,
      kept.head,
      (
        adds,
        [],
        None,
        tt,
        subst (IsHistory (after ++ (0, false) ∷ [])) (sym all) record {
          some = omega (arith, length-append after ((0, false) ∷ []));
          head = home_longer after (0, false) 0 (home_set cs 0 n' 0 kept.head);
          begun = λ some. number_longer after (0, false) long ∙ (number_here cs n' kept.some ∙ (same ∙ kept.begun some));
          spent = λ i f less at. home_longer after (0, false) f.next (home_set cs 0 n' f.next (kept.spent i f less at));
        },
        inl (refl, refl),
        refl,
      ),
    )

-- the step that adds the first stamp
begins_goes : (cs : List Cell) (log : List Stamp) (e : Stamp) → IsHistory cs log → (b : Bool) → ((cell cs 0).0 == 0) ≡ b
    → Goes IsHistory shown moved 0 ([], (no_nib, None)) (λ n. either (n == 0) 1 n) (Begins (step 0 0 1 e) ([], (no_nib, None))) cs log
begins_goes cs log e kept true is =
    let zero_there : (cell cs 0).0 ≡ 0 = grind (arith, nat_tests) in
    let empty : log ≡ [] = none_there log (λ some. absurd (omega (arith, zero_there, kept.begun some))) in
    let after : List Cell = slice_set cs 0 (either ((cell cs 0).0 == 0) 1 (cell cs 0).0, true) in (
      keeps,
      e ∷ [],
      None,
      tt,
      rw empty record {
        some = omega (arith, set_length cs 0 (either ((cell cs 0).0 == 0) 1 (cell cs 0).0, true), kept.some);
        head = home_set cs 0 _ 0 kept.head;
        begun = λ some. number_here cs _ kept.some ∙ ap (λ b. either b 1 (cell cs 0).0) is;
        spent = λ i f less at. absurd (omega arith);
      },
      inl (refl, refl),
      λ found. ap (λ l. l ++ e ∷ []) empty,
    )
  where
    none_there : (log : List Stamp) → (0 < length log → ⊥) → log ≡ []
    none_there [] never = refl
    none_there (x ∷ log) never = absurd (never (omega arith))
begins_goes cs log e kept false is =
    let n = (cell cs 0).0 in
    let same : either (n == 0) 1 n ≡ n = ap (λ b. either b 1 n) is in
    let all : log ++ [] ≡ log = append-nil log in (
      keeps,
      [],
      None,
      tt,
      subst (IsHistory (slice_set cs 0 (either (n == 0) 1 n, true))) (sym all) record {
        some = omega (arith, set_length cs 0 (either (n == 0) 1 n, true), kept.some);
        head = home_set cs 0 _ 0 kept.head;
        begun = λ some. number_here cs _ kept.some ∙ (same ∙ kept.begun some);
        spent = λ i f less at. home_set cs 0 _ f.next (kept.spent i f less at);
      },
      inl (refl, refl),
      λ found. absurd (cc (sym is ∙ ap (λ m. m == 0) found)),
    )

pub begins_moves : (e : Stamp)
    → Moves IsHistory shown moved 0 ([], (no_nib, None)) (λ n. either (n == 0) 1 n) (Begins (step 0 0 1 e) ([], (no_nib, None)))
begins_moves e cs log kept pre away = (kept.some, kept.head, begins_goes cs log e kept ((cell cs 0).0 == 0) refl)

positive : (k : ℕ) → (k ≡ 0 → ⊥) → 0 < k
positive zero never = absurd (never refl)
positive (suc k) never = omega arith

less_or_last : (i n : ℕ) → i < n → (suc i < n) ⊎ (n ≡ suc i)
less_or_last zero zero h = absurd (omega arith)
less_or_last zero (suc zero) h = inr refl
less_or_last zero (suc (suc n)) h = inl (omega arith)
less_or_last (suc i) zero h = absurd (omega arith)
less_or_last (suc i) (suc n) h =
    ⊎_elim (λ (l : suc i < n). inl (omega arith)) (λ (s : n ≡ suc i). inr (ap suc s)) (less_or_last i n (omega arith))

-- the pens that stamps name are used up once the last one is
spent_by : (cs : List Cell) (log : List Stamp) (k m n i : ℕ) (f : Stamp) → i < length log → slice_get log i ≡ Some f
    → k ≡ last_key log → k < length (slice_set cs 0 (n, true))
    → (suc i < length log → slice_get log i ≡ Some f → IsHome cs f.next)
    → IsHome (slice_set (slice_set cs 0 (n, true)) k (m, true)) f.next
spent_by cs log k m n i f there was is inside old =
    let mid : List Cell = slice_set cs 0 (n, true) in
    let earlier : suc i < length log → IsHome (slice_set mid k (m, true)) f.next =
    λ less. home_set mid k m f.next (home_set cs 0 n f.next (old less was)) in
    let last : length log ≡ suc i → IsHome (slice_set mid k (m, true)) f.next =
    λ last. subst (IsHome (slice_set mid k (m, true))) (is ∙ sym (last_has_key log i f last was)) (home_here mid k m inside) in
    ⊎_elim earlier last (less_or_last i (length log) there)

-- the step that adds a stamp, by who has the pen
pub adds_moves : (v : List Stamp) (e : Stamp) (p : Nib) → p.right ≡ may_write → p.key ≡ last_key v → 0 < length v
    → Moves IsHistory shown moved 0 (v, (p, None)) (λ n. either (n == 1) 1 n) (Adds (step 0 1 1 e) (v, (p, None)))
adds_moves v e p right key some cs log kept pre away =
    let n = (cell cs 0).0 in
    let n' = either (n == 1) 1 n in
    let same : v ≡ log = prefix_whole v log pre (whole cs log v p kept pre away right key some) in
    let mid : List Cell = slice_set cs 0 (n', true) in
    let inside : p.key < length mid = omega (arith, set_length cs 0 (n', true), (away right).0) in
    let apart : p.key ≡ 0 → ⊥ = λ is. cc (sym (away right).1 ∙ subst (λ k. IsHome cs k) (sym is) kept.head) in
    let above : 0 < p.key = positive p.key apart in (
      kept.some,
      kept.head,
      (
        gives,
        e ∷ [],
        None,
        right,
        record {
          some = omega (arith, set_length mid p.key (p.value, true), set_length cs 0 (n', true), kept.some);
          head = home_set mid p.key p.value 0 (home_set cs 0 n' 0 kept.head);
          begun = λ _.
              let had : 0 < length log = subst (λ l. 0 < length l) same some in
              number_else mid p.key p.value above ∙ (number_here cs n' kept.some ∙ (same_number n ∙ kept.begun had));
          spent = λ i f less at.
              let there : i < length log = omega (arith, length-append log (e ∷ [])) in
              let was : slice_get log i ≡ Some f = get_snoc log e f i there at in
              spent_by cs log p.key p.value n' i f there was (key ∙ ap last_key same) inside (kept.spent i f);
        },
        inl (refl, refl),
        ap (λ l. l ++ e ∷ []) (sym same),
      ),
    )

-- a step that changes nothing
pub checks_moves : (v : List Stamp) (e : Stamp) (p : Nib) → p.right ≡ may_write
    → Moves IsHistory shown moved 0 (v, (p, None)) (λ n. either (n == 1) 1 n) (Checks (step 0 1 1 e) (v, (p, None)))
checks_moves v e p right cs log kept pre away =
    let n = (cell cs 0).0 in
    let n' = either (n == 1) 1 n in
    let all : log ++ [] ≡ log = append-nil log in (
      kept.some,
      kept.head,
      (
        keeps,
        [],
        None,
        tt,
        subst (IsHistory (slice_set cs 0 (n', true))) (sym all) record {
          some = omega (arith, set_length cs 0 (n', true), kept.some);
          head = home_set cs 0 n' 0 kept.head;
          begun = λ some. number_here cs n' kept.some ∙ (same_number n ∙ kept.begun some);
          spent = λ i f less at. home_set cs 0 n' f.next (kept.spent i f less at);
        },
        inl (refl, refl),
        (
          refl,
          λ part front key some.
              let begins : IsPrefix part log = subst (λ l. IsPrefix part l) all front in
              subst (λ l. length l ≤ length part) (sym all) (whole cs log part p kept begins away right key some),
        ),
      ),
    )
