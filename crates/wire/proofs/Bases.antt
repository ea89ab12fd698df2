-- The base that a Head may have: its test, and what the test tells.
use Rattle.std.proofs.Common.{◌≡◌, ℕ, ◌≤◌, ◌↔◌, Bool, true, false, cond, eqb, not, ◌&&◌, List, [], ◌∷◌, nat_le, refl, sym, ap, ◌∙◌}
use Rattle.std.specs.Cmp.Lexicographic.{pointwise}
use Rattle.std.specs.List.{list_all, AllByRecursion}
use Rattle.std.proofs.lemmas.Bool.{and_parts, and_from, eqb-true, eq-eqb, leb-true, le-leb, true≢false}
use Rattle.wire.specs.declared.head.Head as heads
use Rattle.wire.specs.Reading.{has_base}
use Rattle.wire.specs.Spelling.{AreMarks}

-- ---- counts that are all 0

abbrev are_zero : List ℕ → Bool
are_zero lows = list_all (λ low. eqb low 0) lows

zero-each : (lows : List ℕ) → are_zero lows ≡ true → AllByRecursion (λ low. low ≡ 0) lows
zero-each [] h = tt
zero-each (low ∷ lows) h = let parts = and_parts (eqb low 0) (are_zero lows) h in (eqb-true low 0 parts.0, zero-each lows parts.1)

each-zero : (lows : List ℕ) → AllByRecursion (λ low. low ≡ 0) lows → are_zero lows ≡ true
each-zero [] zeros = refl
each-zero (low ∷ lows) zeros = and_from (eqb low 0) (are_zero lows) (eq-eqb low 0 zeros.0) (each-zero lows zeros.1)

-- ---- pieces exactly where there is a base, and no base counts where there is none

other-not : (n : ℕ) → eqb n 0 ≡ false → n ≡ 0 → ⊥
other-not n is e = true≢false (sym (eq-eqb n 0 e) ∙ is)

some-not : (n : ℕ) → not (eqb n 0) ≡ true → n ≡ 0 → ⊥
some-not n is e = true≢false (sym is ∙ ap not (eq-eqb n 0 e))

not-some : (n : ℕ) → (n ≡ 0 → ⊥) → not (eqb n 0) ≡ true
not-some n is = by (eqb n 0) refl
  where
    by : (b : Bool) → eqb n 0 ≡ b → not b ≡ true
    by true e = absurd (is (eqb-true n 0 e))
    by false e = refl

-- what holds of a base, its pieces and base counts
record GoTogether (base pieces : ℕ) (lows : List ℕ) : Type 0 where
  none : (base ≡ 0) ↔ (pieces ≡ 0)
  opening : base ≡ 0 → AllByRecursion (λ low. low ≡ 0) lows

abbrev go_together : ℕ → ℕ → List ℕ → Bool
go_together base pieces lows = cond (eqb base 0) (eqb pieces 0 && are_zero lows) (not (eqb pieces 0))

go-together : (base pieces : ℕ) (lows : List ℕ) → go_together base pieces lows ≡ true → GoTogether base pieces lows
go-together base pieces lows = by (eqb base 0) refl
  where
    by : (none : Bool) → eqb base 0 ≡ none → cond none (eqb pieces 0 && are_zero lows) (not (eqb pieces 0)) ≡ true
        → GoTogether base pieces lows
    by true is h =
        let parts = and_parts (eqb pieces 0) (are_zero lows) h in
        record { none = (λ e. eqb-true pieces 0 parts.0, λ e. eqb-true base 0 is); opening = λ e. zero-each lows parts.1 }
    by false is h = record {
      none = (λ e. absurd (other-not base is e), λ e. absurd (some-not pieces h e));
      opening = λ e. absurd (other-not base is e);
    }

together-go : (base pieces : ℕ) (lows : List ℕ) → GoTogether base pieces lows → go_together base pieces lows ≡ true
together-go base pieces lows go = by (eqb base 0) refl
  where
    by : (none : Bool) → eqb base 0 ≡ none → cond none (eqb pieces 0 && are_zero lows) (not (eqb pieces 0)) ≡ true
    by true is =
        let zero = eqb-true base 0 is in
        and_from (eqb pieces 0) (are_zero lows) (eq-eqb pieces 0 (go.none.0 zero)) (each-zero lows (go.opening zero))
    by false is = not-some pieces (λ e. other-not base is (go.none.1 e))

-- ---- the whole test

-- what it tells
pub record IsBased (head : heads.Head) : Type 0 where
  pub base_within : head.base ≤ head.version
  pub lows_within : pointwise nat_le head.lows head.counts ≡ true
  pub none : (head.base ≡ 0) ↔ (head.pieces ≡ 0)
  pub opening : head.base ≡ 0 → AllByRecursion (λ low. low ≡ 0) head.lows

pub is-based : (head : heads.Head) → has_base head ≡ true → IsBased head
is-based head h =
    let within = nat_le head.base head.version in
    let lows = pointwise nat_le head.lows head.counts in
    let both = and_parts (within && lows) (go_together head.base head.pieces head.lows) h in
    let parts = and_parts within lows both.0 in
    let go = go-together head.base head.pieces head.lows both.1 in
    record { base_within = leb-true head.base head.version parts.0; lows_within = parts.1; none = go.none; opening = go.opening }

pub has-base : (head : heads.Head) → AreMarks head.version head.base head.pieces head.lows head.counts → has_base head ≡ true
has-base head marks =
    let within = nat_le head.base head.version in
    let lows = pointwise nat_le head.lows head.counts in
    and_from (within && lows) (go_together head.base head.pieces head.lows)
    (and_from within lows (le-leb head.base head.version marks.base_within) marks.lows_within)
    (together-go head.base head.pieces head.lows (record { none = marks.none; opening = marks.opening }))
