-- So many words, by their places.
use Rattle.std.proofs.Common.{◌≡◌, ℕ, ◌<◌, ◌≤◌, List, [], ◌∷◌, length, map, drop, get_or, None, Some}
use Rattle.std.proofs.Common.{refl, arith}
use Rattle.std.specs.Borrow.{Bor}
use Rattle.script.specs.Inner.Reading.{one_of, two_of, three_of, four_of, five_of, three_and_more}

-- what words are
abbrev pub shown : List (Bor (List ℕ)) → List (List ℕ)
shown words = map (λ word. word.now) words

pub one-at : (words : List (Bor (List ℕ))) (d0 : Bor (List ℕ)) → length words ≡ 1
    → one_of (shown words) ≡ Some (get_or words 0 d0).now
unfolding one_of
one-at [] d0 h = absurd (omega arith)
one-at (x0 ∷ []) d0 h = refl
one-at (x0 ∷ x1 ∷ xs) d0 h = absurd (omega arith)

pub one-none : (words : List (Bor (List ℕ))) → (length words ≡ 1 → ⊥) → one_of (shown words) ≡ None
unfolding one_of
one-none [] h = refl
one-none (x0 ∷ []) h = absurd (h (omega arith))
one-none (x0 ∷ x1 ∷ xs) h = refl

pub two-at : (words : List (Bor (List ℕ))) (d0 d1 : Bor (List ℕ)) → length words ≡ 2
    → two_of (shown words) ≡ Some ((get_or words 0 d0).now, (get_or words 1 d1).now)
unfolding two_of
two-at [] d0 d1 h = absurd (omega arith)
two-at (x0 ∷ []) d0 d1 h = absurd (omega arith)
two-at (x0 ∷ x1 ∷ []) d0 d1 h = refl
two-at (x0 ∷ x1 ∷ x2 ∷ xs) d0 d1 h = absurd (omega arith)

pub two-none : (words : List (Bor (List ℕ))) → (length words ≡ 2 → ⊥) → two_of (shown words) ≡ None
unfolding two_of
two-none [] h = refl
two-none (x0 ∷ []) h = refl
two-none (x0 ∷ x1 ∷ []) h = absurd (h (omega arith))
two-none (x0 ∷ x1 ∷ x2 ∷ xs) h = refl

pub three-at : (words : List (Bor (List ℕ))) (d0 d1 d2 : Bor (List ℕ)) → length words ≡ 3
    → three_of (shown words) ≡ Some ((get_or words 0 d0).now, (get_or words 1 d1).now, (get_or words 2 d2).now)
unfolding three_of
three-at [] d0 d1 d2 h = absurd (omega arith)
three-at (x0 ∷ []) d0 d1 d2 h = absurd (omega arith)
three-at (x0 ∷ x1 ∷ []) d0 d1 d2 h = absurd (omega arith)
three-at (x0 ∷ x1 ∷ x2 ∷ []) d0 d1 d2 h = refl
three-at (x0 ∷ x1 ∷ x2 ∷ x3 ∷ xs) d0 d1 d2 h = absurd (omega arith)

pub three-none : (words : List (Bor (List ℕ))) → (length words ≡ 3 → ⊥) → three_of (shown words) ≡ None
unfolding three_of
three-none [] h = refl
three-none (x0 ∷ []) h = refl
three-none (x0 ∷ x1 ∷ []) h = refl
three-none (x0 ∷ x1 ∷ x2 ∷ []) h = absurd (h (omega arith))
three-none (x0 ∷ x1 ∷ x2 ∷ x3 ∷ xs) h = refl

pub four-at : (words : List (Bor (List ℕ))) (d0 d1 d2 d3 : Bor (List ℕ)) → length words ≡ 4
    → four_of (shown words) ≡ Some ((get_or words 0 d0).now, (get_or words 1 d1).now, (get_or words 2 d2).now, (get_or words 3 d3).now)
unfolding four_of
four-at [] d0 d1 d2 d3 h = absurd (omega arith)
four-at (x0 ∷ []) d0 d1 d2 d3 h = absurd (omega arith)
four-at (x0 ∷ x1 ∷ []) d0 d1 d2 d3 h = absurd (omega arith)
four-at (x0 ∷ x1 ∷ x2 ∷ []) d0 d1 d2 d3 h = absurd (omega arith)
four-at (x0 ∷ x1 ∷ x2 ∷ x3 ∷ []) d0 d1 d2 d3 h = refl
four-at (x0 ∷ x1 ∷ x2 ∷ x3 ∷ x4 ∷ xs) d0 d1 d2 d3 h = absurd (omega arith)

pub four-none : (words : List (Bor (List ℕ))) → (length words ≡ 4 → ⊥) → four_of (shown words) ≡ None
unfolding four_of
four-none [] h = refl
four-none (x0 ∷ []) h = refl
four-none (x0 ∷ x1 ∷ []) h = refl
four-none (x0 ∷ x1 ∷ x2 ∷ []) h = refl
four-none (x0 ∷ x1 ∷ x2 ∷ x3 ∷ []) h = absurd (h (omega arith))
four-none (x0 ∷ x1 ∷ x2 ∷ x3 ∷ x4 ∷ xs) h = refl

pub five-at : (words : List (Bor (List ℕ))) (d0 d1 d2 d3 d4 : Bor (List ℕ)) → length words ≡ 5
    → five_of (shown words) ≡ Some (
      (get_or words 0 d0).now,
      (get_or words 1 d1).now,
      (get_or words 2 d2).now,
      (get_or words 3 d3).now,
      (get_or words 4 d4).now,
    )
unfolding five_of
five-at [] d0 d1 d2 d3 d4 h = absurd (omega arith)
five-at (x0 ∷ []) d0 d1 d2 d3 d4 h = absurd (omega arith)
five-at (x0 ∷ x1 ∷ []) d0 d1 d2 d3 d4 h = absurd (omega arith)
five-at (x0 ∷ x1 ∷ x2 ∷ []) d0 d1 d2 d3 d4 h = absurd (omega arith)
five-at (x0 ∷ x1 ∷ x2 ∷ x3 ∷ []) d0 d1 d2 d3 d4 h = absurd (omega arith)
five-at (x0 ∷ x1 ∷ x2 ∷ x3 ∷ x4 ∷ []) d0 d1 d2 d3 d4 h = refl
five-at (x0 ∷ x1 ∷ x2 ∷ x3 ∷ x4 ∷ x5 ∷ xs) d0 d1 d2 d3 d4 h = absurd (omega arith)

pub five-none : (words : List (Bor (List ℕ))) → (length words ≡ 5 → ⊥) → five_of (shown words) ≡ None
unfolding five_of
five-none [] h = refl
five-none (x0 ∷ []) h = refl
five-none (x0 ∷ x1 ∷ []) h = refl
five-none (x0 ∷ x1 ∷ x2 ∷ []) h = refl
five-none (x0 ∷ x1 ∷ x2 ∷ x3 ∷ []) h = refl
five-none (x0 ∷ x1 ∷ x2 ∷ x3 ∷ x4 ∷ []) h = absurd (h (omega arith))
five-none (x0 ∷ x1 ∷ x2 ∷ x3 ∷ x4 ∷ x5 ∷ xs) h = refl

pub more-at : (words : List (Bor (List ℕ))) (d0 d1 d2 : Bor (List ℕ)) → 4 ≤ length words
    → three_and_more (shown words)
    ≡ Some ((get_or words 0 d0).now, (get_or words 1 d1).now, (get_or words 2 d2).now, shown (drop 3 words))
unfolding three_and_more
more-at [] d0 d1 d2 h = absurd (omega arith)
more-at (x0 ∷ []) d0 d1 d2 h = absurd (omega arith)
more-at (x0 ∷ x1 ∷ []) d0 d1 d2 h = absurd (omega arith)
more-at (x0 ∷ x1 ∷ x2 ∷ []) d0 d1 d2 h = absurd (omega arith)
more-at (x0 ∷ x1 ∷ x2 ∷ x3 ∷ xs) d0 d1 d2 h = refl

pub more-none : (words : List (Bor (List ℕ))) → length words < 4 → three_and_more (shown words) ≡ None
unfolding three_and_more
more-none [] h = refl
more-none (x0 ∷ []) h = refl
more-none (x0 ∷ x1 ∷ []) h = refl
more-none (x0 ∷ x1 ∷ x2 ∷ []) h = refl
more-none (x0 ∷ x1 ∷ x2 ∷ x3 ∷ xs) h = absurd (omega arith)
