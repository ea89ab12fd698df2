-- Bytes that are taken from the front of the input.
use Rattle.std.proofs.Common.{◌≡◌, ℕ, ◌+◌, ◌≤◌, length, take, drop, List, [], ◌∷◌, ◌++◌, Bool, true, false}
use Rattle.std.proofs.Common.{Option, None, Some, inl, inr, refl, sym, ap, ◌∙◌}
use Rattle.std.specs.Io.KnownBytes.{prepend_known, Consumes}
use Rattle.std.specs.List.{list_all}
use Rattle.std.proofs.lemmas.Bool.{and_from}
use Rattle.std.proofs.lemmas.List.{append_assoc, take-append-drop, length-take}
use Rattle.std.proofs.lemmas.List.Folds.{list_all-append}
use Rattle.std.proofs.Math.Nat.{min-eq_left}
use Rattle.requests.specs.Bytes.{is_inside}
use Rattle.requests.specs.Lines.{Skips}

-- nothing is taken
pub takes-nothing : (left : Option (List ℕ)) → Consumes left left []
takes-nothing None = tt
takes-nothing (Some bytes) = refl

-- bytes from the front of what was read
pub takes-front : (bytes front rest : List ℕ) (remaining : Option (List ℕ)) → bytes ≡ front ++ rest
    → Consumes (prepend_known bytes remaining) (prepend_known rest remaining) front
takes-front bytes front rest None is = tt
takes-front bytes front rest (Some more) is = ap (λ (read : List ℕ). read ++ more) is ∙ append_assoc front rest more

-- what is read is still to come
pub reads-more : (bytes more : List ℕ) (old new : Option (List ℕ)) → Consumes old new more
    → Consumes (prepend_known bytes old) (prepend_known (bytes ++ more) new) []
reads-more bytes more None new consumed = tt
reads-more bytes more (Some before) None consumed = absurd consumed
reads-more bytes more (Some before) (Some after) consumed =
    ap (λ (left : List ℕ). bytes ++ left) consumed ∙ sym (append_assoc bytes more after)

-- one after the other
pub takes-both : (old middle new : Option (List ℕ)) (front next : List ℕ) → Consumes old middle front → Consumes middle new next
    → Consumes old new (front ++ next)
takes-both None middle new front next one two = tt
takes-both (Some before) None new front next one two = absurd one
takes-both (Some before) (Some between) None front next one two = absurd two
takes-both (Some before) (Some between) (Some after) front next one two =
    one ∙ ap (λ (left : List ℕ). front ++ left) two ∙ sym (append_assoc front next after)

append_nil : (bytes : List ℕ) → bytes ++ [] ≡ bytes
append_nil [] = refl
append_nil (byte ∷ bytes) = ap (λ (rest : List ℕ). byte ∷ rest) (append_nil bytes)

pub takes-then-nothing : (old middle new : Option (List ℕ)) (front : List ℕ) → Consumes old middle front → Consumes middle new []
    → Consumes old new front
takes-then-nothing old middle new front one two = rw (sym (append_nil front)) (takes-both old middle new front [] one two)

-- a long line is skipped in steps
pub skips-both : (was cut now : Bool) (old middle new : Option (List ℕ)) → Skips was old cut middle → Skips cut middle now new
    → Skips was old now new
skips-both false false now old middle new one two = (two.0, takes-both old middle new [] [] one.1 two.1)
skips-both false true now old middle new one two = absurd (no one.0)
  where
    no : true ≡ false → ⊥
    no is = cc
skips-both true true now old middle new (front, inside, inl one) (next, inside-next, inl two) = (
  front ++ next,
  list_all-append is_inside front next ∙ and_from _ _ inside inside-next,
  inl (two.0, takes-both old middle new front next one.1 two.1),
)
skips-both true true now old middle new (front, inside, inl one) (next, inside-next, inr two) = (
  front ++ next,
  list_all-append is_inside front next ∙ and_from _ _ inside inside-next,
  inr (two.0, rw (append_assoc front next (10 ∷ [])) (takes-both old middle new front (next ++ 10 ∷ []) one.1 two.1)),
)
skips-both true true now old middle new (front, inside, inr one) two = absurd (no one.0)
  where
    no : true ≡ false → ⊥
    no is = cc
skips-both true false now old middle new (front, inside, inl one) two = absurd (no one.0)
  where
    no : false ≡ true → ⊥
    no is = cc
skips-both true false now old middle new (front, inside, inr one) two =
    (front, inside, inr (two.0, takes-then-nothing old middle new (front ++ 10 ∷ []) one.1 two.1))

-- what was read and what is read then make no difference to a line that is skipped
pub skips-then-nothing : (was cut : Bool) (old middle new : Option (List ℕ)) → Skips was old cut middle → Consumes middle new []
    → Skips was old cut new
skips-then-nothing false cut old middle new one two = (one.0, takes-both old middle new [] [] one.1 two)
skips-then-nothing true cut old middle new (front, inside, inl one) two =
    (front, inside, inl (one.0, takes-then-nothing old middle new front one.1 two))
skips-then-nothing true cut old middle new (front, inside, inr one) two =
    (front, inside, inr (one.0, takes-then-nothing old middle new (front ++ 10 ∷ []) one.1 two))

-- as many bytes as were read first
pub takes-first : (bytes front rest : List ℕ) (at : ℕ) (remaining : Option (List ℕ)) → front ≡ take at bytes → rest ≡ drop at bytes
    → Consumes (prepend_known bytes remaining) (prepend_known rest remaining) front
takes-first bytes front rest at remaining is-front is-rest =
    takes-front bytes front rest remaining (rw is-front (rw is-rest (sym (take-append-drop at bytes))))

-- a line and its end
pub takes-line : (bytes line rest : List ℕ) (len end_len : ℕ) (remaining : Option (List ℕ)) → line ≡ take len bytes
    → rest ≡ drop end_len (drop len bytes)
    → Consumes (prepend_known bytes remaining) (prepend_known rest remaining) (line ++ take end_len (drop len bytes))
takes-line bytes line rest len end_len remaining is-line is-rest =
    takes-front bytes (line ++ take end_len (drop len bytes)) rest remaining
    (rw is-line (rw is-rest (sym (append_assoc (take len bytes) (take end_len (drop len bytes)) (drop end_len (drop len bytes))
    ∙ ap (λ (left : List ℕ). take len bytes ++ left) (take-append-drop end_len (drop len bytes)) ∙ take-append-drop len bytes))))

pub length-front : (bytes front : List ℕ) (at : ℕ) → at ≤ length bytes → front ≡ take at bytes → length front ≡ at
length-front bytes front at within is = ap length is ∙ length-take at bytes ∙ min-eq_left within

-- the rest of a long line with its end
pub skips-to : (was now : Bool) (first bytes rest : List ℕ) (len : ℕ) (remaining : Option (List ℕ)) → was ≡ true → now ≡ false
    → bytes ≡ first → list_all is_inside (take len bytes) ≡ true → drop len bytes ≡ 10 ∷ drop (len + 1) bytes
    → rest ≡ drop 1 (drop len bytes) → Skips was (prepend_known first remaining) now (prepend_known rest remaining)
skips-to was now first bytes rest len remaining is-cut is-whole is inside ends is-rest =
    rw is-cut (rw (sym is) (
      take len bytes,
      inside,
      inr (
        is-whole,
        takes-front bytes (take len bytes ++ 10 ∷ []) rest remaining
            (sym (take-append-drop len bytes) ∙ ap (λ (left : List ℕ). take len bytes ++ left) ends
            ∙ sym (append_assoc (take len bytes) (10 ∷ []) (drop (len + 1) bytes))
            ∙ ap (λ (left : List ℕ). (take len bytes ++ 10 ∷ []) ++ left) (sym (is-rest ∙ ap (drop 1) ends))),
      ),
    ))

-- and all that has come of it
pub skips-all : (was now : Bool) (first bytes rest : List ℕ) (remaining : Option (List ℕ)) → was ≡ true → now ≡ true → bytes ≡ first
    → list_all is_inside bytes ≡ true → rest ≡ [] → Skips was (prepend_known first remaining) now (prepend_known rest remaining)
skips-all was now first bytes rest remaining is-cut still is inside none =
    rw is-cut (rw (sym is) (bytes, inside, inl (still, takes-front bytes bytes rest remaining (rw none (sym (append_nil bytes))))))
