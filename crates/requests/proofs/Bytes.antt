-- Bytes before the end of a line.
use Rattle.std.proofs.Common.{◌≡◌, ℕ, ◌+◌, ◌<◌, ◌≤◌, ◌==◌, Bool, true, false, cond, nat_lt, List, [], ◌∷◌, length, take, drop, get_or, suc}
use Rattle.std.proofs.Common.{None, Some, position, refl, sym, ap, ◌∙◌, arith}
use Rattle.std.specs.List.{list_all, position_or_len, before_first, take_while}
use Rattle.std.proofs.lemmas.Bool.{ltb-true, ltb-false, and_from, eqb-true}
use Rattle.std.proofs.lemmas.Option.{cond_some}
use Rattle.std.proofs.lemmas.List.{take_all, take-append-drop, length-drop, get_or-drop}
use Rattle.std.proofs.lemmas.List.Folds.{list_all-append}
use Rattle.std.proofs.lemmas.List.Sums.{take_while-cons}
use Rattle.std.proofs.lemmas.List.Quantifiers.{position-Some}
use Rattle.std.proofs.Math.Seq.{take-add, drop-cons}
use Rattle.requests.specs.Bytes.{is_inside}

abbrev pub ends_line : ℕ → Bool
ends_line byte = byte == 10

go_on : (inside : Bool) (byte : ℕ) (bytes : List ℕ) → is_inside byte ≡ inside → list_all is_inside (take_while is_inside bytes) ≡ true
    → list_all is_inside (cond inside (byte ∷ take_while is_inside bytes) []) ≡ true
go_on true byte bytes is rest = and_from _ _ is rest
go_on false byte bytes is rest = refl

-- no end of a line stands before the first one
inside-before : (bytes : List ℕ) → list_all is_inside (before_first ends_line bytes) ≡ true
inside-before [] = refl
inside-before (byte ∷ bytes) =
    ap (list_all is_inside) (take_while-cons is_inside byte bytes) ∙ go_on (is_inside byte) byte bytes refl (inside-before bytes)

not_found : (found : Bool) (at : ℕ) → None ≡ cond found (Some at) None → found ≡ false
not_found true at is = cc
not_found false at is = refl

-- if the first end of a line has this index, none is before it
pub inside-front : (bytes : List ℕ) (end : ℕ) → Some end ≡ position ends_line bytes
    → (end < length bytes) × (list_all is_inside (take end bytes) ≡ true)
inside-front bytes end is =
    let found = cond_some (nat_lt (position_or_len ends_line bytes) (length bytes)) (position_or_len ends_line bytes) end (sym is) in
    (rw (sym found.1) (ltb-true _ _ found.0), rw (sym found.1) (inside-before bytes))

-- if there is none, all bytes are inside
pub inside-all : (bytes : List ℕ) → None ≡ position ends_line bytes → list_all is_inside bytes ≡ true
inside-all bytes is =
    ap (λ (front : List ℕ). list_all is_inside front)
    (sym (take_all (position_or_len ends_line bytes) bytes (ltb-false _ _ (not_found _ (position_or_len ends_line bytes) is))))
    ∙ inside-before bytes

-- what has no end of a line among its first bytes and among those after them
pub inside-both : (bytes : List ℕ) (from more : ℕ) → list_all is_inside (take from bytes) ≡ true
    → list_all is_inside (take more (drop from bytes)) ≡ true → list_all is_inside (take (from + more) bytes) ≡ true
inside-both bytes from more is also =
    ap (list_all is_inside) (take-add from more bytes)
    ∙ list_all-append is_inside (take from bytes) (take more (drop from bytes))
    ∙ and_from _ _ is also

-- and the same where all of them were looked at
pub inside-rest : (bytes : List ℕ) (from : ℕ) → list_all is_inside (take from bytes) ≡ true
    → list_all is_inside (drop from bytes) ≡ true → list_all is_inside bytes ≡ true
inside-rest bytes from is also =
    ap (list_all is_inside) (sym (take-append-drop from bytes))
    ∙ list_all-append is_inside (take from bytes) (drop from bytes)
    ∙ and_from _ _ is also

-- the first end of a line is 0a
pub end-at : (bytes : List ℕ) (end : ℕ) → Some end ≡ position ends_line bytes → get_or bytes end 0 ≡ 10
end-at bytes end is = eqb-true _ _ (position-Some ends_line bytes end 0 (sym is)).1

-- the first end of a line comes after the bytes that were looked at
pub end-behind : (bytes : List ℕ) (from more : ℕ) → from ≤ length bytes → list_all is_inside (take from bytes) ≡ true
    → Some more ≡ position ends_line (drop from bytes)
    → (from + more < length bytes) × (list_all is_inside (take (from + more) bytes) ≡ true)
    × (drop (from + more) bytes ≡ 10 ∷ drop (from + more + 1) bytes)
end-behind bytes from more within is found =
    let front = inside-front (drop from bytes) more found in
    let below : from + more < length bytes = omega (arith, front.0, length-drop from bytes, within) in (
      below,
      inside-both bytes from more is front.1,
      drop-cons bytes (from + more) 0 below
          ∙ ap (λ (byte : ℕ). byte ∷ drop (suc (from + more)) bytes)
          (sym (get_or-drop from bytes more 0) ∙ end-at (drop from bytes) more found)
          ∙ ap (λ (at : ℕ). 10 ∷ drop at bytes) {x = suc (from + more)} {y = from + more + 1} (omega arith),
    )
