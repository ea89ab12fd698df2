-- Values of one width, side by side, when one is put in, taken out or replaced; and numbers alike.
use Rattle.std.proofs.Common.{◌≡◌, ℕ, zero, suc, ◌+◌, ◌-◌, ◌*◌, ◌<◌, ◌≤◌, ℤ, List, ◌∷◌, ◌++◌, length, take, drop, map, Some, refl, sym}
use Rattle.std.proofs.Common.{ap, subst, ◌∙◌}
use Rattle.std.proofs.Common.{slice_get, slice_set, replicate, arith}
use Rattle.std.specs.List.{insert, remove, repeat}
use Rattle.std.proofs.Math.Nat.{suc-mul, add-mul, mul-le-mul_right}
use Rattle.std.proofs.lemmas.List.{take-append-drop, take-take, drop-take, drop-drop, take_at, drop_at, set_split, map-append, take-map}
use Rattle.std.proofs.lemmas.List.{drop-map}
use Rattle.std.proofs.lemmas.List.{length-take-le, length-drop}
use Rattle.rows.specs.declared.value.Value.TheVariants as values
use Rattle.store.specs.Lent.{octets_in}

module _ (width : ℕ) where
  more : (at : ℕ) → suc at * width ≡ width + at * width
  more at = omega (arith, suc-mul at width)

  pub octets-take : (rows at : ℕ) (bytes : List ℕ) → at ≤ rows
      → take at (octets_in rows width bytes) ≡ octets_in at width (take (at * width) bytes)
  octets-take rows zero bytes h = refl
  octets-take zero (suc at) bytes h = absurd (omega arith)
  octets-take (suc rows) (suc at) bytes h =
      let front : take width (take (width + at * width) bytes) ≡ take width bytes =
      take-take width (width + at * width) bytes (omega arith) in
      let rest : drop width (take (width + at * width) bytes) ≡ take (at * width) (drop width bytes) = drop-take width (at * width) bytes in
      rw (more at, front, rest)
      (ap (λ others. values.Octets (take width bytes) ∷ others) (octets-take rows at (drop width bytes) (omega arith)))

  pub octets-drop : (rows at cut : ℕ) (bytes : List ℕ) → cut + at ≡ rows
      → drop at (octets_in rows width bytes) ≡ octets_in cut width (drop (at * width) bytes)
  octets-drop rows zero cut bytes h =
      let same : cut ≡ rows = omega arith in
      let none : zero * width ≡ 0 = omega arith in
      rw (none, same) refl
  octets-drop zero (suc at) cut bytes h = absurd (omega arith)
  octets-drop (suc rows) (suc at) cut bytes h =
      rw (more at) (octets-drop rows at cut (drop width bytes) (omega arith)
      ∙ ap (octets_in cut width) (drop-drop (at * width) width bytes))

  pub octets-split : (rows at cut : ℕ) (bytes : List ℕ) → cut + at ≡ rows
      → octets_in rows width bytes ≡ octets_in at width (take (at * width) bytes) ++ octets_in cut width (drop (at * width) bytes)
  octets-split rows at cut bytes h =
      sym (take-append-drop at (octets_in rows width bytes))
      ∙ ap (λ front. front ++ drop at (octets_in rows width bytes)) (octets-take rows at bytes (omega arith))
      ∙ ap (λ back. octets_in at width (take (at * width) bytes) ++ back) (octets-drop rows at cut bytes h)

  pub octets-length : (rows : ℕ) (bytes : List ℕ) → length (octets_in rows width bytes) ≡ rows
  octets-length zero bytes = refl
  octets-length (suc rows) bytes = ap suc (octets-length rows (drop width bytes))

  pub octets-join : (rows at cut : ℕ) (front back : List ℕ) → length front ≡ at * width → cut + at ≡ rows
      → octets_in rows width (front ++ back) ≡ octets_in at width front ++ octets_in cut width back
  octets-join rows at cut front back h e =
      let first = take_at front back (at * width) h in
      let last = drop_at front back (at * width) h in
      octets-split rows at cut (front ++ back) e ∙ rw (first, last) refl

  one-more : (rows : ℕ) (value bytes : List ℕ) → length value ≡ width
      → octets_in (suc rows) width (value ++ bytes) ≡ values.Octets value ∷ octets_in rows width bytes
  one-more rows value bytes h = rw (take_at value bytes width h, drop_at value bytes width h) refl

  pub octets-repeat : (rows : ℕ) (value : List ℕ) → length value ≡ width
      → octets_in rows width (repeat rows value) ≡ replicate rows (values.Octets value)
  octets-repeat zero value h = refl
  octets-repeat (suc rows) value h =
      one-more rows value (repeat rows value) h ∙ ap (λ rest. values.Octets value ∷ rest) (octets-repeat rows value h)

  few : (rows at : ℕ) (bytes : List ℕ) → length bytes ≡ rows * width → at ≤ rows → at * width ≤ length bytes
  few rows at bytes h le = subst (λ n. at * width ≤ n) (sym h) (mul-le-mul_right width le)

  pub within-bytes : (rows at : ℕ) (bytes : List ℕ) → length bytes ≡ rows * width → at ≤ rows
      → length (take (at * width) bytes) ≡ at * width
  within-bytes rows at bytes h le = length-take-le (at * width) bytes (few rows at bytes h le)

  pub octets-insert : (rows at all : ℕ) (bytes value : List ℕ) → length bytes ≡ rows * width → length value ≡ width
      → at ≤ rows → all ≡ suc rows
      → octets_in all width (take (at * width) bytes ++ (value ++ drop (at * width) bytes))
      ≡ insert (octets_in rows width bytes) at (values.Octets value)
  octets-insert rows at all bytes value whole wide le one =
      let cut = rows - at in
      let e : cut + at ≡ rows = omega arith in
      octets-join all at (suc cut) (take (at * width) bytes) (value ++ drop (at * width) bytes) (within-bytes rows at bytes whole le)
      (omega arith)
      ∙ ap (λ back. octets_in at width (take (at * width) bytes) ++ back) (one-more cut value (drop (at * width) bytes) wide)
      ∙ rw (octets-take rows at bytes le, octets-drop rows at cut bytes e) refl

  pub octets-remove : (rows at left : ℕ) (bytes : List ℕ) → length bytes ≡ rows * width → at < rows → left + 1 ≡ rows
      → octets_in left width (take (at * width) bytes ++ drop (at * width + width) bytes) ≡ remove (octets_in rows width bytes) at
  octets-remove rows at left bytes whole lt e =
      let cut = left - at in
      let next : at * width + width ≡ suc at * width = omega (arith, more at) in
      octets-join left at cut (take (at * width) bytes) (drop (at * width + width) bytes) (within-bytes rows at bytes whole (omega arith))
      (omega arith)
      ∙ rw (octets-take rows at bytes (omega arith), octets-drop rows (suc at) cut bytes (omega arith), next) refl

  pub octets-set : (rows at : ℕ) (bytes value : List ℕ) → length bytes ≡ rows * width → length value ≡ width → at < rows
      → octets_in rows width (take (at * width) bytes ++ (value ++ drop (at * width + width) bytes))
      ≡ slice_set (octets_in rows width bytes) at (values.Octets value)
  octets-set rows at bytes value whole wide lt =
      let cut = rows - suc at in
      let next : at * width + width ≡ suc at * width = omega (arith, more at) in
      let split = set_split (octets_in rows width bytes) at (values.Octets value) (rw (octets-length rows bytes) lt) in
      octets-join rows at (suc cut) (take (at * width) bytes) (value ++ drop (at * width + width) bytes)
      (within-bytes rows at bytes whole (omega arith)) (omega arith)
      ∙ ap (λ back. octets_in at width (take (at * width) bytes) ++ back) (one-more cut value (drop (at * width + width) bytes) wide)
      ∙ rw (split, octets-take rows at bytes (omega arith), octets-drop rows (suc at) cut bytes (omega arith), next) refl

  pub octets-get : (rows at : ℕ) (bytes : List ℕ) → at < rows
      → slice_get (octets_in rows width bytes) at ≡ Some (values.Octets (take width (drop (at * width) bytes)))
  octets-get zero at bytes lt = absurd (omega arith)
  octets-get (suc rows) zero bytes lt = let none : zero * width ≡ 0 = omega arith in rw none refl
  octets-get (suc rows) (suc at) bytes lt =
      octets-get rows at (drop width bytes) (omega arith)
      ∙ rw (more at) (ap (λ bytes. Some (values.Octets (take width bytes))) (drop-drop (at * width) width bytes))

  pub octets-left : (rows at cut : ℕ) (bytes : List ℕ) → length bytes ≡ rows * width → cut + at ≡ rows
      → length (drop (at * width) bytes) ≡ cut * width
  octets-left rows at cut bytes whole e =
      let all : rows * width ≡ cut * width + at * width = ap (λ n. n * width) (sym e) ∙ add-mul cut at width in
      omega (arith, length-drop (at * width) bytes, whole, all)

-- numbers alike
pub numbers-insert : (numbers : List ℤ) (at : ℕ) (number : ℤ)
    → map values.Int (insert numbers at number) ≡ insert (map values.Int numbers) at (values.Int number)
numbers-insert numbers at number =
    map-append values.Int (take at numbers) (number ∷ drop at numbers)
    ∙ rw (take-map values.Int at numbers, drop-map values.Int at numbers) refl

pub numbers-remove : (numbers : List ℤ) (at : ℕ) → map values.Int (remove numbers at) ≡ remove (map values.Int numbers) at
numbers-remove numbers at =
    map-append values.Int (take at numbers) (drop (suc at) numbers)
    ∙ rw (take-map values.Int at numbers, drop-map values.Int (suc at) numbers) refl
