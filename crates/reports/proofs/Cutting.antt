-- Where texts are cut, and words that are free of what parts words and lines.
use Rattle.std.proofs.Common.{◌≡◌, ℕ, zero, suc, ◌+◌, ◌-◌, ◌/◌, ◌%◌, ◌<◌, ◌==◌, Bool, true, false, cond, not, nat_lt}
use Rattle.std.proofs.Common.{List, [], ◌∷◌, ◌++◌, length, take, drop, map, position, Option, None, Some, MatchOption}
use Rattle.std.proofs.Common.{decimal, ℤ, pos, negsuc, refl, sym, ap, ◌∙◌, arith}
use Rattle.std.specs.Fmt.{signed_decimal, digit_glyph, digits, digits_onto}
use Rattle.std.specs.List.{position_or_len}
use Rattle.std.specs.Str.{bytes_eq}
use Rattle.std.proofs.lemmas.Bool.{eq-eqb, lt-ltb, ne_eqb}
use Rattle.std.proofs.lemmas.Bool.Decides.{nat_tests}
use Rattle.std.proofs.lemmas.List.{length-append, take_rest}
use Rattle.std.proofs.lemmas.Slice.Eq.{bytes_eq-Decides}
use Rattle.std.proofs.Math.Seq.{take-append_seam, drop-append_seam, drop-append-add}
use Rattle.rows.specs.Text.{hex_text, words_text}
use Rattle.rows.specs.declared.value.Value.TheVariants.{Int, Octets}
use Rattle.queries.specs.declared.field.Field.{Field}
use Rattle.queries.specs.declared.field.Field.TheVariants.{Stored, Number, Absent}
use Rattle.queries.specs.Report.{field_text}
use Rattle.reports.specs.Inner.Pieces.{IsFreeOf}

abbrev pub is_byte : ℕ → ℕ → Bool
is_byte byte other = other == byte

-- the first such byte comes after what is free of it
count-front : (byte : ℕ) (front back : List ℕ) → IsFreeOf byte front
    → position_or_len (is_byte byte) (front ++ byte ∷ back) ≡ length front
count-front byte [] back free =
    ap (λ (found : Bool). cond (not found) (1 + position_or_len (is_byte byte) back) 0) (eq-eqb byte byte refl)
count-front byte (x ∷ front) back free =
    let rest : position_or_len (is_byte byte) (front ++ byte ∷ back) ≡ length front = count-front byte front back free.1 in
    ap (λ (found : Bool). cond (not found) (1 + position_or_len (is_byte byte) (front ++ byte ∷ back)) 0) free.0
    ∙ (let one : 1 + position_or_len (is_byte byte) (front ++ byte ∷ back) ≡ suc (length front) = omega arith in one)

pub found-at : (byte : ℕ) (front back text : List ℕ) → IsFreeOf byte front → text ≡ front ++ byte ∷ back
    → position (is_byte byte) text ≡ Some (length front)
found-at byte front back text free is =
    let count = count-front byte front back free in
    let long = length-append front (byte ∷ back) in
    let within : length front < length (front ++ byte ∷ back) = omega arith in
    ap (position (is_byte byte)) is
    ∙ ap (λ (at : ℕ). cond (nat_lt at (length (front ++ byte ∷ back))) (Some at) None) count
    ∙ ap (λ (found : Bool). cond found (Some (length front)) None) (lt-ltb (length front) (length (front ++ byte ∷ back)) within)

pub not-missed : (byte : ℕ) (front back text : List ℕ) → IsFreeOf byte front → text ≡ front ++ byte ∷ back
    → None ≡ position (is_byte byte) text → ⊥
not-missed byte front back text free is none =
    let found = none ∙ found-at byte front back text free is in cc

-- the two parts of a text that is cut at such a byte
pub cut-parts : (byte : ℕ) (front back text : List ℕ) (end : ℕ) → IsFreeOf byte front → text ≡ front ++ byte ∷ back
    → Some end ≡ position (is_byte byte) text
    → (take end text ≡ front) × (take (length text - (end + 1)) (drop (end + 1) text) ≡ back)
cut-parts byte front back text end free is found =
    let same = found ∙ found-at byte front back text free is in
    let at : end ≡ length front = cc in (
      ap (λ (n : ℕ). take n text) at ∙ ap (take (length front)) is ∙ take-append_seam front (byte ∷ back),
      take_rest text (end + 1)
          ∙ ap (λ (n : ℕ). drop (n + 1) text) at
          ∙ ap (drop (length front + 1)) is
          ∙ drop-append-add front (byte ∷ back) 1,
    )

-- another way to read an answer that is there
pub there : {X : Type 0} (found : Option X) (P : Type 0) (Q R : X → Type 0) → MatchOption found P Q → (P → ⊥)
    → ((x : X) → Q x → R x) → MatchOption found ⊥ R
there None P Q R is none some = none is
there (Some x) P Q R is none some = some x is

-- what begins a text begins it
pub begins : (beginning back text : List ℕ) → text ≡ beginning ++ back
    → bytes_eq (take (length beginning) text) beginning ≡ false → ⊥
begins beginning back text is differs =
    let front : take (length beginning) text ≡ beginning = ap (take (length beginning)) is ∙ take-append_seam beginning back in
    let same = (bytes_eq-Decides (take (length beginning) text) beginning).1 front in
    let both = sym differs ∙ same in cc

pub behind-it : (beginning back text : List ℕ) → text ≡ beginning ++ back → drop (length beginning) text ≡ back
behind-it beginning back text is = ap (drop (length beginning)) is ∙ drop-append_seam beginning back

-- ---- no digit and no letter is a space or the end of a line

abbrev IsNot : ℕ → ℕ → Type 0
IsNot byte other = (other == byte) ≡ false

glyph-other : (byte digit : ℕ) → byte < 45 → IsNot byte (digit_glyph false digit)
glyph-other byte digit low = grind (arith, nat_tests)

onto-free : (byte fuel : ℕ) (n : ℕ) (behind : List ℕ) → byte < 45 → IsFreeOf byte behind
    → IsFreeOf byte (digits_onto fuel 10 false n behind)
onto-free byte zero n behind low free = free
onto-free byte (suc fuel) n behind low free =
    let digit = digit_glyph false (n % 10) in
    let also : IsFreeOf byte (digit ∷ behind) = (glyph-other byte (n % 10) low, free) in
    by (n / 10 == 0) (digit ∷ behind) (digits_onto fuel 10 false (n / 10) (digit ∷ behind)) also
    (onto-free byte fuel (n / 10) (digit ∷ behind) low also)
  where
    by : (last : Bool) (one more : List ℕ) → IsFreeOf byte one → IsFreeOf byte more → IsFreeOf byte (cond last one more)
    by true one more free also = free
    by false one more free also = also

pub decimal-free : (byte n : ℕ) → byte < 45 → IsFreeOf byte (decimal n)
unfolding digits
decimal-free byte n low = onto-free byte 64 n [] low tt

signed-free : (byte : ℕ) (z : ℤ) → byte < 45 → IsFreeOf byte (signed_decimal z)
signed-free byte (pos n) low = decimal-free byte n low
signed-free byte (negsuc n) low = (ne_eqb 45 byte (λ same. omega arith), decimal-free byte (suc n) low)

hex-free : (byte : ℕ) (bytes : List ℕ) → byte < 45 → IsFreeOf byte (hex_text bytes)
hex-free byte [] low = tt
hex-free byte (x ∷ bytes) low = (glyph-other byte (x / 16) low, (glyph-other byte (x % 16) low, hex-free byte bytes low))

pub field-free : (byte : ℕ) (field : Field) → byte < 45 → IsFreeOf byte (field_text field)
field-free byte (Stored (Int z)) low = signed-free byte z low
field-free byte (Stored (Octets bytes)) low = (ne_eqb 120 byte (λ same. omega arith), hex-free byte bytes low)
field-free byte (Number z) low = signed-free byte z low
field-free byte Absent low = (ne_eqb 45 byte (λ same. omega arith), tt)

free-both : (byte : ℕ) (front back : List ℕ) → IsFreeOf byte front → IsFreeOf byte back → IsFreeOf byte (front ++ back)
free-both byte [] back free also = also
free-both byte (x ∷ front) back free also = (free.0, free-both byte front back free.1 also)

-- no line has the end of a line
pub line-free : (fields : List Field) → IsFreeOf 10 (words_text (map field_text fields))
line-free [] = tt
line-free (field ∷ []) = field-free 10 field (omega arith)
line-free (field ∷ next ∷ fields) =
    free-both 10 (field_text field) (32 ∷ words_text (map field_text (next ∷ fields))) (field-free 10 field (omega arith))
    (refl, line-free (next ∷ fields))
