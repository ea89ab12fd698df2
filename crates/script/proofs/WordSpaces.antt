-- No word of a value, or of bytes, has a space.
use Rattle.std.proofs.Common.{ℕ, suc, ◌/◌, ◌%◌, ◌<◌, ◌^◌, false, List, [], ◌∷◌, map, ℤ, pos, negsuc, refl, arith}
use Rattle.std.proofs.Common.{FitsSigned, codes, decimal}
use Rattle.std.specs.Int.{w64}
use Rattle.std.specs.Fmt.{signed_decimal, digit_glyph}
use Rattle.std.specs.List.{AllByRecursion}
use Rattle.std.proofs.lemmas.Bool.Decides.{nat_tests}
use Rattle.std.proofs.lemmas.List.Elements.{All-nil, All-cons}
use Rattle.rows.specs.declared.value.Value.{Value}
use Rattle.rows.specs.declared.value.Value.TheVariants.{Int, Octets}
use Rattle.rows.specs.Spelling.{AreBytes}
use Rattle.rows.specs.Text.{value_text, hex_text}
use Rattle.script.specs.Values.{HasWord}
use Rattle.script.specs.EventText.{bytes_text}
use Rattle.script.proofs.Plain.{IsNoSpace, plain-by-test, decimal-plain}
use Rattle.script.proofs.WordSplitting.{IsPlain}

signed-plain : (z : ℤ) → FitsSigned w64 z → IsPlain (signed_decimal z)
signed-plain (pos n) fits =
    let small : n < 2 ^ 63 = fits.sfits in
    decimal-plain n (omega arith)
signed-plain (negsuc n) fits =
    let small : n < 2 ^ 63 = fits.sfits in
    All-cons IsNoSpace 45 (decimal (suc n)) refl (decimal-plain (suc n) (omega arith))

digit-plain : (digit : ℕ) → digit < 16 → IsNoSpace (digit_glyph false digit)
digit-plain digit small = grind (arith, nat_tests)

hex-plain : (bytes : List ℕ) → AreBytes bytes → IsPlain (hex_text bytes)
hex-plain [] are = All-nil IsNoSpace
hex-plain (byte ∷ bytes) are =
    let small : byte < 256 = are 0 in
    All-cons IsNoSpace (digit_glyph false (byte / 16)) (digit_glyph false (byte % 16) ∷ hex_text bytes)
    (digit-plain (byte / 16) (omega arith))
    (All-cons IsNoSpace (digit_glyph false (byte % 16)) (hex_text bytes) (digit-plain (byte % 16) (omega arith))
    (hex-plain bytes (λ i. are (suc i))))

pub bytes-plain : (bytes : List ℕ) → AreBytes bytes → IsPlain (bytes_text bytes)
bytes-plain [] are = plain-by-test (codes "-") refl
bytes-plain (byte ∷ bytes) are = hex-plain (byte ∷ bytes) are

pub value-plain : (value : Value) → HasWord value → IsPlain (value_text value)
value-plain (Int number) fits = signed-plain number fits
value-plain (Octets bytes) good = All-cons IsNoSpace 120 (hex_text bytes) refl (hex-plain bytes good.2)

pub values-plain : (values : List Value) → AllByRecursion HasWord values → AllByRecursion IsPlain (map value_text values)
values-plain [] good = tt
values-plain (value ∷ values) good = (value-plain value good.0, values-plain values good.1)
