-- How values are written, and lines of words. A number is written in decimal (`decimal`).
use Rattle.std.specs.Prelude.{ℕ, ◌/◌, ◌%◌, List, [], ◌∷◌, ◌++◌, false, codes}
use Rattle.std.specs.Fmt.{signed_decimal, digit_glyph}
use Rattle.std.specs.List.{flat_map, join_with_byte}
use Rattle.rows.specs.declared.value.Value.{Value}
use Rattle.rows.specs.declared.value.Value.TheVariants.{Int, Octets}

-- a byte in two digits of lower-case hexadecimal
abbrev pub byte_text : ℕ → List ℕ
byte_text byte = digit_glyph false (byte / 16) ∷ digit_glyph false (byte % 16) ∷ []

-- bytes in hexadecimal
abbrev pub hex_text : List ℕ → List ℕ
hex_text bytes = flat_map byte_text bytes

-- a value: a number in decimal; octets as `x` and their hexadecimal
abbrev pub value_text : Value → List ℕ
value_text (Int number) = signed_decimal number
value_text (Octets bytes) = codes "x" ++ hex_text bytes

-- words, which one space parts
abbrev pub words_text : List (List ℕ) → List ℕ
words_text words = join_with_byte 32 words

-- a line of words, with its end
abbrev pub line_text : List (List ℕ) → List ℕ
line_text words = words_text words ++ 10 ∷ []
