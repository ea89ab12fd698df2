-- What words stand for: numbers, bytes, values and tables.
use Rattle.std.specs.Prelude.{ℕ, suc, zero, ◌^◌, ◌*◌, ◌+◌, ◌-◌, List, [], ◌∷◌, length, drop, nat_lt, nat_le}
use Rattle.std.specs.Prelude.{◌==◌, ◌&&◌}
use Rattle.std.specs.Prelude.{Option, None, Some, Result, Ok, Err, ℤ, pos, negsuc, if◌then◌else◌, slice_index, codes, decimal}
use Rattle.std.specs.Str.{bytes_eq}
use Rattle.std.specs.Str.Parse.{digits_value}
use Rattle.rows.specs.declared.kind.Kind.{Kind}
use Rattle.rows.specs.declared.value.Value.{Value}
use Rattle.rows.specs.declared.value.Value.TheVariants.{Int, Octets}
use Rattle.rows.specs.Limits.{octets_max}
use Rattle.script.specs.declared.faults.Reason.{Reason}
use Rattle.script.specs.declared.faults.Reason.TheVariants.{BadWords, NoTable}
use Rattle.script.specs.Text.{is_name}
use Rattle.script.specs.Tables.{table_called}

-- the number that a word is in decimal
unfoldable pub number_of : List ℕ → Option ℕ
number_of word =
    let value = digits_value 10 word in
    if nat_lt value (2 ^ 64) && bytes_eq (decimal value) word then Some value else None

-- a number below a limit
abbrev pub under : ℕ → Option ℕ → Option ℕ
under limit None = None
under limit (Some number) = if nat_lt number limit then Some number else None

-- the number below a limit that a word is
unfoldable pub below_of : ℕ → List ℕ → Option ℕ
below_of limit word = under limit (number_of word)

-- a number of 64 bits from how far it is from 0, on either side
abbrev pub negative : Option ℕ → Option ℤ
negative None = None
negative (Some zero) = None
negative (Some (suc number)) = if nat_lt number (2 ^ 63) then Some (negsuc number) else None

abbrev pub positive : Option ℕ → Option ℤ
positive None = None
positive (Some number) = if nat_lt number (2 ^ 63) then Some (pos number) else None

-- the number of 64 bits that a word is, `-` before what is below 0
unfoldable pub int_of : List ℕ → Option ℤ
int_of word = if slice_index word 0 == 45 then negative (number_of (drop 1 word)) else positive (number_of word)

-- what two parts make, where both are there
abbrev pub both : {A B C : Type 0} → Option A → Option B → (A → B → C) → Option C
both None second make = None
both (Some first) None make = None
both (Some first) (Some second) make = Some (make first second)

abbrev pub two : {A B : Type 0} → Option A → Option B → Option (A × B)
two None second = None
two (Some first) None = None
two (Some first) (Some second) = Some (first, second)

-- what a digit of hexadecimal stands for
abbrev pub digit_of : ℕ → Option ℕ
digit_of byte =
    if nat_le 48 byte && nat_le byte 57 then Some (byte - 48) else
    if nat_le 97 byte && nat_le byte 102 then Some (byte - 87) else None

-- the byte of two digits
unfoldable pub byte_of : ℕ → ℕ → Option ℕ
byte_of high low = both (digit_of high) (digit_of low) (λ first second. first * 16 + second)

-- the bytes of pairs of digits
abbrev pub bytes_of_digits : List ℕ → Option (List ℕ)
bytes_of_digits [] = Some []
bytes_of_digits (high ∷ []) = None
bytes_of_digits (high ∷ low ∷ digits) = both (byte_of high low) (bytes_of_digits digits) (λ byte bytes. byte ∷ bytes)

-- the bytes that a word is by itself: `-`, or pairs of digits
unfoldable pub hex_of : List ℕ → Option (List ℕ)
hex_of [] = None
hex_of (first ∷ rest) = if bytes_eq (first ∷ rest) (codes "-") then Some [] else bytes_of_digits (first ∷ rest)

-- 1 to 64 bytes
abbrev pub of_octets_size : Option (List ℕ) → Option (List ℕ)
of_octets_size None = None
of_octets_size (Some bytes) = if nat_lt 0 (length bytes) && nat_le (length bytes) octets_max then Some bytes else None

unfoldable pub octets_of : List ℕ → Option (List ℕ)
octets_of digits = of_octets_size (bytes_of_digits digits)

abbrev pub made : {A B : Type 0} → (A → B) → Option A → Option B
made make None = None
made make (Some part) = Some (make part)

-- the value that a word is
unfoldable pub value_of : List ℕ → Option Value
value_of word = if slice_index word 0 == 120 then made Octets (octets_of (drop 1 word)) else made Int (int_of word)

-- the values that words are
abbrev pub values_in_words : List (List ℕ) → Option (List Value)
values_in_words [] = Some []
values_in_words (word ∷ words) = both (value_of word) (values_in_words words) (λ value values. value ∷ values)

-- the number of a table, by the word that names it
abbrev pub or_no_table : Option ℕ → Result ℕ Reason
or_no_table None = Err NoTable
or_no_table (Some table) = Ok table

unfoldable pub table_of : List (List ℕ × List Kind) → List ℕ → Result ℕ Reason
table_of schema name = if is_name name then or_no_table (table_called schema name) else Err BadWords
