-- Which bytes are text, and which words are names.
use Rattle.std.specs.Prelude.{ℕ, List, [], ◌∷◌, length, Bool, false, nat_lt, nat_le, ◌==◌, ◌&&◌, ◌||◌}
use Rattle.std.specs.List.{list_all}

-- a byte of a line of text: 20 to 7e in hexadecimal
abbrev pub is_text_byte : ℕ → Bool
is_text_byte byte = nat_le 32 byte && nat_le byte 126

-- whether a line is text: each of its bytes is
abbrev pub is_text : List ℕ → Bool
is_text line = list_all is_text_byte line

-- bytes of a table's name, at most
abbrev pub name_len_max : ℕ
name_len_max = 16

-- `a` to `z`
abbrev pub is_letter : ℕ → Bool
is_letter byte = nat_le 97 byte && nat_le byte 122

-- `a` to `z`, `0` to `9` and `_`
abbrev pub is_name_byte : ℕ → Bool
is_name_byte byte = is_letter byte || (nat_le 48 byte && nat_le byte 57) || byte == 95

-- whether a word has the form of a table's name
abbrev pub is_name : List ℕ → Bool
is_name [] = false
is_name (first ∷ rest) = is_letter first && nat_lt (length rest) name_len_max && list_all is_name_byte rest
