-- A row's two forms: the values of its columns, and their bytes in order; and which values are of which kinds.
use Rattle.std.specs.Prelude.{ℕ, List, [], ◌∷◌, take, drop, length, Bool, true, false, ◌==◌, ◌&&◌}
use Rattle.std.specs.List.{flat_map}
use Rattle.std.specs.Int.{w64, cast_signed, cast_unsigned}
use Rattle.byteorder.specs.Endian.{big_bytes, big_number}
use Rattle.rows.specs.declared.kind.Kind.{Kind}
use Rattle.rows.specs.declared.kind.Kind.TheVariants as kinds
use Rattle.rows.specs.declared.value.Value.{Value}
use Rattle.rows.specs.declared.value.Value.TheVariants.{Int, Octets}
use Rattle.rows.specs.Shape.{width_of}

-- a value's bytes: an `Int` is eight, big-endian, two's complement; octets are themselves
abbrev pub value_bytes : Value → List ℕ
value_bytes (Int number) = big_bytes 8 (cast_unsigned w64 number)
value_bytes (Octets bytes) = bytes

-- a row's bytes: those of its columns in order
abbrev pub bytes_of : List Value → List ℕ
bytes_of values = flat_map value_bytes values

-- the value of a column of this kind at the front of the bytes
abbrev pub value_of : Kind → List ℕ → Value
value_of kinds.Int bytes = Int (cast_signed w64 (big_number 8 bytes))
value_of (kinds.Octets width) bytes = Octets (take width bytes)

-- the values of a row with these columns
abbrev pub values_of : List Kind → List ℕ → List Value
values_of [] bytes = []
values_of (kind ∷ kinds) bytes = value_of kind bytes ∷ values_of kinds (drop (width_of kind) bytes)

-- whether a value is of that kind: octets are as many as their column is wide
abbrev pub is_of_kind : Value → Kind → Bool
is_of_kind (Int number) kinds.Int = true
is_of_kind (Int number) (kinds.Octets width) = false
is_of_kind (Octets bytes) kinds.Int = false
is_of_kind (Octets bytes) (kinds.Octets width) = length bytes == width

-- the kind of a column that has this value
abbrev pub kind_of : Value → Kind
kind_of (Int number) = kinds.Int
kind_of (Octets bytes) = kinds.Octets (length bytes)

-- whether these are the values of columns of these kinds, one each
abbrev pub are_of_kinds : List Value → List Kind → Bool
are_of_kinds [] [] = true
are_of_kinds [] (kind ∷ kinds) = false
are_of_kinds (value ∷ values) [] = false
are_of_kinds (value ∷ values) (kind ∷ kinds) = is_of_kind value kind && are_of_kinds values kinds
