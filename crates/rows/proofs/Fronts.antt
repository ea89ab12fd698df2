-- The value at the front of bytes.
use Rattle.std.proofs.Common.{◌≡◌, ℕ, zero, suc, ◌+◌, ◌*◌, ◌^◌, ◌<◌, ◌≤◌, List, [], ◌∷◌, take, refl, sym, ap, ◌∙◌, arith}
use Rattle.std.specs.Prelude.{slice_index}
use Rattle.std.specs.Int.{w64, cast_signed}
use Rattle.std.proofs.lemmas.List.{take-take}
use Rattle.byteorder.specs.Endian.{big_from}
use Rattle.rows.specs.declared.kind.Kind.{Kind}
use Rattle.rows.specs.declared.kind.Kind.TheVariants as kinds
use Rattle.rows.specs.declared.value.Value.TheVariants.{Int, Octets}
use Rattle.rows.specs.Shape.{width_of}
use Rattle.rows.specs.Values.{value_of}
use Rattle.rows.specs.Laws.{WidthTellsValue}

-- the value at the front of bytes is told by as many as it is wide
index-front : (n i : ℕ) (bytes : List ℕ) → i < n → slice_index (take n bytes) i ≡ slice_index bytes i
index-front zero i bytes h = absurd (omega arith)
index-front (suc n) i [] h = refl
index-front (suc n) zero (byte ∷ bytes) h = refl
index-front (suc n) (suc i) (byte ∷ bytes) h = index-front n i bytes (omega arith)

number-front : (i n m : ℕ) (bytes : List ℕ) → i + n ≤ m → big_from i n (take m bytes) ≡ big_from i n bytes
number-front i zero m bytes h = refl
number-front i (suc n) m bytes h =
    ap (λ b. b * 256 ^ n + big_from (suc i) n (take m bytes)) (index-front m i bytes (omega arith))
    ∙ ap (λ rest. slice_index bytes i * 256 ^ n + rest) (number-front (suc i) n m bytes (omega arith))

value-front : (kind : Kind) (bytes : List ℕ) → value_of kind (take (width_of kind) bytes) ≡ value_of kind bytes
value-front kinds.Int bytes = ap (λ number. Int (cast_signed w64 number)) (number-front 0 8 8 bytes (omega arith))
value-front (kinds.Octets width) bytes = ap Octets (take-take width width bytes (omega arith))

pub value-same : WidthTellsValue
value-same kind bytes others same = sym (value-front kind bytes) ∙ ap (value_of kind) same ∙ value-front kind others
