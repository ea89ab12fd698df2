-- Which values can be read back from their bytes: those that were read from bytes, and those that a column can have.
use Rattle.std.proofs.Common.{◌≡◌, ℕ, zero, suc, ◌+◌, ◌-◌, ◌^◌, ◌<◌, ◌≤◌, Bool, true, false, cond, ◌&&◌, ◌==◌, List, [], ◌∷◌, ◌++◌, length}
use Rattle.std.proofs.Common.{drop, Option, None, Some, nat_lt, refl, sym, ap, ◌∙◌, arith}
use Rattle.std.specs.Prelude.{slice_set}
use Rattle.std.specs.Int.{w64, cast_signed, cast_unsigned}
use Rattle.std.proofs.lemmas.Bool.{and_parts, eqb-true}
use Rattle.std.proofs.lemmas.Int.{of_z-to_z, to_z-of_z}
use Rattle.std.proofs.lemmas.List.{append-nil, length-append, length-take-le, length-drop, take-take, take_all, take_at, drop_at}
use Rattle.std.proofs.lemmas.List.{take-append-drop}
use Rattle.std.proofs.lemmas.List.Sums.{sum_by-cons}
use Rattle.std.proofs.lemmas.Option.{same_Some}
use mir.ValLaws.{of_z_fits}
use Rattle.byteorder.specs.Endian.{big_bytes, big_number}
use Rattle.byteorder.specs.Numbers.{big_number-reads_back, big_from-lt, length-bytes_high_first}
use Rattle.rows.specs.declared.kind.Kind.{Kind}
use Rattle.rows.specs.declared.kind.Kind.TheVariants as kinds
use Rattle.rows.specs.declared.value.Value.{Value}
use Rattle.rows.specs.declared.value.Value.TheVariants as values
use Rattle.rows.specs.ImageLaws.{AreReadBack, BytesAreBack}
use Rattle.rows.specs.Shape.{width_of, row_width, column_from, column_at}
use Rattle.rows.specs.Spelling.{AreBytes, IsColumnValue}
use Rattle.rows.specs.Tables.{patched_row}
use Rattle.rows.specs.Values.{value_bytes, bytes_of, value_of, values_of, kind_of}
use Rattle.rows.proofs.Bytes.{AreBytes-drop, AreBytes-take, AreBytes-big, cut}
use Rattle.rows.proofs.Fronts.{value-same}

-- ---- one value

-- a value that can be read back from its bytes
pub record IsBack (kind : Kind) (value : Value) : Type 0 where
  pub wide : length (value_bytes value) ≡ width_of kind
  pub back : value_of kind (value_bytes value) ≡ value
  pub bytes : AreBytes (value_bytes value)

-- one that was read from bytes
found-back : (kind : Kind) (bytes : List ℕ) → AreBytes bytes → width_of kind ≤ length bytes → IsBack kind (value_of kind bytes)
found-back kinds.Int bytes are long =
    let number = big_number 8 bytes in
    let below : number < 2 ^ 64 = big_from-lt 0 8 bytes are in
    let same : cast_unsigned w64 (cast_signed w64 number) ≡ number = of_z-to_z w64 number below in
    record {
      wide = length-bytes_high_first 8 (cast_unsigned w64 (cast_signed w64 number));
      back =
          ap (λ (n : ℕ). values.Int (cast_signed w64 (big_number 8 (big_bytes 8 n)))) same
          ∙ ap (λ (b : List ℕ). values.Int (cast_signed w64 (big_number 8 b))) (sym (append-nil (big_bytes 8 number)))
          ∙ ap (λ (n : ℕ). values.Int (cast_signed w64 n)) (big_number-reads_back 8 number [] below);
      bytes = AreBytes-big 8 (cast_unsigned w64 (cast_signed w64 number));
    }
found-back (kinds.Octets width) bytes are long = record {
  wide = length-take-le width bytes long;
  back = ap values.Octets (take-take width width bytes (omega arith));
  bytes = AreBytes-take width bytes are;
}

-- one that a column can have
pub column-back : (value : Value) → IsColumnValue value → IsBack (kind_of value) value
column-back (values.Int number) good =
    let bits = cast_unsigned w64 number in
    record {
      wide = length-bytes_high_first 8 bits;
      back =
          ap (λ (b : List ℕ). values.Int (cast_signed w64 (big_number 8 b))) (sym (append-nil (big_bytes 8 bits)))
          ∙ ap (λ (n : ℕ). values.Int (cast_signed w64 n)) (big_number-reads_back 8 bits [] (of_z_fits w64 number good).fits)
          ∙ ap values.Int (to_z-of_z w64 number good);
      bytes = AreBytes-big 8 bits;
    }
column-back (values.Octets bytes) good = record {
  wide = refl;
  back = ap values.Octets (take_all (length bytes) bytes (omega arith));
  bytes = good.2;
}

-- ---- the values of a row

-- each value can be read back as that of its column
abbrev pub Each : List Kind → List Value → Type 0
Each [] [] = Unit {0}
Each (kind ∷ columns) (value ∷ values) = IsBack kind value × Each columns values
Each columns values = ⊥

-- those that were read from bytes
pub found-each : (columns : List Kind) (bytes : List ℕ) → AreBytes bytes → row_width columns ≤ length bytes
    → Each columns (values_of columns bytes)
found-each [] bytes are long = tt
found-each (kind ∷ columns) bytes are long =
    let whole = sum_by-cons width_of kind columns in (
      found-back kind bytes are (omega (arith, long, whole)),
      found-each columns (drop (width_of kind) bytes) (AreBytes-drop (width_of kind) bytes are)
          (omega (arith, long, whole, length-drop (width_of kind) bytes)),
    )

-- one value more
pub each-more : (columns : List Kind) (values : List Value) (kind : Kind) (value : Value) → Each columns values → IsBack kind value
    → Each (columns ++ kind ∷ []) (values ++ value ∷ [])
each-more [] [] kind value each is = (is, tt)
each-more [] (first ∷ values) kind value each is = absurd each
each-more (first ∷ columns) [] kind value each is = absurd each
each-more (first ∷ columns) (own ∷ values) kind value each is = (each.0, each-more columns values kind value each.1 is)

-- so the values can be read back
pub each-back : (columns : List Kind) (values : List Value) → Each columns values → AreReadBack columns values
each-back [] [] each = record { wide = refl; back = refl }
each-back [] (value ∷ values) each = absurd each
each-back (kind ∷ columns) [] each = absurd each
each-back (kind ∷ columns) (value ∷ values) each =
    let own = value_bytes value in
    let rest = bytes_of values in
    let width = each.0.wide in
    let behind = each-back columns values each.1 in
    let front : value_of kind (own ++ rest) ≡ value =
    value-same kind (own ++ rest) own (take_at own rest (width_of kind) width ∙ sym (take_all (width_of kind) own (omega (arith, width))))
    ∙ each.0.back in
    record {
      wide = omega (arith, length-append own rest, width, behind.wide, sum_by-cons width_of kind columns);
      back =
          ap (λ (first : Value). first ∷ values_of columns (drop (width_of kind) (own ++ rest))) front
          ∙ ap (λ (bytes : List ℕ). value ∷ values_of columns bytes) (drop_at own rest (width_of kind) width)
          ∙ ap (λ (others : List Value). value ∷ others) behind.back;
    }

-- and their bytes are bytes
AreBytes-append : (front rest : List ℕ) → AreBytes front → AreBytes rest → AreBytes (front ++ rest)
AreBytes-append [] rest are others i = others i
AreBytes-append (byte ∷ front) rest are others zero = are 0
AreBytes-append (byte ∷ front) rest are others (suc i) = AreBytes-append front rest (λ j. are (suc j)) others i

pub each-bytes : (columns : List Kind) (values : List Value) → Each columns values → AreBytes (bytes_of values)
each-bytes [] [] each i = omega arith
each-bytes [] (value ∷ values) each i = absurd each
each-bytes (kind ∷ columns) [] each i = absurd each
each-bytes (kind ∷ columns) (value ∷ values) each i =
    AreBytes-append (value_bytes value) (bytes_of values) each.0.bytes (each-bytes columns values each.1) i

-- ---- a patched row

-- another value where it stands, its column being found behind `before` others
put-each : (before : ℕ) (columns : List Kind) (offset size column : ℕ) (kind : Kind) (values : List Value) (bytes : List ℕ)
    → column_from before columns offset size ≡ Some (column, kind) → size ≡ length bytes → AreBytes bytes → Each columns values
    → (before ≤ column) × Each columns (slice_set values (column - before) (value_of kind bytes))
put-each before [] offset size column kind values bytes e wide are each = absurd cc
put-each before (first ∷ columns) offset size column kind [] bytes e wide are each = absurd each
put-each before (first ∷ columns) offset size column kind (value ∷ values) bytes e wide are each =
    by ((offset == 0) && (size == width_of first)) (nat_lt offset (width_of first)) refl
    (λ e. put-each (before + 1) columns (offset - width_of first) size column kind values bytes e wide are each.1) e
  where
    here : (before ≡ column) → (first ≡ kind) → size ≡ width_of first
        → (before ≤ column) × Each (first ∷ columns) (slice_set (value ∷ values) (column - before) (value_of kind bytes))
    here at is same =
        let none : column - before ≡ 0 = omega (arith, at) in
        (omega (arith, at), rw (none, ← is) (found-back first bytes are (omega (arith, same, wide)), each.1))

    by : (found short : Bool) → ((offset == 0) && (size == width_of first)) ≡ found
        → (column_from (before + 1) columns (offset - width_of first) size ≡ Some (column, kind) → (before + 1 ≤ column)
        × Each columns (slice_set values (column - (before + 1)) (value_of kind bytes)))
        → cond found (Some (before, first)) (cond short None (column_from (before + 1) columns (offset - width_of first) size))
        ≡ Some (column, kind)
        → (before ≤ column) × Each (first ∷ columns) (slice_set (value ∷ values) (column - before) (value_of kind bytes))
    by true short f others e =
        let same = same_Some (before, first) (column, kind) e in
        here (ap (λ (found : ℕ × Kind). found.0) same) (ap (λ (found : ℕ × Kind). found.1) same)
        (eqb-true size (width_of first) (and_parts (offset == 0) (size == width_of first) f).1)
    by false true f others e = absurd cc
    by false false f others e =
        let behind = others e in
        let more : column - before ≡ suc (column - (before + 1)) = omega (arith, behind.0) in
        (omega (arith, behind.0), rw more (each.0, behind.1))

pub patched-each : (columns : List Kind) (offset : ℕ) (bytes : List ℕ) (values : List Value) → AreBytes bytes → Each columns values
    → Each columns (patched_row columns offset bytes values)
patched-each columns offset bytes values are each = by (column_at columns offset (length bytes)) refl
  where
    by : (found : Option (ℕ × Kind)) → column_at columns offset (length bytes) ≡ found
        → Each columns (patched_row columns offset bytes values)
    by None e = rw e each
    by (Some column) e =
        let first : column.0 ≡ column.0 - 0 = omega arith in
        rw (e, first) (put-each 0 columns offset (length bytes) column.0 column.1 values bytes e refl are each).1

-- ---- bytes

front-back : (kind : Kind) (bytes : List ℕ) → AreBytes bytes → width_of kind ≤ length bytes
    → value_bytes (value_of kind bytes) ++ drop (width_of kind) bytes ≡ bytes
front-back kinds.Int bytes are long =
    ap (λ (n : ℕ). big_bytes 8 n ++ drop 8 bytes) (of_z-to_z w64 (big_number 8 bytes) (big_from-lt 0 8 bytes are)) ∙ cut 8 0 bytes long are
front-back (kinds.Octets width) bytes are long = take-append-drop width bytes

pub row-back : BytesAreBack
row-back [] [] are long = refl
row-back [] (byte ∷ bytes) are long = absurd (omega (arith, long))
row-back (kind ∷ columns) bytes are long =
    let whole = sum_by-cons width_of kind columns in
    ap (λ (rest : List ℕ). value_bytes (value_of kind bytes) ++ rest)
    (row-back columns (drop (width_of kind) bytes) (AreBytes-drop (width_of kind) bytes are)
    (omega (arith, long, whole, length-drop (width_of kind) bytes)))
    ∙ front-back kind bytes are (omega (arith, long, whole))
