-- An entry at the front of bytes: what is read is spelled so, and what is spelled so is read.
use Rattle.std.proofs.Common.{◌≡◌, ◌≢◌, ℕ, ◌+◌, ◌^◌, ◌<◌, ◌≤◌, ◌⊎◌, inl, inr, Bool, true, false, cond, eqb, ltb, not, ◌||◌, List, ◌∷◌, ◌++◌}
use Rattle.std.proofs.Common.{length, get_or, take, drop, Option, Some, None, refl, sym, ap, subst, ◌∙◌, arith}
use Rattle.std.specs.Option.{option_map, IfSome}
use Rattle.std.proofs.lemmas.Bool.{ltb-false, ltb-true, le-ltb, lt-ltb, eqb-true, eqb-false, ne_eqb, cond-false, or_from, or_parts}
use Rattle.std.proofs.lemmas.Bool.Decides.{nat_tests}
use Rattle.std.specs.Int.{w64, cast_signed, cast_unsigned}
use Rattle.std.proofs.lemmas.Int.{of_z-to_z, to_z-of_z}
use mir.ValLaws.{of_z_fits}
use borrow.Author.Gap.{read_sfits}
use Rattle.std.proofs.lemmas.List.{length-take, length-take-le, length-drop, length-append, take-append-drop, drop-drop, take_at}
use Rattle.byteorder.specs.Endian.{big_bytes, big_number}
use Rattle.byteorder.specs.Numbers.{big_number-reads_back}
use Rattle.rows.specs.declared.entry.Entry.{Entry}
use Rattle.rows.specs.declared.entry.Entry.TheVariants.{Insert, Patch, Delete, AddColumn}
use Rattle.rows.specs.declared.limits.TheConstants.{TABLES_MAX, ROW_WIDTH_MAX, OCTETS_MAX}
use Rattle.rows.specs.declared.entry_ref.EntryRef.{EntryRef}
use Rattle.rows.specs.declared.kind.Kind.{Kind}
use Rattle.rows.specs.declared.kind.Kind.TheVariants as kinds
use Rattle.rows.specs.declared.value.Value.{Value}
use Rattle.rows.specs.declared.value.Value.TheVariants as values
use Rattle.rows.specs.Shape.{width_of}
use Rattle.rows.specs.Values.{value_of, value_bytes, kind_of}
use Rattle.rows.specs.Reading.{entry_at, row_entry_at, column_entry_at, column_at_front, kind_coded, entry_behind, is_row_code, insert_at}
use Rattle.rows.specs.Reading.{patch_at, seen, IsSpelledAt}
use Rattle.rows.specs.Spelling.{AreBytes, HasSpelling, IsColumnValue, kind_code, entry_front, entry_spelling}
use Rattle.rows.proofs.Bytes.{AreBytes-drop, AreBytes-take, cut, cut_1, number_fits}

-- ---- what the tests of an entry let through

guarded : {A : Type 0} (b : Bool) (o : Option A) (y : A) → cond b None o ≡ Some y → (b ≡ false) × (o ≡ Some y)
guarded true o y e = absurd cc
guarded false o y e = (refl, e)

abbrev insert_of : ℕ → ℕ → List ℕ → Entry × ℕ
insert_of table row rest = (Insert table (record { 0 = row }) (take (big_number 2 rest) (drop 2 rest)), 12 + big_number 2 rest)

record IsInsertAt (table row : ℕ) (rest : List ℕ) (found : Entry × ℕ) : Type 0 where
  pub long : 2 ≤ length rest
  pub some : 0 < big_number 2 rest
  pub few : big_number 2 rest ≤ ROW_WIDTH_MAX
  pub within : big_number 2 rest ≤ length (drop 2 rest)
  pub same : insert_of table row rest ≡ found

insert_at-only : (table row : ℕ) (rest : List ℕ) (found : Entry × ℕ) → insert_at table row rest ≡ Some found
    → IsInsertAt table row rest found
insert_at-only table row rest found e =
    let size = big_number 2 rest in
    let tested = eqb size 0 || ltb ROW_WIDTH_MAX size || ltb (length (drop 2 rest)) size in
    let long = guarded (ltb (length rest) 2) (cond tested None (Some (insert_of table row rest))) found e in
    let passed = guarded tested (Some (insert_of table row rest)) found long.1 in
    record {
      long = ltb-false _ _ long.0;
      some = grind (arith, nat_tests);
      few = grind (arith, nat_tests);
      within = grind (arith, nat_tests);
      same = cc;
    }

abbrev patch_of : ℕ → ℕ → List ℕ → Entry × ℕ
patch_of table row rest = (
  Patch table (record { 0 = row }) (big_number 2 rest) (take (big_number 2 (drop 2 rest)) (drop 4 rest)),
  14 + big_number 2 (drop 2 rest),
)

record IsPatchAt (table row : ℕ) (rest : List ℕ) (found : Entry × ℕ) : Type 0 where
  pub long : 4 ≤ length rest
  pub some : 0 < big_number 2 (drop 2 rest)
  pub few : big_number 2 (drop 2 rest) ≤ OCTETS_MAX
  pub inside : big_number 2 rest + big_number 2 (drop 2 rest) ≤ ROW_WIDTH_MAX
  pub within : big_number 2 (drop 2 rest) ≤ length (drop 4 rest)
  pub same : patch_of table row rest ≡ found

patch_at-only : (table row : ℕ) (rest : List ℕ) (found : Entry × ℕ) → patch_at table row rest ≡ Some found → IsPatchAt table row rest found
patch_at-only table row rest found e =
    let offset = big_number 2 rest in
    let size = big_number 2 (drop 2 rest) in
    let tested = eqb size 0 || ltb OCTETS_MAX size || ltb ROW_WIDTH_MAX (offset + size) || ltb (length (drop 4 rest)) size in
    let long = guarded (ltb (length rest) 4) (cond tested None (Some (patch_of table row rest))) found e in
    let passed = guarded tested (Some (patch_of table row rest)) found long.1 in
    record {
      long = ltb-false _ _ long.0;
      some = grind (arith, nat_tests);
      few = grind (arith, nat_tests);
      inside = grind (arith, nat_tests);
      within = grind (arith, nat_tests);
      same = cc;
    }

abbrev delete_of : ℕ → ℕ → Entry × ℕ
delete_of table row = (Delete table (record { 0 = row }), 10)

-- which of the three an entry is, by its first byte
abbrev by_op : ℕ → ℕ → ℕ → List ℕ → Option (Entry × ℕ)
by_op op table row rest =
    cond (eqb op 1) (insert_at table row rest) (cond (eqb op 2) (patch_at table row rest) (Some (delete_of table row)))

abbrev IsOneOf : ℕ → ℕ → ℕ → List ℕ → Entry × ℕ → Type 0
IsOneOf op table row rest found =
    ((op ≡ 1) × IsInsertAt table row rest found) ⊎ ((op ≡ 2) × IsPatchAt table row rest found) ⊎ ((op ≡ 3) × (delete_of table row ≡ found))

by_op-only : (op table row : ℕ) (rest : List ℕ) (found : Entry × ℕ) → is_row_code op ≡ true → by_op op table row rest ≡ Some found
    → IsOneOf op table row rest found
by_op-only op table row rest found = by_tests (eqb op 1) (eqb op 2) (eqb op 3) (eqb-true op 1) (eqb-true op 2) (eqb-true op 3)
  where
    by_tests : (first second third : Bool) → (first ≡ true → op ≡ 1) → (second ≡ true → op ≡ 2) → (third ≡ true → op ≡ 3)
        → (first || second || third) ≡ true
        → cond first (insert_at table row rest) (cond second (patch_at table row rest) (Some (delete_of table row))) ≡ Some found
        → IsOneOf op table row rest found
    by_tests true second third f g h known e = inl (f refl, insert_at-only table row rest found e)
    by_tests false true third f g h known e = inr (inl (g refl, patch_at-only table row rest found e))
    by_tests false false true f g h known e = inr (inr (h refl, cc))
    by_tests false false false f g h known e = absurd cc

not-refused : (b : Bool) → not b ≡ false → b ≡ true
not-refused true e = refl
not-refused false e = sym e

abbrev found_in : List ℕ → Entry × ℕ → Type 0
found_in bytes found = IsOneOf (get_or bytes 0 0) (get_or bytes 1 0) (big_number 8 (drop 2 bytes)) (drop 10 bytes) found

row_entry_at-only : (bytes : List ℕ) (found : Entry × ℕ) → is_row_code (get_or bytes 0 0) ≡ true → row_entry_at bytes ≡ Some found
    → (10 ≤ length bytes) × (get_or bytes 1 0 < TABLES_MAX) × found_in bytes found
row_entry_at-only bytes found coded e =
    let op = get_or bytes 0 0 in
    let table = get_or bytes 1 0 in
    let row = big_number 8 (drop 2 bytes) in
    let unfit = ltb (length bytes) 10 || not (ltb table TABLES_MAX) in
    let tested = guarded unfit (by_op op table row (drop 10 bytes)) found e in
    let parts = or_parts (ltb (length bytes) 10) (not (ltb table TABLES_MAX)) tested.0 in
    let below : ltb table TABLES_MAX ≡ true = not-refused (ltb table TABLES_MAX) parts.1 in (
      ltb-false _ _ parts.0,
      ltb-true _ _ below,
      by_op-only op table row (drop 10 bytes) found coded tested.1,
    )

-- an added column behind its table
abbrev column_of : ℕ → List ℕ → Entry × ℕ
column_of table rest =
    (AddColumn table (value_of (kind_coded (get_or rest 0 0)) (drop 1 rest)), 3 + width_of (kind_coded (get_or rest 0 0)))

record IsColumnAt (table : ℕ) (rest : List ℕ) (found : Entry × ℕ) : Type 0 where
  pub long : 1 ≤ length rest
  pub few : get_or rest 0 0 ≤ OCTETS_MAX
  pub within : width_of (kind_coded (get_or rest 0 0)) ≤ length (drop 1 rest)
  pub same : column_of table rest ≡ found

column_at_front-only : (table : ℕ) (rest : List ℕ) (found : Entry × ℕ) → column_at_front table rest ≡ Some found
    → IsColumnAt table rest found
column_at_front-only table rest found e =
    let code = get_or rest 0 0 in
    let unfit = ltb (length rest) 1 || ltb OCTETS_MAX code in
    let short = ltb (length (drop 1 rest)) (width_of (kind_coded code)) in
    let tested = guarded unfit (cond short None (Some (column_of table rest))) found e in
    let passed = guarded short (Some (column_of table rest)) found tested.1 in
    let parts = or_parts (ltb (length rest) 1) (ltb OCTETS_MAX code) tested.0 in
    record {
      long = ltb-false _ _ parts.0;
      few = ltb-false _ _ parts.1;
      within = ltb-false _ _ passed.0;
      same = cc;
    }

column_entry_at-only : (bytes : List ℕ) (found : Entry × ℕ) → column_entry_at bytes ≡ Some found
    → (2 ≤ length bytes) × (get_or bytes 1 0 < TABLES_MAX) × IsColumnAt (get_or bytes 1 0) (drop 2 bytes) found
column_entry_at-only bytes found e =
    let table = get_or bytes 1 0 in
    let unfit = ltb (length bytes) 2 || not (ltb table TABLES_MAX) in
    let tested = guarded unfit (column_at_front table (drop 2 bytes)) found e in
    let parts = or_parts (ltb (length bytes) 2) (not (ltb table TABLES_MAX)) tested.0 in (
      ltb-false _ _ parts.0,
      ltb-true _ _ (not-refused (ltb table TABLES_MAX) parts.1),
      column_at_front-only table (drop 2 bytes) found tested.1,
    )

-- which of the two an entry is, by its first byte
abbrev IsRowOrColumn : List ℕ → Entry × ℕ → Type 0
IsRowOrColumn bytes found =
    ((is_row_code (get_or bytes 0 0) ≡ true) × (row_entry_at bytes ≡ Some found))
    ⊎ ((get_or bytes 0 0 ≡ 4) × (column_entry_at bytes ≡ Some found))

entry_at-either : (bytes : List ℕ) (found : Entry × ℕ) → entry_at bytes ≡ Some found → IsRowOrColumn bytes found
entry_at-either bytes found =
    by_tests (is_row_code (get_or bytes 0 0)) (eqb (get_or bytes 0 0) 4) (λ e. e) (λ e. eqb-true (get_or bytes 0 0) 4 e)
  where
    by_tests : (row column : Bool) → (row ≡ true → is_row_code (get_or bytes 0 0) ≡ true)
        → (column ≡ true → get_or bytes 0 0 ≡ 4)
        → cond row (row_entry_at bytes) (cond column (column_entry_at bytes) None) ≡ Some found → IsRowOrColumn bytes found
    by_tests true column f g e = inl (f refl, e)
    by_tests false true f g e = inr (g refl, e)
    by_tests false false f g e = absurd cc

-- what an entry takes is there
row-within : (bytes : List ℕ) (found : Entry × ℕ) → (10 ≤ length bytes) × (get_or bytes 1 0 < TABLES_MAX) × found_in bytes found
    → found.1 ≤ length bytes
row-within bytes found only =
    let rest = drop 10 bytes in
    elim only.2 [
      | inl h ↦ let is = h.1 in let size =
          ap (λ (f : Entry × ℕ). f.1) is.same in omega (arith, only.0, is.long, is.within, size, length-drop 10 bytes, length-drop 2 rest)
      | inr (inl h) ↦ let is = h.1 in let size =
          ap (λ (f : Entry × ℕ). f.1) is.same in omega (arith, only.0, is.long, is.within, size, length-drop 10 bytes, length-drop 4 rest)
      | inr (inr h) ↦ let size = ap (λ (f : Entry × ℕ). f.1) h.1 in omega (arith, only.0, size)
    ]

entry_at-within : (bytes : List ℕ) (found : Entry × ℕ) → entry_at bytes ≡ Some found → found.1 ≤ length bytes
entry_at-within bytes found e = elim (entry_at-either bytes found e) [
  | inl row ↦ row-within bytes found (row_entry_at-only bytes found row.0 row.1)
  | inr column ↦
      let only = column_entry_at-only bytes found column.1 in
      let is = only.2 in
      let size = ap (λ (f : Entry × ℕ). f.1) is.same in
      omega (arith, only.0, is.long, is.within, size, length-drop 2 bytes, length-drop 1 (drop 2 bytes))
]

-- ---- what is read is spelled so

record IsSpelledHere (bytes : List ℕ) (found : Entry × ℕ) : Type 0 where
  pub spelled : HasSpelling found.0
  pub front : bytes ≡ entry_spelling found.0 ++ drop found.1 bytes

-- data behind its size in two bytes
sized_data : (k : ℕ) (rest : List ℕ) → k + 2 ≤ length rest → AreBytes rest → big_number 2 (drop k rest) ≤ length (drop (k + 2) rest)
    → (length (take (big_number 2 (drop k rest)) (drop (k + 2) rest)) ≡ big_number 2 (drop k rest))
    × (drop k rest ≡ big_bytes 2 (length (take (big_number 2 (drop k rest)) (drop (k + 2) rest)))
    ++ (take (big_number 2 (drop k rest)) (drop (k + 2) rest) ++ drop (k + 2 + big_number 2 (drop k rest)) rest))
sized_data k rest long fits within =
    let size = big_number 2 (drop k rest) in
    let content = take size (drop (k + 2) rest) in
    let behind = drop (k + 2 + size) rest in
    let sized : length content ≡ size = omega (arith, length-take size (drop (k + 2) rest), within) in
    let joined : content ++ behind ≡ drop (k + 2) rest =
    ap (λ (t : List ℕ). content ++ t) (sym (drop-drop size (k + 2) rest)) ∙ take-append-drop size (drop (k + 2) rest) in
    let whole : big_bytes 2 (length content) ++ (content ++ behind) ≡ drop k rest =
    ap (λ (n : ℕ). big_bytes 2 n ++ (content ++ behind)) sized ∙ ap (λ (t : List ℕ). big_bytes 2 size ++ t) joined
    ∙ cut 2 k rest long fits in
    (sized, sym whole)

-- what stands behind the row
behind_front : (op table row n size : ℕ) (rest : List ℕ) → n ≡ 10 + size → drop n (entry_front op table row ++ rest) ≡ drop size rest
behind_front op table row n size rest is =
    ap (λ (k : ℕ). drop k (entry_front op table row ++ rest)) is ∙ sym (drop-drop size 10 (entry_front op table row ++ rest))

module _ (table row : ℕ) (rest : List ℕ) (found : Entry × ℕ) (below : table < TABLES_MAX) (row_below : row < 2 ^ 64)
    (fits : AreBytes rest) where
  insert-spelled : IsInsertAt table row rest found → IsSpelledHere (entry_front 1 table row ++ rest) found
  insert-spelled is =
      let size = big_number 2 rest in
      let content = take size (drop 2 rest) in
      let whole = sized_data 0 rest is.long fits is.within in
      let behind : drop (12 + size) (entry_front 1 table row ++ rest) ≡ drop (2 + size) rest =
      behind_front 1 table row (12 + size) (2 + size) rest (omega arith) in
      let made : IsSpelledHere (entry_front 1 table row ++ rest) (insert_of table row rest) = record {
        spelled =
            record {
              table_below = below;
              row_below = row_below;
              some = omega (arith, is.some, whole.0);
              few = omega (arith, is.few, whole.0);
              are_bytes = AreBytes-take size (drop 2 rest) (AreBytes-drop 2 rest fits);
            };
        front = rw behind (ap (λ (t : List ℕ). entry_front 1 table row ++ t) whole.1);
      } in
      subst (IsSpelledHere (entry_front 1 table row ++ rest)) is.same made

  patch-spelled : IsPatchAt table row rest found → IsSpelledHere (entry_front 2 table row ++ rest) found
  patch-spelled is =
      let offset = big_number 2 rest in
      let size = big_number 2 (drop 2 rest) in
      let content = take size (drop 4 rest) in
      let whole = sized_data 2 rest is.long fits is.within in
      let whole_rest : rest ≡ big_bytes 2 offset ++ (big_bytes 2 (length content) ++ (content ++ drop (4 + size) rest)) =
      sym (cut 2 0 rest (omega (arith, is.long)) fits) ∙ ap (λ (t : List ℕ). big_bytes 2 offset ++ t) whole.1 in
      let behind : drop (14 + size) (entry_front 2 table row ++ rest) ≡ drop (4 + size) rest =
      behind_front 2 table row (14 + size) (4 + size) rest (omega arith) in
      let made : IsSpelledHere (entry_front 2 table row ++ rest) (patch_of table row rest) = record {
        spelled =
            record {
              table_below = below;
              row_below = row_below;
              some = omega (arith, is.some, whole.0);
              few = omega (arith, is.few, whole.0);
              within = omega (arith, is.inside, whole.0);
              are_bytes = AreBytes-take size (drop 4 rest) (AreBytes-drop 4 rest fits);
            };
        front = rw behind (ap (λ (t : List ℕ). entry_front 2 table row ++ t) whole_rest);
      } in
      subst (IsSpelledHere (entry_front 2 table row ++ rest)) is.same made

  delete-spelled : delete_of table row ≡ found → IsSpelledHere (entry_front 3 table row ++ rest) found
  delete-spelled same =
      let made : IsSpelledHere (entry_front 3 table row ++ rest) (delete_of table row) =
      record { spelled = record { table_below = below; row_below = row_below }; front = refl } in
      subst (IsSpelledHere (entry_front 3 table row ++ rest)) same made

-- the kind that a byte stands for, and the byte that stands for it
code-again : (code : ℕ) → kind_code (kind_coded code) ≡ code
code-again code = by (eqb code 0) (eqb-true code 0)
  where
    by : (none : Bool) → (none ≡ true → code ≡ 0) → kind_code (cond none kinds.Int (kinds.Octets code)) ≡ code
    by true f = sym (f refl)
    by false f = refl

-- the value that is read of bytes is of its kind, and spelled there
kind-again : (kind : Kind) (bytes : List ℕ) → width_of kind ≤ length bytes → kind_of (value_of kind bytes) ≡ kind
kind-again kinds.Int bytes wide = refl
kind-again (kinds.Octets width) bytes wide = ap kinds.Octets (length-take-le width bytes wide)

value-again : (kind : Kind) (bytes : List ℕ) → width_of kind ≤ length bytes → AreBytes bytes
    → value_bytes (value_of kind bytes) ++ drop (width_of kind) bytes ≡ bytes
value-again kinds.Int bytes wide fits =
    ap (λ (n : ℕ). big_bytes 8 n ++ drop 8 bytes) (of_z-to_z w64 (big_number 8 bytes) (number_fits 8 0 bytes fits))
    ∙ cut 8 0 bytes wide fits
value-again (kinds.Octets width) bytes wide fits = take-append-drop width bytes

value-good : (kind : Kind) (bytes : List ℕ) → 0 < width_of kind → width_of kind ≤ OCTETS_MAX → width_of kind ≤ length bytes → AreBytes bytes
    → IsColumnValue (value_of kind bytes)
value-good kinds.Int bytes some few wide fits = read_sfits w64 (big_number 8 bytes)
value-good (kinds.Octets width) bytes some few wide fits =
    let same = length-take-le width bytes wide in
    (omega (arith, same), omega (arith, same), AreBytes-take width bytes fits)

coded-some : (code : ℕ) → 0 < width_of (kind_coded code)
coded-some code = by (eqb code 0) (eqb-false code 0)
  where
    by : (none : Bool) → (none ≡ false → code ≢ 0) → 0 < width_of (cond none kinds.Int (kinds.Octets code))
    by true f = omega arith
    by false f = omega (arith, f refl)

coded-few : (code : ℕ) → code ≤ OCTETS_MAX → width_of (kind_coded code) ≤ OCTETS_MAX
coded-few code few = by (eqb code 0)
  where
    by : (none : Bool) → width_of (cond none kinds.Int (kinds.Octets code)) ≤ OCTETS_MAX
    by true = omega arith
    by false = few

column-spelled : (bytes : List ℕ) (found : Entry × ℕ) → AreBytes bytes → get_or bytes 0 0 ≡ 4
    → (2 ≤ length bytes) × (get_or bytes 1 0 < TABLES_MAX) × IsColumnAt (get_or bytes 1 0) (drop 2 bytes) found
    → IsSpelledHere bytes found
column-spelled bytes found fits op only =
    let table = get_or bytes 1 0 in
    let rest = drop 2 bytes in
    let code = get_or rest 0 0 in
    let kind = kind_coded code in
    let content = drop 1 rest in
    let is = only.2 in
    let rest_fits = AreBytes-drop 2 bytes fits in
    let content_fits = AreBytes-drop 1 rest rest_fits in
    let value = value_of kind content in
    let kind_is : kind_code (kind_of value) ≡ code = ap kind_code (kind-again kind content is.within) ∙ code-again code in
    let behind : drop (3 + width_of kind) bytes ≡ drop (width_of kind) content =
    sym (ap (drop (width_of kind)) (drop-drop 1 2 bytes) ∙ drop-drop (width_of kind) 3 bytes ∙ ap (λ n. drop n bytes) (omega arith)) in
    let at_2 : code ∷ content ≡ rest = cut_1 0 rest (omega (arith, is.long)) in
    let at_1 : table ∷ rest ≡ drop 1 bytes = cut_1 1 bytes (omega (arith, only.0)) in
    let at_0 : get_or bytes 0 0 ∷ drop 1 bytes ≡ bytes = cut_1 0 bytes (omega (arith, only.0)) in
    let whole : 4 ∷ table ∷ kind_code (kind_of value) ∷ (value_bytes value ++ drop (3 + width_of kind) bytes) ≡ bytes =
    ap (λ (n : ℕ). 4 ∷ table ∷ n ∷ (value_bytes value ++ drop (3 + width_of kind) bytes)) kind_is
    ∙ ap (λ (t : List ℕ). 4 ∷ table ∷ code ∷ (value_bytes value ++ t)) behind
    ∙ ap (λ (t : List ℕ). 4 ∷ table ∷ code ∷ t) (value-again kind content is.within content_fits)
    ∙ ap (λ (t : List ℕ). 4 ∷ table ∷ t) at_2
    ∙ ap (λ (t : List ℕ). 4 ∷ t) at_1
    ∙ ap (λ (n : ℕ). n ∷ drop 1 bytes) (sym op)
    ∙ at_0 in
    let made : IsSpelledHere bytes (column_of table rest) = record {
      spelled = record {
        table_below = only.1;
        value = value-good kind content (coded-some code) (coded-few code is.few) is.within content_fits;
      };
      front = sym whole;
    } in
    subst (IsSpelledHere bytes) is.same made

row-spelled : (bytes : List ℕ) (found : Entry × ℕ) → AreBytes bytes
    → (10 ≤ length bytes) × (get_or bytes 1 0 < TABLES_MAX) × found_in bytes found → IsSpelledHere bytes found
row-spelled bytes found fits only =
    let op = get_or bytes 0 0 in
    let table = get_or bytes 1 0 in
    let row = big_number 8 (drop 2 bytes) in
    let rest = drop 10 bytes in
    let long = only.0 in
    let at_2 : big_bytes 8 row ++ rest ≡ drop 2 bytes = cut 8 2 bytes (omega arith) fits in
    let at_1 : table ∷ drop 2 bytes ≡ drop 1 bytes = cut_1 1 bytes (omega arith) in
    let at_0 : op ∷ drop 1 bytes ≡ bytes = cut_1 0 bytes (omega arith) in
    let front : entry_front op table row ++ rest ≡ bytes =
    ap (λ (t : List ℕ). op ∷ table ∷ t) at_2 ∙ ap (λ (t : List ℕ). op ∷ t) at_1 ∙ at_0 in
    let row_below : row < 2 ^ 64 = number_fits 8 2 bytes fits in
    let rest_fits = AreBytes-drop 10 bytes fits in
    let at : (n : ℕ) → op ≡ n → IsSpelledHere (entry_front n table row ++ rest) found → IsSpelledHere bytes found =
    λ n is spelled. subst (λ (t : List ℕ). IsSpelledHere t found)
    (ap (λ (o : ℕ). entry_front o table row ++ rest) (sym is) ∙ front) spelled in
    elim only.2 [
      | inl h ↦ at 1 h.0 (insert-spelled table row rest found only.1 row_below rest_fits h.1)
      | inr (inl h) ↦ at 2 h.0 (patch-spelled table row rest found only.1 row_below rest_fits h.1)
      | inr (inr h) ↦ at 3 h.0 (delete-spelled table row rest found only.1 row_below rest_fits h.1)
    ]

spelled_here : (bytes : List ℕ) (found : Entry × ℕ) → AreBytes bytes → entry_at bytes ≡ Some found → IsSpelledHere bytes found
spelled_here bytes found fits e = elim (entry_at-either bytes found e) [
  | inl row ↦ row-spelled bytes found fits (row_entry_at-only bytes found row.0 row.1)
  | inr column ↦ column-spelled bytes found fits column.0 (column_entry_at-only bytes found column.1)
]

pub entry_at-spelled : (bytes : List ℕ) (found : Entry × ℕ) → AreBytes bytes → entry_at bytes ≡ Some found → IsSpelledAt bytes found
entry_at-spelled bytes found fits e =
    let here = spelled_here bytes found fits e in
    let within = entry_at-within bytes found e in
    let joined = ap length here.front in
    record {
      spelled = here.spelled;
      size =
          omega (arith, joined, within, length-append (entry_spelling found.0) (drop found.1 bytes), length-drop found.1 bytes);
      front = here.front;
    }

-- the same of what a reader found
pub found-spelled : (bytes : List ℕ) (result : Option (EntryRef × ℕ)) → AreBytes bytes → option_map seen result ≡ entry_at bytes
    → IfSome result (λ found. IsSpelledAt bytes (seen found))
found-spelled bytes None fits is = tt
found-spelled bytes (Some found) fits is = entry_at-spelled bytes (seen found) fits (sym is)

-- ---- what is spelled so is read, whatever stands behind it

front-again : (op table row : ℕ) (rest : List ℕ) → is_row_code op ≡ true → table < TABLES_MAX → row < 2 ^ 64
    → entry_at (entry_front op table row ++ rest) ≡ by_op op table row rest
front-again op table row rest coded below row_below =
    let bytes : List ℕ = entry_front op table row ++ rest in
    let row_is : big_number 8 (drop 2 bytes) ≡ row = big_number-reads_back 8 row rest row_below in
    let known : not (ltb table TABLES_MAX) ≡ false = grind (arith, nat_tests) in
    let unfit = ltb (length bytes) 10 || not (ltb table TABLES_MAX) in
    let behind = entry_behind op table (big_number 8 (drop 2 bytes)) rest in
    ap (λ b. cond b (row_entry_at bytes) (cond (eqb op 4) (column_entry_at bytes) None)) coded
    ∙ cond-false unfit None behind (or_from (ltb (length bytes) 10) (not (ltb table TABLES_MAX)) (le-ltb _ _ (omega arith)) known)
    ∙ ap (λ (n : ℕ). entry_behind op table n rest) row_is

insert_at-again : (table row : ℕ) (content rest : List ℕ) → 0 < length content → length content ≤ ROW_WIDTH_MAX
    → insert_at table row (big_bytes 2 (length content) ++ (content ++ rest)) ≡ Some
    (Insert table (record { 0 = row }) content, 12 + length content)
insert_at-again table row content rest some few =
    let bytes : List ℕ = big_bytes 2 (length content) ++ (content ++ rest) in
    let size_is : big_number 2 bytes ≡ length content = big_number-reads_back 2 (length content) (content ++ rest) (omega arith) in
    let left = length-append content rest in
    let short : ltb (length bytes) 2 ≡ false = le-ltb _ _ (omega arith) in
    let tested : (eqb (length content) 0 || ltb ROW_WIDTH_MAX (length content) || ltb (length (content ++ rest)) (length content)) ≡ false =
    grind (arith, nat_tests) in
    let whole = take_at content rest (length content) refl in
    rw (short, size_is, tested, whole) refl

patch_at-again : (table row offset : ℕ) (content rest : List ℕ) → 0 < length content → length content ≤ OCTETS_MAX
    → offset + length content ≤ ROW_WIDTH_MAX
    → patch_at table row (big_bytes 2 offset ++ (big_bytes 2 (length content) ++ (content ++ rest))) ≡ Some
    (Patch table (record { 0 = row }) offset content, 14 + length content)
patch_at-again table row offset content rest some few within =
    let behind : List ℕ = big_bytes 2 (length content) ++ (content ++ rest) in
    let bytes : List ℕ = big_bytes 2 offset ++ behind in
    let offset_is : big_number 2 bytes ≡ offset = big_number-reads_back 2 offset behind (omega arith) in
    let size_is : big_number 2 behind ≡ length content = big_number-reads_back 2 (length content) (content ++ rest) (omega arith) in
    let left = length-append content rest in
    let short : ltb (length bytes) 4 ≡ false = le-ltb _ _ (omega arith) in
    let tested : (eqb (length content) 0 || ltb OCTETS_MAX (length content) || ltb ROW_WIDTH_MAX (offset + length content)
    || ltb (length (content ++ rest)) (length content)) ≡ false = grind (arith, nat_tests) in
    let whole = take_at content rest (length content) refl in
    rw (short, offset_is, size_is, tested, whole) refl

-- a value that a column can have is read as it is spelled
behind-again : (table code : ℕ) (default : Value) (content : List ℕ) → code ≤ OCTETS_MAX
    → width_of (kind_coded code) ≤ length content → value_of (kind_coded code) content ≡ default
    → column_at_front table (code ∷ content) ≡ Some (AddColumn table default, 3 + width_of (kind_coded code))
behind-again table code default content few wide is =
    let long : ltb (length (code ∷ content)) 1 ≡ false = le-ltb _ _ (omega arith) in
    let known : ltb OCTETS_MAX code ≡ false = le-ltb _ _ few in
    let whole : ltb (length content) (width_of (kind_coded code)) ≡ false = le-ltb _ _ wide in
    rw (long, known, whole, is) refl

column-front : (table : ℕ) (rest : List ℕ) → table < TABLES_MAX
    → entry_at (4 ∷ table ∷ rest) ≡ column_at_front table rest
column-front table rest below =
    let long : ltb (length (4 ∷ table ∷ rest)) 2 ≡ false = le-ltb _ _ (omega arith) in
    let known : ltb table TABLES_MAX ≡ true = lt-ltb _ _ below in
    rw (long, known) refl

column-again : (table : ℕ) (default : Value) (rest : List ℕ) → table < TABLES_MAX → IsColumnValue default
    → entry_at (entry_spelling (AddColumn table default) ++ rest)
    ≡ Some (AddColumn table default, length (entry_spelling (AddColumn table default)))
column-again table (values.Int number) rest below good =
    let content : List ℕ = big_bytes 8 (cast_unsigned w64 number) ++ rest in
    let number_is : big_number 8 content ≡ cast_unsigned w64 number =
    big_number-reads_back 8 (cast_unsigned w64 number) rest (of_z_fits w64 number good).fits in
    column-front table (0 ∷ content) below
    ∙ behind-again table 0 (values.Int number) content (omega arith) (omega arith)
    (ap (λ (n : ℕ). values.Int (cast_signed w64 n)) number_is ∙ ap values.Int (to_z-of_z w64 number good))
column-again table (values.Octets bytes) rest below good =
    let code = length bytes in
    let some : eqb code 0 ≡ false = ne_eqb _ _ (λ e. omega (arith, good.0, e)) in
    let kind_is : kind_coded code ≡ kinds.Octets code = ap (λ b. cond b kinds.Int (kinds.Octets code)) some in
    let wide : width_of (kind_coded code) ≤ length (bytes ++ rest) =
    omega (arith, ap width_of kind_is, length-append bytes rest) in
    let value_is : value_of (kind_coded code) (bytes ++ rest) ≡ values.Octets bytes =
    ap (λ kind. value_of kind (bytes ++ rest)) kind_is ∙ ap values.Octets (take_at bytes rest code refl) in
    column-front table (code ∷ (bytes ++ rest)) below
    ∙ behind-again table code (values.Octets bytes) (bytes ++ rest) good.1 wide value_is
    ∙ ap (λ (n : ℕ). Some (AddColumn table (values.Octets bytes), n)) (omega (arith, ap width_of kind_is))

pub entry_at-again : (entry : Entry) (rest : List ℕ) → HasSpelling entry
    → entry_at (entry_spelling entry ++ rest) ≡ Some (entry, length (entry_spelling entry))
entry_at-again (Insert table row content) rest fits =
    front-again 1 table row.0 (big_bytes 2 (length content) ++ (content ++ rest)) refl fits.table_below fits.row_below
    ∙ insert_at-again table row.0 content rest fits.some fits.few
    ∙ ap (λ (n : ℕ). Some (Insert table row content, n)) (omega arith)
entry_at-again (Patch table row offset content) rest fits =
    front-again 2 table row.0 (big_bytes 2 offset ++ (big_bytes 2 (length content) ++ (content ++ rest))) refl
    fits.table_below fits.row_below
    ∙ patch_at-again table row.0 offset content rest fits.some fits.few fits.within
    ∙ ap (λ (n : ℕ). Some (Patch table row offset content, n)) (omega arith)
entry_at-again (Delete table row) rest fits = front-again 3 table row.0 rest refl fits.table_below fits.row_below
entry_at-again (AddColumn table default) rest fits = column-again table default rest fits.table_below fits.value
