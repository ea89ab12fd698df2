-- A row's bytes after entries, and its values: those of its bytes.
use Rattle.std.proofs.Common.{◌≡◌, ℕ, suc, ◌+◌, ◌-◌, ◌≤◌, Bool, true, false, cond, ◌&&◌, ◌==◌, List, [], ◌∷◌, ◌++◌}
use Rattle.std.proofs.Common.{length, take, drop, slice_get, append_assoc, ◌≢◌, zero, ◌<◌, Option, None, Some, Ok, Err, nat_lt, refl, sym}
use Rattle.std.proofs.Common.{ap, subst, ◌∙◌, arith}
use Rattle.std.specs.Prelude.{nat_le, not}
use Rattle.std.specs.List.{slice_set, list_any, AllByRecursion}
use Rattle.std.specs.Option.{option_map, is_some, unwrap_or}
use Rattle.std.specs.Prelude.{IfSome}
use Rattle.std.specs.Result.{is_ok}
use Rattle.std.proofs.lemmas.Bool.{and_parts, or_parts, eqb-true, eq-eqb, ltb-false, le-leb, false≢true}
use Rattle.std.proofs.lemmas.List.Sums.{sum_by-append}
use Rattle.std.proofs.lemmas.List.{append-nil, length-replicate, take_at}
use Rattle.std.proofs.lemmas.Int.{to_z-of_z}
use Rattle.std.specs.Int.{w64, cast_signed, cast_unsigned}
use mir.ValLaws.{of_z_fits}
use Rattle.byteorder.specs.Numbers.{big_number-reads_back, length-bytes_high_first}
use Rattle.std.proofs.lemmas.Option.{slice_get_within}
use Rattle.std.proofs.lemmas.List.{drop-drop, take-append-le, drop-append-le, length-take-le, length-drop, length-append, take-take}
use Rattle.std.proofs.lemmas.List.{drop-take, drop_all}
use Rattle.std.proofs.lemmas.List.Sums.{sum_by-cons}
use Rattle.rows.specs.declared.commit.Commit.{Commit}
use Rattle.rows.specs.declared.entry.Entry.{Entry}
use Rattle.rows.specs.declared.entry.Entry.TheVariants.{Insert, Patch, Delete, AddColumn}
use Rattle.rows.specs.declared.kind.Kind.{Kind}
use Rattle.rows.specs.declared.value.Value.{Value}
use Rattle.rows.specs.Shape.{Shape, width_of, row_width, kinds_in, is_good, column_from, column_at}
use Rattle.rows.specs.Values.{value_of, value_bytes, values_of, kind_of}
use Rattle.rows.specs.declared.faults.EntryFault.TheVariants.{WrongSize, NotAColumn}
use Rattle.rows.specs.declared.value.Value.TheVariants as values
use Rattle.rows.specs.Limits.{columns_max, row_width_max}
use Rattle.rows.specs.Spelling.{IsColumnValue}
use Rattle.rows.specs.Entries.{sized, placed, addable, has_room, fitting, with_kind, shape_after_one, shape_after}
use Rattle.rows.specs.Tables.{patched_row}
use Rattle.rows.specs.Commits.{is_of, shape_after_commits}
use Rattle.rows.specs.Laws.{WidthTellsValue, VersionsTellKinds}
use Rattle.rows.specs.ListLaws.{BeginningsAreDefined, FitInTurn, CommitsFitInTurn, EachFits, RowsAreLeft}
use Rattle.rows.specs.RowAfter.{row_after_one, row_after_entry, row_after, row_after_commits}
use Rattle.mvcc.specs.Inner.Keys.{names}
use Rattle.mvcc.specs.Inner.RowBytes.{wide, patched_bytes, bytes_after_one, bytes_after_entry, bytes_after, bytes_after_commits}
use Rattle.mvcc.specs.Inner.RowBytes.{blank_in, blank_after_one, blank_after, blank_after_commits, HasValue, HaveValues, IsTold}
use Rattle.mvcc.specs.Inner.RowBytes.{RowsHaveBytes}

-- one more entry at the end, or one more commit
pub blank_after-push : (table : ℕ) (blank : List ℕ) (entries : List Entry) (entry : Entry)
    → blank_after table blank (entries ++ entry ∷ []) ≡ blank_after_one table (blank_after table blank entries) entry
blank_after-push table blank [] entry = refl
blank_after-push table blank (first ∷ entries) entry = blank_after-push table (blank_after_one table blank first) entries entry

pub bytes_after-push : (table row : ℕ) (blank : List ℕ) (entries : List Entry) (entry : Entry) (was : Option (List ℕ))
    → bytes_after table row blank (entries ++ entry ∷ []) was
    ≡ bytes_after_entry table row (blank_after table blank entries) entry (bytes_after table row blank entries was)
bytes_after-push table row blank [] entry was = refl
bytes_after-push table row blank (first ∷ entries) entry was =
    bytes_after-push table row (blank_after_one table blank first) entries entry (bytes_after_entry table row blank first was)

pub bytes_after_commits-push : (table row : ℕ) (blank : List ℕ) (commits : List Commit) (commit : Commit) (was : Option (List ℕ))
    → bytes_after_commits table row blank (commits ++ commit ∷ []) was
    ≡ bytes_after table row (blank_after_commits table blank commits) commit.entries (bytes_after_commits table row blank commits was)
bytes_after_commits-push table row blank [] commit was = refl
bytes_after_commits-push table row blank (first ∷ commits) commit was =
    bytes_after_commits-push table row (blank_after table blank first.entries) commits commit
    (bytes_after table row blank first.entries was)

-- entries that are not of a row leave its bytes
pub bytes_after-unnamed : (table row : ℕ) (blank : List ℕ) (entries : List Entry) (was : Option (List ℕ))
    → list_any (names table row) entries ≡ false → bytes_after table row blank entries was ≡ was
bytes_after-unnamed table row blank [] was h = refl
bytes_after-unnamed table row blank (entry ∷ entries) was h =
    let parts = or_parts (names table row entry) (list_any (names table row) entries) h in
    ap (λ here. bytes_after table row (blank_after_one table blank entry) entries (cond here (bytes_after_one blank entry was) was)) parts.0
    ∙ bytes_after-unnamed table row (blank_after_one table blank entry) entries was parts.1

-- bytes with others from an offset on
abbrev put_at : ℕ → List ℕ → List ℕ → List ℕ
put_at offset bytes row = take offset row ++ bytes ++ drop (offset + length bytes) row

-- at the front of the row, and behind its first column
put-first : (bytes row : List ℕ) (n : ℕ) → n ≡ length bytes
    → (take n (put_at 0 bytes row) ≡ take n bytes) × (drop n (put_at 0 bytes row) ≡ drop n row)
put-first bytes row n e =
    let front : n ≤ length bytes = omega arith in
    let same : 0 + length bytes ≡ n = omega arith in (
      take-append-le n bytes (drop (0 + length bytes) row) front,
      drop-append-le n bytes (drop (0 + length bytes) row) front
          ∙ ap (λ past. past ++ drop (0 + length bytes) row) (drop_all n bytes (omega arith))
          ∙ ap (λ m. drop m row) same,
    )

put-later : (bytes row : List ℕ) (n m : ℕ) → n + m ≤ length row
    → (take n (put_at (n + m) bytes row) ≡ take n row) × (drop n (put_at (n + m) bytes row) ≡ put_at m bytes (drop n row))
put-later bytes row n m h =
    let front = take (n + m) row in
    let rest = drop (n + m + length bytes) row in
    let long : n ≤ length front = omega (arith, length-take-le (n + m) row h) in
    let longer : n ≤ length (front ++ bytes) = omega (arith, length-append front bytes, long) in
    let end : n + (m + length bytes) ≡ n + m + length bytes = omega arith in (
      take-append-le n (front ++ bytes) rest longer ∙ take-append-le n front bytes long ∙ take-take n (n + m) row (omega arith),
      drop-append-le n (front ++ bytes) rest longer
          ∙ ap (λ first. first ++ rest) (drop-append-le n front bytes long ∙ ap (λ first. first ++ bytes) (drop-take n m row))
          ∙ ap (λ back. take m (drop n row) ++ bytes ++ back) (ap (λ k. drop k row) (sym end) ∙ sym (drop-drop (m + length bytes) n row)),
    )

-- a value where its column's bytes stand, the column being told behind `before` others
abbrev IsPut : ℕ → List Kind → ℕ → ℕ → Kind → List ℕ → List ℕ → Type 0
IsPut before columns offset column kind bytes row =
    (before ≤ column) × (offset + length bytes ≤ row_width columns)
    × (slice_set (values_of columns row) (column - before) (value_of kind bytes) ≡ values_of columns (put_at offset bytes row))

put-values : (tells : WidthTellsValue) (before : ℕ) (columns : List Kind) (offset column : ℕ) (kind : Kind) (bytes row : List ℕ)
    → column_from before columns offset (length bytes) ≡ Some (column, kind) → row_width columns ≤ length row
    → IsPut before columns offset column kind bytes row
put-values tells before [] offset column kind bytes row e wide = absurd cc
put-values tells before (first ∷ columns) offset column kind bytes row e wide =
    let rest = drop (width_of first) row in
    by ((offset == 0) && (length bytes == width_of first)) (nat_lt offset (width_of first)) refl refl
    (λ m found. put-values tells (before + 1) columns m column kind bytes rest found
    (omega (arith, whole, wide, length-drop (width_of first) row))) e
  where
    whole : row_width (first ∷ columns) ≡ width_of first + row_width columns
    whole = sum_by-cons width_of first columns

    here : (before ≡ column) → (first ≡ kind) → (offset ≡ 0) → (length bytes ≡ width_of first)
        → IsPut before (first ∷ columns) offset column kind bytes row
    here at is front same =
        let none : column - before ≡ 0 = omega (arith, at) in
        let put = put-first bytes row (width_of first) (sym same) in (
          omega (arith, at),
          omega (arith, front, same, whole),
          rw (none, ← is, front)
              (ap (λ value. value ∷ values_of columns (drop (width_of first) row)) (sym (tells first (put_at 0 bytes row) bytes put.0))
              ∙ ap (λ rest. value_of first (put_at 0 bytes row) ∷ values_of columns rest) (sym put.1)),
        )

    later : (m : ℕ) → offset ≡ width_of first + m → IsPut (before + 1) columns m column kind bytes (drop (width_of first) row)
        → IsPut before (first ∷ columns) offset column kind bytes row
    later m far next =
        let behind : column - before ≡ suc (column - (before + 1)) = omega (arith, next.0) in
        let put = put-later bytes row (width_of first) m (omega (arith, next.1, whole, wide)) in (
          omega (arith, next.0),
          omega (arith, next.1, whole, far),
          rw (behind, far)
              (ap (λ values. value_of first row ∷ values) (next.2 ∙ ap (values_of columns) (sym put.1))
              ∙ ap (λ value. value ∷ values_of columns (drop (width_of first) (put_at (width_of first + m) bytes row)))
              (sym (tells first (put_at (width_of first + m) bytes row) row put.0))),
        )

    by : (found short : Bool) → ((offset == 0) && (length bytes == width_of first)) ≡ found → nat_lt offset (width_of first) ≡ short
        → ((m : ℕ) → column_from (before + 1) columns m (length bytes) ≡ Some (column, kind)
        → IsPut (before + 1) columns m column kind bytes (drop (width_of first) row))
        → cond found (Some (before, first)) (cond short None (column_from (before + 1) columns (offset - width_of first) (length bytes)))
        ≡ Some (column, kind)
        → IsPut before (first ∷ columns) offset column kind bytes row
    by true short f s next e =
        let parts = and_parts (offset == 0) (length bytes == width_of first) f in
        let same : ◌≡◌ {A = ℕ × Kind} (before, first) (column, kind) = cc in
        here (ap (λ (column : ℕ × Kind). column.0) same) (ap (λ (column : ℕ × Kind). column.1) same) (eqb-true offset 0 parts.0)
        (eqb-true (length bytes) (width_of first) parts.1)
    by false true f s next e = absurd cc
    by false false f s next e =
        let m = offset - width_of first in
        later m (omega (arith, ltb-false offset (width_of first) s)) (next m e)

-- a patched row: its values are those of the patched bytes
patched-values : (tells : WidthTellsValue) (columns : List Kind) (offset : ℕ) (bytes row : List ℕ)
    → is_some (column_at columns offset (length bytes)) ≡ true
    → length row ≡ row_width columns
    → (patched_row columns offset bytes (values_of columns row) ≡ values_of columns (patched_bytes offset bytes row))
    × (length (patched_bytes offset bytes row) ≡ row_width columns)
patched-values tells columns offset bytes row placed wide = by (column_at columns offset (length bytes)) refl
  where
    by : (found : Option (ℕ × Kind)) → column_at columns offset (length bytes) ≡ found
        → (patched_row columns offset bytes (values_of columns row) ≡ values_of columns (patched_bytes offset bytes row))
        × (length (patched_bytes offset bytes row) ≡ row_width columns)
    by None e = absurd (let none : is_some {T = ℕ × Kind} None ≡ true = ap is_some (sym e) ∙ placed in cc)
    by (Some column) e =
        let first : column.0 ≡ column.0 - 0 = omega arith in
        let put = put-values tells 0 columns offset column.0 column.1 bytes row e (omega (arith, wide)) in
        let within : nat_le (offset + length bytes) (length row) ≡ true = le-leb _ _ (omega (arith, put.1, wide)) in
        let front : offset ≤ length row = omega (arith, put.1, wide) in
        rw (e, within, first) (
          put.2,
          omega (
            arith,
            length-append (take offset row ++ bytes) (drop (offset + length bytes) row),
            length-append (take offset row) bytes,
            length-take-le offset row front,
            length-drop (offset + length bytes) row,
            put.1,
            wide,
          ),
        )

-- a list in which one place was set
get-same : {X : Type 0} (list : List X) (n : ℕ) (x : X) → n < length list → slice_get (slice_set list n x) n ≡ Some x
get-same [] n x h = absurd (omega arith)
get-same (y ∷ list) zero x h = refl
get-same (y ∷ list) (suc n) x h = get-same list n x (omega arith)

get-other : {X : Type 0} (list : List X) (n k : ℕ) (x : X) → k ≢ n → slice_get (slice_set list n x) k ≡ slice_get list k
get-other [] n k x h = refl
get-other (y ∷ list) zero zero x h = absurd (h refl)
get-other (y ∷ list) zero (suc k) x h = refl
get-other (y ∷ list) (suc n) zero x h = refl
get-other (y ∷ list) (suc n) (suc k) x h = get-other list n k x (λ e. h (ap suc e))

-- a value that a column can have is read of its bytes
value-back : (value : Value) (rest : List ℕ) → IsColumnValue value → value_of (kind_of value) (value_bytes value ++ rest) ≡ value
value-back (values.Int number) rest good =
    ap (λ (n : ℕ). values.Int (cast_signed w64 n))
    (big_number-reads_back 8 (cast_unsigned w64 number) rest (of_z_fits w64 number good).fits)
    ∙ ap values.Int (to_z-of_z w64 number good)
value-back (values.Octets bytes) rest good = ap values.Octets (take_at bytes rest (length bytes) refl)

value-width : (value : Value) → length (value_bytes value) ≡ width_of (kind_of value)
value-width (values.Int number) = length-bytes_high_first 8 (cast_unsigned w64 number)
value-width (values.Octets bytes) = refl

-- the values of a row with one more column: the bytes of that column stand behind the others
values-more : (tells : WidthTellsValue) (columns : List Kind) (value : Value) (row : List ℕ) → length row ≡ row_width columns
    → IsColumnValue value
    → values_of (columns ++ kind_of value ∷ []) (row ++ value_bytes value) ≡ values_of columns row ++ value ∷ []
values-more tells [] value [] h good =
    ap (λ v. v ∷ []) (ap (value_of (kind_of value)) (sym (append-nil (value_bytes value))) ∙ value-back value [] good)
values-more tells [] value (byte ∷ row) h good = absurd (omega arith)
values-more tells (first ∷ columns) value row h good =
    let whole = sum_by-cons width_of first columns in
    let rest = drop (width_of first) row in
    let long : width_of first ≤ length row = omega (arith, h, whole) in
    let behind : drop (width_of first) (row ++ value_bytes value) ≡ rest ++ value_bytes value =
    drop-append-le (width_of first) row (value_bytes value) long in
    let front : value_of first (row ++ value_bytes value) ≡ value_of first row =
    tells first (row ++ value_bytes value) row (take-append-le (width_of first) row (value_bytes value) long) in
    ap (λ v. v ∷ values_of (columns ++ kind_of value ∷ []) (drop (width_of first) (row ++ value_bytes value))) front
    ∙ ap (λ b. value_of first row ∷ values_of (columns ++ kind_of value ∷ []) b) behind
    ∙ ap (λ vs. value_of first row ∷ vs) (values-more tells columns value rest (omega (
      arith,
      h,
      whole,
      length-drop (width_of first) row,
    )) good)

-- a row made wide
pub length-wide : (blank row : List ℕ) → length row ≤ length blank → length (wide blank row) ≡ length blank
length-wide blank row h = omega (arith, length-append row (drop (length row) blank), length-drop (length row) blank)

pub wide-more : (blank row more : List ℕ) → length row ≤ length blank → wide (blank ++ more) row ≡ wide blank row ++ more
wide-more blank row more h =
    ap (λ back. row ++ back) (drop-append-le (length row) blank more h) ∙ sym (append_assoc row (drop (length row) blank) more)

pub wide-same : (blank row : List ℕ) → length row ≡ length blank → wide blank row ≡ row
wide-same blank row h = ap (λ back. row ++ back) (drop_all (length row) blank (omega (arith, h))) ∙ append-nil row

-- the kinds of a table once a column was added that fits
module _ (shape : Shape) (table : ℕ) where
  pub added-kinds : (default : Value) → is_ok (addable (slice_get shape table) default) ≡ true
      → kinds_in (shape_after_one shape (AddColumn table default)) table ≡ kinds_in shape table ++ kind_of default ∷ []
  added-kinds default h = rw h (by (slice_get shape table) refl h)
    where
      by : (found : Option (List Kind)) → slice_get shape table ≡ found → is_ok (addable found default) ≡ true
          → kinds_in (with_kind shape table (kind_of default)) table ≡ kinds_in shape table ++ kind_of default ∷ []
      by None e h = absurd cc
      by (Some kinds) e h =
          ap (λ found. unwrap_or found [])
          (get-same shape table (kinds_in shape table ++ kind_of default ∷ []) (slice_get_within shape table kinds e))

  pub other-kinds : (at : ℕ) (default : Value) → (at == table) ≡ false
      → kinds_in (shape_after_one shape (AddColumn at default)) table ≡ kinds_in shape table
  other-kinds at default h = by (is_ok (addable (slice_get shape at) default))
    where
      apart : table ≢ at
      apart e = absurd (false≢true (sym h ∙ eq-eqb at table (sym e)))

      by : (fits : Bool) → kinds_in (cond fits (with_kind shape at (kind_of default)) shape) table ≡ kinds_in shape table
      by true = ap (λ found. unwrap_or found []) (get-other shape at table (kinds_in shape at ++ kind_of default ∷ []) apart)
      by false = refl

-- a column can be of the kind of one that fits
room-good : (kinds : List Kind) (kind : Kind) → has_room kinds kind ≡ true → is_good kind ≡ true
room-good kinds kind room =
    let few = nat_lt (length kinds) columns_max in
    let first = and_parts (is_good kind && few) (not (nat_lt row_width_max (row_width kinds + width_of kind))) room in
    (and_parts (is_good kind) few first.0).0

good-kind : (found : Option (List Kind)) (default : Value) → is_ok (addable found default) ≡ true → is_good (kind_of default) ≡ true
good-kind None default h = absurd cc
good-kind (Some kinds) default h = by (has_room kinds (kind_of default)) h (room-good kinds (kind_of default))
  where
    by : (room : Bool) → is_ok {T = Unit {0}} (cond room (Ok tt) (Err WrongSize)) ≡ true
        → (room ≡ true → is_good (kind_of default) ≡ true) → is_good (kind_of default) ≡ true
    by true h next = next refl
    by false h next = absurd cc

-- what an entry that fits leaves of a row
module _ (tells : WidthTellsValue) (table row : ℕ) where
  sized-wide : (shape : Shape) (found : Option (List Kind)) (size : ℕ) → slice_get shape table ≡ found → is_ok (sized found size) ≡ true
      → size ≡ row_width (kinds_in shape table)
  sized-wide shape None size e h = absurd cc
  sized-wide shape (Some kinds) size e h = rw e (by (size == row_width kinds) (eqb-true size (row_width kinds)) h)
    where
      by : (same : Bool) → (same ≡ true → size ≡ row_width kinds)
          → is_ok {T = Unit {0}} (cond same (Ok tt) (Err WrongSize)) ≡ true → size ≡ row_width kinds
      by true is h = is refl
      by false is h = absurd cc

  placed-column : (shape : Shape) (found : Option (List Kind)) (offset size : ℕ) → slice_get shape table ≡ found
      → is_ok (placed found offset size) ≡ true
      → is_some (column_at (kinds_in shape table) offset size) ≡ true
  placed-column shape None offset size e h = absurd cc
  placed-column shape (Some kinds) offset size e h = rw e (by (is_some (column_at kinds offset size)) h)
    where
      by : (found : Bool) → is_ok {T = Unit {0}} (cond found (Ok tt) (Err NotAColumn)) ≡ true → found ≡ true
      by true h = refl
      by false h = absurd cc

  abbrev Told : Shape → List ℕ → Option (List Value) → Option (List ℕ) → Type 0
  Told shape blank values bytes = IsTold (kinds_in shape table) blank values bytes

  one-told : (shape : Shape) (blank : List ℕ) (entry : Entry) (values : Option (List Value)) (bytes : Option (List ℕ))
      → is_ok (fitting shape entry) ≡ true → HasValue entry → is_of table row entry ≡ true → Told shape blank values bytes
      → Told (shape_after_one shape entry) (blank_after_one table blank entry) (row_after_one (kinds_in shape table) entry values)
      (bytes_after_one blank entry bytes)
  one-told shape blank (Insert t r put) values None fits has here was =
      let same : t ≡ table = eqb-true t table (and_parts (t == table) (r.0 == row) here).0 in
      let size = sized-wide shape (slice_get shape t) (length put) (ap (slice_get shape) (sym same)) fits in
      let long : length put ≡ length blank = omega (arith, size, was.blank_wide) in
      record {
        told = ap (row_after_one (kinds_in shape table) (Insert t r put)) was.told
            ∙ ap (λ b. Some (values_of (kinds_in shape table) b)) (sym (wide-same blank put long));
        narrow = omega (arith, long);
        blank_wide = was.blank_wide;
      }
  one-told shape blank (Insert t r put) values (Some before) fits has here was = record {
    told = ap (row_after_one (kinds_in shape table) (Insert t r put)) was.told;
    narrow = was.narrow;
    blank_wide = was.blank_wide;
  }
  one-told shape blank (Patch t r offset put) values None fits has here was = record {
    told = ap (row_after_one (kinds_in shape table) (Patch t r offset put)) was.told;
    narrow = tt;
    blank_wide = was.blank_wide;
  }
  one-told shape blank (Patch t r offset put) values (Some before) fits has here was =
      let columns = kinds_in shape table in
      let same : t ≡ table = eqb-true t table (and_parts (t == table) (r.0 == row) here).0 in
      let column = placed-column shape (slice_get shape t) offset (length put) (ap (slice_get shape) (sym same)) fits in
      let long = length-wide blank before was.narrow in
      let patched = patched-values tells columns offset put (wide blank before) column (long ∙ was.blank_wide) in
      let full : length (patched_bytes offset put (wide blank before)) ≡ length blank = patched.1 ∙ sym was.blank_wide in
      record {
        told = ap (row_after_one columns (Patch t r offset put)) was.told
            ∙ ap Some (patched.0 ∙ ap (values_of columns) (sym (wide-same blank (patched_bytes offset put (wide blank before)) full)));
        narrow = omega (arith, full);
        blank_wide = was.blank_wide;
      }
  one-told shape blank (Delete t r) values bytes fits has here was = record { told = refl; narrow = tt; blank_wide = was.blank_wide }
  one-told shape blank (AddColumn t default) values bytes fits has here was =
      let columns = kinds_in shape table in
      let same : t ≡ table = eqb-true t table here in
      let fits' : is_ok (addable (slice_get shape table) default) ≡ true =
      ap (λ t. is_ok (addable (slice_get shape t) default)) (sym same) ∙ fits in
      let kinds : kinds_in (shape_after_one shape (AddColumn t default)) table ≡ columns ++ kind_of default ∷ [] =
      ap (λ t. kinds_in (shape_after_one shape (AddColumn t default)) table) same ∙ added-kinds shape table default fits' in
      let width = value-width default in
      let good : IsColumnValue default = has (good-kind (slice_get shape t) default fits) in
      rw (kinds, here) (record {
        told = ap (option_map (λ values. values ++ default ∷ [])) was.told ∙ more good bytes was.narrow;
        narrow = narrower bytes was.narrow;
        blank_wide = omega (
          arith,
          was.blank_wide,
          width,
          length-append blank (value_bytes default),
          sum_by-append width_of columns (kind_of default ∷ []),
        );
      })
    where
      more : IsColumnValue default → (bytes : Option (List ℕ)) → IfSome bytes (λ row. length row ≤ length blank)
          → option_map (λ values. values ++ default ∷ []) (option_map (λ row. values_of (kinds_in shape table) (wide blank row)) bytes)
          ≡ option_map (λ row. values_of (kinds_in shape table ++ kind_of default ∷ []) (wide (blank ++ value_bytes default) row)) bytes
      more good None h = refl
      more good (Some before) h =
          let long = length-wide blank before h in
          ap Some (sym (ap (values_of (kinds_in shape table ++ kind_of default ∷ [])) (wide-more blank before (value_bytes default) h)
          ∙ values-more tells (kinds_in shape table) default (wide blank before) (long ∙ was.blank_wide) good))

      narrower : (bytes : Option (List ℕ)) → IfSome bytes (λ row. length row ≤ length blank)
          → IfSome bytes (λ row. length row ≤ length (blank ++ value_bytes default))
      narrower None h = tt
      narrower (Some before) h = omega (arith, h, length-append blank (value_bytes default))

  -- an entry that is not of the row leaves kinds, blank row, values and bytes
  other-told : (shape : Shape) (blank : List ℕ) (entry : Entry) (values : Option (List Value)) (bytes : Option (List ℕ))
      → is_of table row entry ≡ false → Told shape blank values bytes
      → Told (shape_after_one shape entry) (blank_after_one table blank entry) values bytes
  other-told shape blank (Insert t r put) values bytes e was = was
  other-told shape blank (Patch t r offset put) values bytes e was = was
  other-told shape blank (Delete t r) values bytes e was = was
  other-told shape blank (AddColumn t default) values bytes e was = rw (other-kinds shape table t default e, e) was

  -- an entry that is of the row and not of it alone leaves the row's bytes
  named : (blank : List ℕ) (entry : Entry) (bytes : Option (List ℕ))
      → bytes_after_entry table row blank entry bytes ≡ cond (is_of table row entry) (bytes_after_one blank entry bytes) bytes
  named blank (Insert t r put) bytes = refl
  named blank (Patch t r offset put) bytes = refl
  named blank (Delete t r) bytes = refl
  named blank (AddColumn t default) bytes = same (t == table)
    where
      same : (here : Bool) → bytes ≡ cond here bytes bytes
      same true = refl
      same false = refl

  entry-told : (shape : Shape) (blank : List ℕ) (entry : Entry) (values : Option (List Value)) (bytes : Option (List ℕ))
      → is_ok (fitting shape entry) ≡ true → HasValue entry → Told shape blank values bytes
      → Told (shape_after_one shape entry) (blank_after_one table blank entry) (row_after_entry shape table row entry values)
      (bytes_after_entry table row blank entry bytes)
  entry-told shape blank entry values bytes fits has was =
      subst (Told (shape_after_one shape entry) (blank_after_one table blank entry) (row_after_entry shape table row entry values))
      (sym (named blank entry bytes)) (by (is_of table row entry) refl)
    where
      by : (here : Bool) → is_of table row entry ≡ here
          → Told (shape_after_one shape entry) (blank_after_one table blank entry)
          (cond here (row_after_one (kinds_in shape table) entry values) values) (cond here (bytes_after_one blank entry bytes) bytes)
      by true e = one-told shape blank entry values bytes fits has e was
      by false e = other-told shape blank entry values bytes e was

  -- entries that fit in turn, and commits
  entries-told : (shape : Shape) (blank : List ℕ) (entries : List Entry) (values : Option (List Value)) (bytes : Option (List ℕ))
      → FitInTurn shape entries → AllByRecursion HasValue entries → Told shape blank values bytes
      → Told (shape_after shape entries) (blank_after table blank entries) (row_after shape table row entries values)
      (bytes_after table row blank entries bytes)
  entries-told shape blank [] values bytes fit has was = was
  entries-told shape blank (entry ∷ entries) values bytes fit has was =
      entries-told (shape_after_one shape entry) (blank_after_one table blank entry) entries _ _ fit.1 has.1
      (entry-told shape blank entry values bytes fit.0 has.0 was)

  commits-told : (shape : Shape) (blank : List ℕ) (commits : List Commit) (values : Option (List Value)) (bytes : Option (List ℕ))
      → CommitsFitInTurn shape commits → HaveValues commits
      → Told shape blank values bytes
      → Told (shape_after_commits shape commits) (blank_after_commits table blank commits)
      (row_after_commits shape table row commits values) (bytes_after_commits table row blank commits bytes)
  commits-told shape blank [] values bytes fit has was = was
  commits-told shape blank (commit ∷ commits) values bytes fit has was =
      commits-told (shape_after shape commit.entries) (blank_after table blank commit.entries) commits _ _ fit.1 has.1
      (entries-told shape blank commit.entries values bytes fit.0 has.0 was)

first-have : (version : ℕ) (commits : List Commit) → HaveValues commits → HaveValues (take version commits)
first-have zero [] has = tt
first-have zero (commit ∷ commits) has = tt
first-have (suc version) [] has = tt
first-have (suc version) (commit ∷ commits) has = (has.0, first-have version commits has.1)

-- a row at a version is that of its bytes after the commits up to it
pub rows-have_bytes : WidthTellsValue → BeginningsAreDefined → EachFits → RowsAreLeft → VersionsTellKinds → RowsHaveBytes
rows-have_bytes tells first fits left kinds shape commits version table row h has =
    let begun = first shape commits version h in
    let blank = blank_in shape table in
    rw (kinds shape commits version h)
    (subst (λ values. IsTold (kinds_in (shape_after_commits shape (take version commits)) table)
    (blank_after_commits table blank (take version commits)) values
    (bytes_after_commits table row blank (take version commits) None)) (sym (left shape commits version table row h))
    (commits-told tells table row shape blank (take version commits) None None (fits shape (take version commits) (ap is_ok begun))
    (first-have version commits has)
    (record { told = refl; narrow = tt; blank_wide = length-replicate (row_width (kinds_in shape table)) 0 })))
