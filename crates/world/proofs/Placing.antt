-- The column that a value is for: its kind, and where it is among its row's bytes.
use Rattle.std.proofs.Common.{◌≡◌, ℕ, zero, suc, ◌+◌, ◌-◌, Bool, true, false, cond, ◌==◌, ◌&&◌, List, [], ◌∷◌, length, take}
use Rattle.std.proofs.Common.{Option, Some, None, Ok, Err, nat_lt, refl, sym, ap, ◌∙◌, arith}
use Rattle.std.specs.List.{slice_get}
use Rattle.std.specs.Option.{is_some}
use Rattle.std.specs.Result.{is_ok}
use Rattle.std.proofs.lemmas.Bool.{false≢true, eqb-true, eq-eqb, le-ltb}
use Rattle.std.proofs.lemmas.List.Sums.{sum_by-cons}
use Rattle.std.proofs.lemmas.Option.{none-some, same_Some}
use Rattle.rows.specs.declared.faults.EntryFault.TheVariants.{NotAColumn}
use Rattle.rows.specs.declared.entry.Entry.TheVariants.{Patch}
use Rattle.rows.specs.declared.kind.Kind.{Kind}
use Rattle.rows.specs.declared.kind.Kind.TheVariants.{Int as IntKind, Octets as OctetsKind}
use Rattle.rows.specs.declared.row_id.RowId.{RowId}
use Rattle.rows.specs.declared.value.Value.{Value}
use Rattle.rows.specs.declared.value.Value.TheVariants.{Int as IntValue, Octets as OctetsValue}
use Rattle.rows.specs.Shape.{Shape, row_width, width_of, column_from, column_at}
use Rattle.rows.specs.Entries.{placed, fitting}
use Rattle.rows.specs.Values.{value_bytes, is_of_kind}
use Rattle.mvcc.specs.Transactions.{match_column, column_kind, column_offset}

-- a value of a kind has as many bytes as the kind is wide
pub length-value : (value : Value) (kind : Kind) → is_of_kind value kind ≡ true → length (value_bytes value) ≡ width_of kind
length-value (IntValue number) IntKind h = refl
length-value (IntValue number) (OctetsKind width) h = absurd (false≢true h)
length-value (OctetsValue bytes) IntKind h = absurd (false≢true h)
length-value (OctetsValue bytes) (OctetsKind width) h = eqb-true (length bytes) width h

-- a column that is there is found where it begins
found-at : (before : ℕ) (kinds : List Kind) (column : ℕ) (kind : Kind) → slice_get kinds column ≡ Some kind
    → is_some (column_from before kinds (row_width (take column kinds)) (width_of kind)) ≡ true
found-at before [] column kind h = absurd (none-some kind h)
found-at before (first ∷ kinds) zero kind h =
    let same = eq-eqb (width_of kind) (width_of first) (ap width_of (sym (same_Some first kind h))) in
    rw same refl
found-at before (first ∷ kinds) (suc column) kind h =
    behind (row_width (first ∷ take column kinds)) (sum_by-cons width_of first (take column kinds))
    (found-at (before + 1) kinds column kind h)
  where
    either : (here : Bool) (rest : Option (ℕ × Kind)) → is_some rest ≡ true → is_some (cond here (Some (before, first)) rest) ≡ true
    either true rest found = refl
    either false rest found = found

    behind : (offset : ℕ) → offset ≡ width_of first + row_width (take column kinds)
        → is_some (column_from (before + 1) kinds (row_width (take column kinds)) (width_of kind)) ≡ true
        → is_some (column_from before (first ∷ kinds) offset (width_of kind)) ≡ true
    behind offset e rest =
        let beyond : nat_lt offset (width_of first) ≡ false = le-ltb offset (width_of first) (omega arith) in
        let left : offset - width_of first ≡ row_width (take column kinds) = omega arith in
        either ((offset == 0) && (width_of kind == width_of first)) _ (rw (beyond, left) rest)

-- the column that a value is for
pub record IsColumn (shape : Shape) (table column : ℕ) (value : Value) : Type 0 where
  pub kinds : List Kind
  pub kind : Kind
  pub table_is : slice_get shape table ≡ Some kinds
  pub column_is : slice_get kinds column ≡ Some kind
  pub value_is : is_of_kind value kind ≡ true
  pub offset_is : column_offset shape table column ≡ row_width (take column kinds)

pub column-matched : (shape : Shape) (table column : ℕ) (value : Value) → match_column value (column_kind shape table column) ≡ true
    → IsColumn shape table column value
column-matched shape table column value h = by (slice_get shape table) refl
  where
    of_kind : (found : Option Kind) → match_column value found ≡ true → (kind : Kind) × (found ≡ Some kind) × (is_of_kind value kind ≡ true)
    of_kind None h = absurd (false≢true h)
    of_kind (Some kind) h = (kind, refl, h)

    by : (found : Option (List Kind)) → slice_get shape table ≡ found → IsColumn shape table column value
    by None e = absurd (false≢true (rw e at h))
    by (Some kinds) e =
        let found = of_kind (slice_get kinds column) (rw e at h) in
        record { kinds = kinds; kind = found.0; table_is = e; column_is = found.1; value_is = found.2; offset_is = rw e refl }

-- its bytes are just those of the column
pub value-fits : (shape : Shape) (table : ℕ) (row : RowId) (column : ℕ) (value : Value) (at : IsColumn shape table column value)
    → is_ok (fitting shape (Patch table row (column_offset shape table column) (value_bytes value))) ≡ true
value-fits shape table row column value at =
    let offset = column_offset shape table column in
    let size = length (value_bytes value) in
    let index : is_some (column_at at.kinds offset size) ≡ true =
    ap (λ (n : ℕ). is_some (column_at at.kinds n size)) at.offset_is
    ∙ ap (λ (n : ℕ). is_some (column_at at.kinds (row_width (take column at.kinds)) n)) (length-value value at.kind at.value_is)
    ∙ found-at 0 at.kinds column at.kind at.column_is in
    ap (λ (o : Option (List Kind)). is_ok (placed o offset size)) at.table_is
    ∙ ap (λ (b : Bool). is_ok (cond b (Ok tt) (Err NotAColumn))) index
