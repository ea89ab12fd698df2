-- What is known of values and of a delete that a transaction takes.
use Rattle.std.proofs.Common.{◌≡◌, ℕ, ◌∷◌, true, List, [], length, Option, Some, None, refl, arith}
use Rattle.std.specs.List.{slice_get}
use Rattle.std.specs.Option.{is_some}
use Rattle.std.specs.Result.{is_ok}
use Rattle.std.proofs.lemmas.Bool.{false≢true, and_parts}
use Rattle.std.proofs.lemmas.List.{length-append}
use Rattle.std.proofs.lemmas.List.Sums.{sum_by-cons}
use Rattle.rows.specs.declared.entry.Entry.TheVariants.{Delete}
use Rattle.rows.specs.declared.kind.Kind.{Kind}
use Rattle.rows.specs.declared.row_id.RowId.{RowId}
use Rattle.rows.specs.declared.value.Value.{Value}
use Rattle.rows.specs.Entries.{listed, fitting}
use Rattle.rows.specs.Shape.{Shape, row_width, width_of}
use Rattle.rows.specs.Values.{value_bytes, bytes_of, is_of_kind, are_of_kinds}
use Rattle.mvcc.specs.Transactions.{match_table}
use Rattle.world.proofs.Placing.{length-value}

-- the bytes of a row are as many as its columns take
pub length-values : (values : List Value) (kinds : List Kind) → are_of_kinds values kinds ≡ true
    → length (bytes_of values) ≡ row_width kinds
length-values [] [] h = refl
length-values [] (kind ∷ kinds) h = absurd (false≢true h)
length-values (value ∷ values) [] h = absurd (false≢true h)
length-values (value ∷ others) (kind ∷ kinds) h =
    let parts = and_parts (is_of_kind value kind) (are_of_kinds others kinds) h in
    let first = length-value value kind parts.0 in
    let rest = length-values others kinds parts.1 in
    omega (arith, length-append (value_bytes value) (bytes_of others), sum_by-cons width_of kind kinds)

pub matched : (values : List Value) (found : Option (List Kind)) → match_table values found ≡ true → (kinds : List Kind)
    × (found ≡ Some kinds) × (are_of_kinds values kinds ≡ true)
matched values None h = absurd (false≢true h)
matched values (Some kinds) h = (kinds, refl, h)

-- a delete fits where its table is there
pub delete-fits : (shape : Shape) (table : ℕ) (row : RowId) → is_some (slice_get shape table) ≡ true
    → is_ok (fitting shape (Delete table row)) ≡ true
delete-fits shape table row h = by (slice_get shape table) h
  where
    by : (found : Option (List Kind)) → is_some found ≡ true → is_ok (listed found) ≡ true
    by None h = absurd (false≢true h)
    by (Some kinds) h = refl
