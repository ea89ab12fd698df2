-- A column that fits is added to the table, in tables where it is.
use Rattle.std.proofs.Common.{◌≡◌, ℕ, true, [], ◌∷◌, ◌++◌, Some, Ok, slice_get, slice_set, refl, sym, ap, ◌∙◌}
use Rattle.std.specs.Option.{option_map}
use Rattle.std.specs.Result.{is_ok}
use Rattle.std.proofs.lemmas.Option.{slice_get-map}
use Rattle.std.proofs.lemmas.Result.{on_ok_weaker, IfErr-weaker}
use Rattle.rows.specs.declared.entry.Entry.TheVariants.{AddColumn}
use Rattle.rows.specs.declared.value.Value.{Value}
use Rattle.rows.specs.Entries.{addable, fitting_in}
use Rattle.rows.specs.Tables.{Table, Tables, apply_entry, with_column}
use Rattle.rows.specs.Values.{kind_of}
use Rattle.store.specs.Changes.{fault_kind}
use Rattle.store.specs.Faults.{number_of}
use Rattle.store.specs.declared.faults.StoreFault.TheVariants.{Memory}
use Rattle.store.proofs.changing.change_table.Goals as goal

column-made : (tables : Tables) (was : Table) (table : ℕ) (default : Value) → slice_get tables table ≡ Some was
    → is_ok (addable (Some was.kinds) default) ≡ true
    → apply_entry tables (AddColumn table default) ≡ Ok (slice_set tables table (record {
      kinds = was.kinds ++ kind_of default ∷ [];
      rows = with_column default was.rows;
    }))
column-made tables was table default there fits =
    let kinds = slice_get-map (λ (t : Table). t.kinds) tables table ∙ ap (option_map (λ (t : Table). t.kinds)) there in
    rw (kinds, there, fits) refl

pub returns-in-AddColumn-clause-ok : goal.returns-in-AddColumn-clause-ok
returns-in-AddColumn-clause-ok g c =
    let was = g.T.TableRows.table c.args.table.now in
    let table = c.in-AddColumn.table in
    let default = c.in-AddColumn.default in
    let fits = ap (λ kinds. is_ok (addable (Some kinds) default)) (sym c.kinds.ensures.value)
    ∙ ap (λ entry. is_ok (fitting_in (Some c.kinds.result.now) entry)) (sym c.in-AddColumn.is)
    ∙ ap is_ok (sym c.fits_columns.ensures) ∙ c.if-is_err.ensures.negation in
    rw c.in-AddColumn.is
    (on_ok_weaker c.add_column.result (λ same tables there. column-made tables was table default there fits
    ∙ ap (λ (t : Table). Ok (slice_set tables table t)) (sym same)) c.add_column.ensures.ok)

pub returns-in-AddColumn-clause-refused : goal.returns-in-AddColumn-clause-refused
returns-in-AddColumn-clause-refused g c =
    let was = g.T.TableRows.table c.args.table.now in
    let table = c.in-AddColumn.table in
    let default = c.in-AddColumn.default in
    let fits = ap (λ kinds. is_ok (addable (Some kinds) default)) (sym c.kinds.ensures.value)
    ∙ ap (λ entry. is_ok (fitting_in (Some c.kinds.result.now) entry)) (sym c.in-AddColumn.is)
    ∙ ap is_ok (sym c.fits_columns.ensures) ∙ c.if-is_err.ensures.negation in
    rw c.in-AddColumn.is
    (IfErr-weaker c.add_column.result (λ fault. fault ≡ Memory) _
    (λ fault memory tables there. ap number_of memory ∙ ap (fault_kind true) (sym (column-made tables was table default there fits)))
    c.add_column.ensures.refused)
