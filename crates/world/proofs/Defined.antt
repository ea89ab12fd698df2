-- A change that is taken leaves a transaction whose entries are defined on the rows at its snapshot.
use Rattle.std.proofs.Common.{◌≡◌, ℕ, Bool, true, cond, List, [], ◌∷◌, ◌++◌, length, Option, Some, Ok, Err, refl, sym, ap, subst, ◌∙◌}
use Rattle.std.specs.List.{slice_get}
use Rattle.std.specs.Result.{is_ok}
use Rattle.std.proofs.lemmas.Bool.{eq-eqb, and_from}
use Rattle.rows.specs.declared.commit.Commit.{Commit}
use Rattle.rows.specs.declared.entry.Entry.{Entry}
use Rattle.rows.specs.declared.entry.Entry.TheVariants.{Insert}
use Rattle.rows.specs.declared.faults.EntryFault.TheVariants.{WrongSize}
use Rattle.rows.specs.declared.kind.Kind.{Kind}
use Rattle.rows.specs.declared.row_id.RowId.{RowId}
use Rattle.rows.specs.declared.value.Value.{Value}
use Rattle.rows.specs.Shape.{Shape, row_width}
use Rattle.rows.specs.Entries.{sized, fitting, shape_after}
use Rattle.rows.specs.Tables.{shape_in, is_row_at, apply_entries}
use Rattle.rows.specs.Commits.{tables_after}
use Rattle.rows.specs.Presence.{stands_for, is_there_after}
use Rattle.rows.specs.Values.{bytes_of}
use Rattle.mvcc.specs.Transaction.{Transaction}
use Rattle.mvcc.specs.Transactions.{match_table, seen_shape, sees, insert_answer, set_answer, delete_answer, add_column_answer}
use Rattle.world.proofs.Adding.{IsAdded, insert-added, set-added, delete-added, column-added}
use Rattle.world.proofs.Placing.{column-matched, value-fits}
use Rattle.world.proofs.Changing.{length-values, matched, delete-fits}
use Rattle.world.specs.Inner.StepLaws.{StepLaws}

sized-matched : (found : Option (List Kind)) (kinds : List Kind) (size : ℕ) → found ≡ Some kinds → size ≡ row_width kinds
    → is_ok (sized found size) ≡ true
sized-matched found kinds size e f =
    ap (λ (o : Option (List Kind)). is_ok (sized o size)) e
    ∙ ap (λ (b : Bool). is_ok (cond b (Ok tt) (Err WrongSize))) (eq-eqb size (row_width kinds) f)

values-fit : (shape : Shape) (table : ℕ) (row : RowId) (values : List Value) → match_table values (slice_get shape table) ≡ true
    → is_ok (fitting shape (Insert table row (bytes_of values))) ≡ true
values-fit shape table row values h =
    let found = matched values (slice_get shape table) h in
    sized-matched (slice_get shape table) found.0 (length (bytes_of values)) found.1 (length-values values found.0 found.2)

-- a transaction that reads the same version, whose entries are defined there
pub record IsDefined (shape : Shape) (commits : List Commit) (draft new : Transaction) : Type 0 where
  pub reads : new.snapshot ≡ draft.snapshot
  pub defined : is_ok (apply_entries (tables_after shape commits draft.snapshot) new.entries) ≡ true

module _ (laws : StepLaws) (shape : Shape) (commits : List Commit) (draft new : Transaction)
    (defined : is_ok (apply_entries (tables_after shape commits draft.snapshot) draft.entries) ≡ true) where
  -- an entry that fits, and whose row stands as it needs it, is defined behind the others
  added-defined : (entry : Entry) → is_ok (fitting (seen_shape shape commits draft) entry) ≡ true
      → IsAdded shape commits draft entry new → IsDefined shape commits draft new
  added-defined entry fits added =
      let tables = tables_after shape commits draft.snapshot in
      let table = added.table in
      let row = added.row in
      let was = is_row_at tables table row in
      let seen : is_there_after table row draft.entries was ≡ sees shape commits draft table row =
      sym (laws.presence tables draft.entries table row defined) in
      let is : is_ok (apply_entries tables (draft.entries ++ entry ∷ [])) ≡ true =
      laws.longer shape commits draft.snapshot draft.entries entry table row added.of_row defined
      ∙ and_from (is_ok (fitting (shape_after (shape_in tables) draft.entries) entry))
      (stands_for entry (is_there_after table row draft.entries was))
      (ap (λ (s : Shape). is_ok (fitting s entry)) (sym (laws.applied tables draft.entries)) ∙ fits)
      (ap (stands_for entry) seen ∙ added.stands) in
      subst (IsDefined shape commits draft) (sym added.made) (record { reads = refl; defined = is })

  pub insert-defined : (table row : ℕ) (values : List Value) → insert_answer shape commits draft table row values ≡ Ok new
      → IsDefined shape commits draft new
  insert-defined table row values h =
      let taken = insert-added shape commits draft table row new values h in
      added-defined _ (values-fit (seen_shape shape commits draft) table (record { 0 = row }) values taken.0) taken.1

  pub set-defined : (table row column : ℕ) (value : Value) → set_answer shape commits draft table row column value ≡ Ok new
      → IsDefined shape commits draft new
  set-defined table row column value h =
      let taken = set-added shape commits draft table row new column value h in
      let at = column-matched (seen_shape shape commits draft) table column value taken.0 in
      added-defined _ (value-fits (seen_shape shape commits draft) table (record { 0 = row }) column value at) taken.1

  pub delete-defined : (table row : ℕ) → delete_answer shape commits draft table row ≡ Ok new → IsDefined shape commits draft new
  delete-defined table row h =
      let taken = delete-added shape commits draft table row new h in
      added-defined _ (delete-fits (seen_shape shape commits draft) table (record { 0 = row }) taken.0) taken.1

  pub column-defined : (table : ℕ) (default : Value) → add_column_answer shape commits draft table default ≡ Ok new
      → IsDefined shape commits draft new
  column-defined table default h =
      let taken = column-added shape commits draft new table default h in added-defined _ taken.0 taken.1
