-- A change of a transaction that is taken adds one entry, and its row stands as the entry needs it.
use Rattle.std.proofs.Common.{◌≡◌, ℕ, Bool, true, false, cond, not, ◌&&◌, ◌==◌, List, [], ◌∷◌, ◌++◌, length, Ok, Err, nat_lt, refl, sym, ap}
use Rattle.std.specs.List.{slice_get}
use Rattle.std.specs.Option.{is_some}
use Rattle.std.specs.Result.{is_ok}
use Rattle.std.proofs.lemmas.Bool.{and_from, eq-eqb}
use Rattle.rows.specs.declared.commit.Commit.{Commit}
use Rattle.rows.specs.declared.entry.Entry.{Entry}
use Rattle.rows.specs.declared.entry.Entry.TheVariants.{Insert, Patch, Delete, AddColumn}
use Rattle.rows.specs.declared.value.Value.{Value}
use Rattle.rows.specs.Shape.{Shape}
use Rattle.rows.specs.Commits.{is_of}
use Rattle.rows.specs.Presence.{stands_for}
use Rattle.rows.specs.Values.{bytes_of, value_bytes}
use Rattle.mvcc.specs.declared.faults.TxFault.TheVariants.{Exists, Missing, Unfit, TooManyEntries}
use Rattle.rows.specs.declared.limits.TheConstants.{COMMIT_ENTRIES_MAX}
use Rattle.mvcc.specs.Transaction.{Transaction}
use Rattle.mvcc.specs.Transactions.{match_table, match_column, column_kind, column_offset, seen_shape, sees, transaction_with}
use Rattle.mvcc.specs.Transactions.{insert_answer}
use Rattle.mvcc.specs.Transactions.{set_answer}
use Rattle.mvcc.specs.Transactions.{delete_answer, add_column_answer}
use Rattle.rows.specs.Entries.{addable}

-- the transaction with this entry behind its others
pub record IsAdded (shape : Shape) (commits : List Commit) (draft : Transaction) (entry : Entry) (new : Transaction) : Type 0 where
  pub table : ℕ
  pub row : ℕ
  pub of_row : is_of table row entry ≡ true
  pub stands : stands_for entry (sees shape commits draft table row) ≡ true
  pub made : new ≡ record draft { entries = draft.entries ++ entry ∷ [] }

pub reads_same : (shape : Shape) (commits : List Commit) (draft : Transaction) (entry : Entry) (new : Transaction)
    → IsAdded shape commits draft entry new → new.snapshot ≡ draft.snapshot
reads_same shape commits draft entry new added = ap (λ (d : Transaction). d.snapshot) added.made

-- a row is itself
own : (table row : ℕ) → ((table == table) && (row == row)) ≡ true
own table row = and_from _ _ (eq-eqb table table refl) (eq-eqb row row refl)

added_to : (shape : Shape) (commits : List Commit) (draft : Transaction) (entry : Entry) (new : Transaction) (table row : ℕ)
    → is_of table row entry ≡ true → stands_for entry (sees shape commits draft table row) ≡ true
    → transaction_with draft entry ≡ Ok new → IsAdded shape commits draft entry new
added_to shape commits draft entry new table row of_row stands h = by (nat_lt (length draft.entries) COMMIT_ENTRIES_MAX) h
  where
    with : Transaction
    with = record draft { entries = draft.entries ++ entry ∷ [] }

    by : (c : Bool) → cond c (Ok with) (Err TooManyEntries) ≡ Ok new → IsAdded shape commits draft entry new
    by false h = absurd (cc)
    by true h =
        let same : with ≡ new = cc in
        record { table = table; row = row; of_row = of_row; stands = stands; made = sym same }

module _ (shape : Shape) (commits : List Commit) (draft : Transaction) (table row : ℕ) (new : Transaction) where
  pub insert-added : (values : List Value) → insert_answer shape commits draft table row values ≡ Ok new
      → (match_table values (slice_get (seen_shape shape commits draft) table) ≡ true)
      × IsAdded shape commits draft (Insert table (record { 0 = row }) (bytes_of values)) new
  insert-added values h =
      by (match_table values (slice_get (seen_shape shape commits draft) table)) (sees shape commits draft table row) refl refl h
    where
      entry : Entry
      entry = Insert table (record { 0 = row }) (bytes_of values)

      by : (a b : Bool) → match_table values (slice_get (seen_shape shape commits draft) table) ≡ a → sees shape commits draft table row ≡ b
          → cond (not a) (Err Unfit) (cond b (Err Exists) (transaction_with draft entry)) ≡ Ok new
          → (match_table values (slice_get (seen_shape shape commits draft) table) ≡ true) × IsAdded shape commits draft entry new
      by false b e f h = absurd (cc)
      by true true e f h = absurd (cc)
      by true false e f h = (e, added_to shape commits draft entry new table row (own table row) (ap not f) h)

  pub set-added : (column : ℕ) (value : Value) → set_answer shape commits draft table row column value ≡ Ok new
      → (match_column value (column_kind (seen_shape shape commits draft) table column) ≡ true)
      × IsAdded shape commits draft
      (Patch table (record { 0 = row }) (column_offset (seen_shape shape commits draft) table column) (value_bytes value)) new
  set-added column value h =
      by (match_column value (column_kind (seen_shape shape commits draft) table column)) (sees shape commits draft table row) refl refl h
    where
      entry : Entry
      entry = Patch table (record { 0 = row }) (column_offset (seen_shape shape commits draft) table column) (value_bytes value)

      by : (a b : Bool) → match_column value (column_kind (seen_shape shape commits draft) table column) ≡ a
          → sees shape commits draft table row ≡ b
          → cond (not a) (Err Unfit) (cond (not b) (Err Missing) (transaction_with draft entry)) ≡ Ok new
          → (match_column value (column_kind (seen_shape shape commits draft) table column) ≡ true)
          × IsAdded shape commits draft entry new
      by false b e f h = absurd (cc)
      by true false e f h = absurd (cc)
      by true true e f h = (e, added_to shape commits draft entry new table row (own table row) f h)

  pub delete-added : delete_answer shape commits draft table row ≡ Ok new
      → (is_some (slice_get (seen_shape shape commits draft) table) ≡ true)
      × IsAdded shape commits draft (Delete table (record { 0 = row })) new
  delete-added h = by (is_some (slice_get (seen_shape shape commits draft) table)) (sees shape commits draft table row) refl refl h
    where
      entry : Entry
      entry = Delete table (record { 0 = row })

      by : (a b : Bool) → is_some (slice_get (seen_shape shape commits draft) table) ≡ a → sees shape commits draft table row ≡ b
          → cond (not a) (Err Unfit) (cond (not b) (Err Missing) (transaction_with draft entry)) ≡ Ok new
          → (is_some (slice_get (seen_shape shape commits draft) table) ≡ true) × IsAdded shape commits draft entry new
      by false b e f h = absurd (cc)
      by true false e f h = absurd (cc)
      by true true e f h = (e, added_to shape commits draft entry new table row (own table row) f h)

-- an added column is of each row of its table
pub column-added : (shape : Shape) (commits : List Commit) (draft new : Transaction) (table : ℕ) (default : Value)
    → add_column_answer shape commits draft table default ≡ Ok new
    → (is_ok (addable (slice_get (seen_shape shape commits draft) table) default) ≡ true)
    × IsAdded shape commits draft (AddColumn table default) new
column-added shape commits draft new table default h =
    by (is_ok (addable (slice_get (seen_shape shape commits draft) table) default)) refl h
  where
    by : (a : Bool) → is_ok (addable (slice_get (seen_shape shape commits draft) table) default) ≡ a
        → cond (not a) (Err Unfit) (transaction_with draft (AddColumn table default)) ≡ Ok new
        → (is_ok (addable (slice_get (seen_shape shape commits draft) table) default) ≡ true)
        × IsAdded shape commits draft (AddColumn table default) new
    by false e h = absurd (cc)
    by true e h = (e, added_to shape commits draft (AddColumn table default) new table 0 (eq-eqb table table refl) refl h)
