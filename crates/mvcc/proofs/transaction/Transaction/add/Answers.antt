-- The index is one of the entries with one more.
use Rattle.std.proofs.Common.{◌≡◌, ℕ, cond, ◌&&◌, ◌==◌, [], ◌∷◌, ◌++◌, length, sym, ap, ◌∙◌, arith}
use Rattle.std.proofs.lemmas.List.{length_push}
use Rattle.rows.specs.Entries.{table_of}
use Rattle.mvcc.proofs.Keys.{of-is, adds-none}
use Rattle.rows.specs.Commits.{is_of}
use Rattle.mvcc.specs.Inner.OwnRows.{indices_at, kept_indices}
use Rattle.mvcc.proofs.OwnRows.{IsIndexOf-push, of-push}
use Rattle.mvcc.proofs.transaction.Transaction.add.Goals as goal

pub invariant_of-self-2 : goal.invariant_of-self-2
invariant_of-self-2 c =
    let entries = c.self.inside.entries.items in
    let rows = c.self.inside.rows in
    let entry = c.args.entry in
    let id = c.args.row in
    let items : c.push_reserved.new.self.items ≡ entries ++ entry ∷ [] =
    c.push_reserved.ensures.items ∙ ap (λ before. before ++ entry ∷ []) c.in_ok-reserve.ensures.items in
    let kept = kept_indices entries entry (indices_at rows (table_of entry) id.0) ++ length entries ∷ [] in
    let put_at : (table row : ℕ) → indices_at c.put.new.self table row ≡ cond ((table_of entry == table) && (id.0 == row)) kept
    (indices_at rows table row) = λ table row.
    cc (
      c.in_ok-put.ensures.ok table row,
      c.in_ok-indices.ensures,
      c.indices-earlier.ensures,
      c.as_slice.ensures.value,
      c.table-table.ensures,
    ) in
    let put : (table row : ℕ) → indices_at c.put.new.self table row ≡ cond (is_of table row entry) kept (indices_at rows table row) =
    λ table row. put_at table row
    ∙ ap (λ here. cond here kept (indices_at rows table row)) (sym (of-is table row entry id c.requires.own)) in
    let room = ap (λ (draft : _). length draft.entries) c.self.view_is in
    let own = c.self.invariant.1 c.if-self.false in
    rw items (
      omega (arith, length_push entries entry, c.requires.room, room),
      λ adds. (
        of-push entries entry own.0 (adds-none entry id c.requires.own),
        IsIndexOf-push entries rows c.put.new.self entry id c.requires.own own.0 own.1 put,
      ),
    )
