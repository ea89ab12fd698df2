-- No such row is left, so one was all that was taken out; and its identifier stood at its place.
use Rattle.std.proofs.Common.{◌≡◌, ◌<◌, length, true, rules, ap, sym, subst, ◌∙◌}
use Rattle.std.specs.List.{remove}
use Rattle.std.specs.List.Sorted.{IsStrictlySortedBy}
use Rattle.std.specs.Map.{lookup, keys_of}
use Rattle.std.proofs.lemmas.Map.Entries.{length-keys_of}
use Rattle.std.specs.BTreeMap.{is_at}
use Rattle.std.specs.Ordering.{nat_cmp}
use Rattle.rows.specs.Tables.{Rows, Table, is_present}
use Rattle.store.proofs.Ids.{below, below-present, keys_of-remove_entry}
use Rattle.store.proofs.Rows.{remove_entry-only}
use Rattle.store.proofs.table_map.TableMapTableRows.remove.Goals as goal

pub returns-then-is_none-clause-rows : goal.returns-then-is_none-clause-rows
returns-then-is_none-clause-rows c =
    let left = ap (lookup (is_at (nat_cmp c.args.row))) (sym c.remove.ensures.entries) ∙ c.remove.ensures.updates.1 in
    let with : Rows → Table = λ rows. record { kinds = c.self.inside.kinds; rows = rows } in
    rw (c.remove.ensures.entries, ← c.self.view_is) (ap with (remove_entry-only c.self.inside.rows.entries c.args.row left))

pub returns-clause-rows : goal.returns-clause-rows
returns-clause-rows c =
    let left = ap (lookup (is_at (nat_cmp c.args.row))) (sym c.remove.ensures.entries) ∙ c.remove.ensures.updates.1 in
    let with : Rows → Table = λ rows. record { kinds = c.self.inside.kinds; rows = rows } in
    rw (c.remove.ensures.entries, ← c.self.view_is) (ap with (remove_entry-only c.self.inside.rows.entries c.args.row left))

pub invariant_of-self-2 : goal.invariant_of-self-2
invariant_of-self-2 c =
    let rows = c.self.inside.rows.entries in
    let there : is_present rows c.args.row ≡ true = search rules in
    let rise : IsStrictlySortedBy nat_cmp (keys_of rows) = subst (IsStrictlySortedBy nat_cmp) c.self.invariant.ids c.self.invariant.rise in
    let index : c.index_of-index.result ≡ below c.args.row (keys_of rows) =
    c.index_of-index.ensures ∙ ap (below c.args.row) c.self.invariant.ids in
    let within : c.index_of-index.result < length c.self.inside.ids.items =
    rw (index, c.self.invariant.ids, length-keys_of) (below-present rows c.args.row rise there) in
    let taken : c.remove-2.new.self.items ≡ remove c.self.inside.ids.items c.index_of-index.result = search rules in
    let ids : c.remove-2.new.self.items ≡ keys_of c.remove.new.self.entries =
    rw (c.remove.ensures.entries, taken, index, c.self.invariant.ids) (sym (keys_of-remove_entry rows c.args.row rise there)) in
    record { columns = c.self.invariant.columns; ids = ids; rise = rw ids c.remove.ensures.ordered }
