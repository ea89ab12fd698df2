-- The identifier goes to its place.
use Rattle.std.proofs.Common.{◌≡◌, ◌≤◌, length, nat_lt, rules, sym, ◌∙◌, None}
use Rattle.std.specs.List.{insert}
use Rattle.std.specs.Map.{keys_of}
use Rattle.std.proofs.lemmas.List.Sums.{prefix_len-le-length}
use Rattle.rows.specs.Tables.{row_at}
use Rattle.store.proofs.Ids.{keys_of-with_row}
use Rattle.store.proofs.table_map.TableMap.put.Goals as goal

pub insert-requires-2 : goal.insert-requires-2
insert-requires-2 c =
    let few = prefix_len-le-length (λ id. nat_lt id c.args.row) c.reserve.new.self.items in
    let within : c.index_of-index.result ≤ length c.reserve.new.self.items = rw c.index_of-index.ensures few in
    search rules

pub invariant_of-self-2 : goal.invariant_of-self-2
invariant_of-self-2 c =
    let rows = c.self.inside.rows.entries in
    let absent : row_at rows c.args.row ≡ None = search rules in
    let made = keys_of-with_row rows c.args.row c.args.values absent in
    let kept : c.reserve.new.self.items ≡ keys_of rows = c.reserve.ensures.items ∙ c.self.invariant.ids in
    let put : c.insert-2.new.self.items ≡ insert c.reserve.new.self.items c.index_of-index.result c.args.row = search rules in
    let ids : c.insert-2.new.self.items ≡ keys_of c.insert.new.self.entries =
    rw (c.in_ok-insert.ensures.entries, put, c.index_of-index.ensures, kept) (sym made) in
    record { columns = c.self.invariant.columns; ids = ids; rise = rw ids c.in_ok-insert.ensures.ordered }
