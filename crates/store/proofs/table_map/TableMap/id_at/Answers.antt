-- The identifiers ascend.
use Rattle.std.proofs.Common.{◌≡◌, sym, ap, subst, ◌∙◌, get_or}
use Rattle.rows.specs.Tables.{Table}
use Rattle.store.specs.Changes.{IsAboveAllBefore}
use Rattle.store.proofs.Ids.{id_in-keys_of}
use Rattle.store.proofs.Rows.{IsAboveAllBefore-sorted}
use Rattle.store.proofs.table_map.TableMap.id_at.Goals as goal

pub returns-clause-rises : goal.returns-clause-rises
returns-clause-rises c =
    let rows = c.self.inside.rows.entries in
    let id = c.index.result.now in
    let stands = c.index.ensures ∙ ap (λ ids. get_or ids c.args.i id) c.self.invariant.ids in
    let seen : rows ≡ c.args.self.now.rows = ap (λ (table : Table). table.rows) c.self.view_is in
    let here = id_in-keys_of rows c.args.i id (rw seen c.requires) stands in
    subst (λ rows. IsAboveAllBefore rows c.args.i id) seen
    (IsAboveAllBefore-sorted rows c.args.i id (rw (← c.self.invariant.ids) c.self.invariant.rise) (sym here))
