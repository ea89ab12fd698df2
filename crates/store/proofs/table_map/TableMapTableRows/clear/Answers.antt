-- The kinds that are left are those that a table may have, and no row has an identifier.
use Rattle.std.proofs.Common.{take, sym, ap, subst, ◌∙◌, rules}
use Rattle.rows.specs.Shape.{AreColumns}
use Rattle.rows.specs.Tables.{Table}
use Rattle.store.proofs.table_map.TableMapTableRows.clear.Goals as goal

pub invariant_of-self : goal.invariant_of-self
invariant_of-self c =
    let kinds = ap (λ (table : Table). table.kinds) c.self.view_is in
    record {
      columns = subst AreColumns (sym (c.truncate.ensures ∙ ap (take c.args.columns) kinds)) c.requires;
      ids = search rules;
      rise = search rules;
    }
