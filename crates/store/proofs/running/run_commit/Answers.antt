-- A run that stops shows that an entry is refused, or that there is one.
use Rattle.std.proofs.Common.{Bool, true, cond, ◌==◌, length, nat_lt, ap, subst, sym, ◌∙◌}
use Rattle.rows.specs.Tables.{apply_entries}
use Rattle.store.specs.Changes.{StopsAt}
use Rattle.store.specs.Faults.{FailsAs}
use Rattle.store.specs.declared.faults.ApplyFault.TheVariants.{Memory, Inconsistent}
use Rattle.store.proofs.Runs.{stops-as}
use Rattle.store.proofs.running.run_commit.Goals as goal

pub returns-in-Err-clause-err : goal.returns-in-Err-clause-err
returns-in-Err-clause-err g c =
    let old = g.S.Store.tables c.args.store.now in
    let new = g.S.Store.tables c.run.new.store in
    let entries = c.args.entries.now in
    let kind = g.S.Store.kind_of c.in-Err.fault in
    let stop = subst (λ (whole : Bool). StopsAt whole old new entries c.in-Err.field-0-0 kind) c.requires c.in-Err.ensures.err in
    subst (FailsAs true (nat_lt 0 (length entries)) (apply_entries old entries))
    (sym (c.fault_of.ensures ∙ ap (λ kind. cond (kind == 4) Memory Inconsistent) c.kind.ensures))
    (stops-as old new entries c.in-Err.field-0-0 kind stop)
