-- An insert leaves the kinds of all columns.
use Rattle.rows.specs.declared.entry.Entry.TheVariants.{Insert}
use Rattle.scenarios_plans_common.proofs.wishes.put.Goals as goal

pub returns-clause-kinds : goal.returns-clause-kinds
returns-clause-kinds c =
    c.changes_tell_kinds.ensures.entry c.args.store.now.tables c.change.new.self.tables
    (Insert c.args.line.now.0 (record { 0 = c.args.line.now.1 }) c.in_ok-bytes_of.field-0) c.in_ok-change.ensures.ok
