-- One entry that is not defined behind those before it decides, and one that is is applied.
use Rattle.std.proofs.Common.{subst, Bool}
use Rattle.rows.specs.Tables.{apply_entry}
use Rattle.journal.specs.Inner.Presence.{IsApplied}
use Rattle.journal.proofs.Presence.{one-more, one-refused}
use Rattle.journal.proofs.present_rows.PresentRows.apply.Goals as goal

pub returns-then-not-branch : goal.returns-then-not-branch
returns-then-not-branch c tables is =
    let before = c.loop-entry.invariant tables is in
    one-refused tables before.0 c.args.entries.now c.loop-entry.entry-index c.entry-item.result c.loop-entry-test.true c.entry-item.is
    before.1
    (subst (λ (defined : Bool). IsApplied defined (apply_entry before.0 c.entry-item.result) c.apply_one.new.self) c.if-not-branch.true
    (c.in_ok-apply_one.ensures before.0 before.2))

pub loop-entry-preserved : goal.loop-entry-preserved
loop-entry-preserved c tables is =
    let before = c.loop-entry.invariant tables is in
    let after = subst (λ (defined : Bool). IsApplied defined (apply_entry before.0 c.entry-item.result) c.apply_one.new.self)
    c.if-not-branch.false (c.in_ok-apply_one.ensures before.0 before.2) in (
      after.0,
      one-more tables before.0 after.0 c.args.entries.now c.loop-entry.entry-index c.entry-item.result c.loop-entry-test.true
          c.entry-item.is before.1 after.1,
      after.2,
    )
