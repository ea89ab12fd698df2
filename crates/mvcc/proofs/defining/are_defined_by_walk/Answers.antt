-- One entry that is not defined behind those before it decides.
use Rattle.std.proofs.Common.{sym, ap, ◌∙◌}
use Rattle.rows.specs.Entries.{table_of, row_of, shape_after}
use Rattle.mvcc.specs.Inner.Keys.{of_row}
use Rattle.rows.specs.Presence.{is_there_after}
use Rattle.rows.specs.Tables.{shape_in, is_row_at}
use Rattle.mvcc.specs.VersionList.{tables_at}
use Rattle.mvcc.proofs.Definedness.{defined-more, not_defined-more, spelled-more}
use Rattle.mvcc.proofs.defining.are_defined_by_walk.Goals as goal

pub returns-then-not-is_defined_behind-clause-answer : goal.returns-then-not-is_defined_behind-clause-answer
returns-then-not-is_defined_behind-clause-answer c =
    let versions = c.args.versions.now in
    let entry = c.index-entries-index.result in
    not_defined-more c.entries_are_defined_one_by_one.ensures.longer versions c.args.version
    c.entries_are_defined_one_by_one.ensures.undefined c.args.entries.now
    c.loop-index.index entry c.is_row_there_after-there.result _
    c.loop-index-test.true c.index-entries-index.is c.loop-index.invariant.defined
    (c.is_row_there_after-there.ensures
    ∙ ap (λ before. of_row (row_of entry) (λ row. is_there_after (table_of entry) row before
    (is_row_at (tables_at versions c.args.version) (table_of entry) row)))
    c.split_at.ensures.front)
    (ap (shape_after (shape_in (tables_at versions c.args.version))) (sym c.split_at.ensures.front))
    c.if-not-is_defined_behind.ensures.answer

pub loop-index-preserved : goal.loop-index-preserved
loop-index-preserved c =
    let versions = c.args.versions.now in
    let entry = c.index-entries-index.result in
    record {
      defined =
          defined-more c.entries_are_defined_one_by_one.ensures.longer versions c.args.version c.args.entries.now
          c.loop-index.index entry c.is_row_there_after-there.result _
          c.loop-index-test.true c.index-entries-index.is c.loop-index.invariant.defined
          (c.is_row_there_after-there.ensures
          ∙ ap (λ before. of_row (row_of entry) (λ row. is_there_after (table_of entry) row before
          (is_row_at (tables_at versions c.args.version) (table_of entry) row)))
          c.split_at.ensures.front)
          (ap (shape_after (shape_in (tables_at versions c.args.version))) (sym c.split_at.ensures.front))
          ∙ sym c.if-not-is_defined_behind.ensures.answer;
      spelled =
          spelled-more c.args.entries.now c.loop-index.index entry c.loop-index-test.true c.index-entries-index.is
          c.loop-index.invariant.spelled c.if-not-is_defined_behind.ensures.spelled;
    }
