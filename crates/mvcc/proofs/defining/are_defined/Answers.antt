-- One entry that is not defined behind those before it decides, and the row of one that is is told.
use Rattle.std.proofs.Common.{take, sym, ◌∙◌}
use Rattle.mvcc.proofs.Definedness.{defined-more, not_defined-more, spelled-more, told-there, kinds-before}
use Rattle.mvcc.specs.VersionList.{tables_at}
use Rattle.rows.specs.Tables.{shape_in}
use Rattle.mvcc.proofs.Telling.{told-more}
use Rattle.mvcc.proofs.defining.are_defined.Goals as goal

pub returns-then-not-is_defined_behind-clause-answer : goal.returns-then-not-is_defined_behind-clause-answer
returns-then-not-is_defined_behind-clause-answer c =
    let versions = c.args.versions.now in
    let version = c.args.version in
    let entries = c.args.entries.now in
    let i = c.loop-index.index in
    let entry = c.index-entries-index.result in
    let before = c.loop-index.invariant in
    let there = c.is_there-there.result in
    let stands = told-there versions version (take i entries) c.loop-index.told entry there before.told c.is_there-there.ensures in
    not_defined-more c.entries_are_defined_one_by_one.ensures.longer versions version c.entries_are_defined_one_by_one.ensures.undefined
    entries i entry there _
    c.loop-index-test.true c.index-entries-index.is before.defined stands
    (kinds-before (shape_in (tables_at versions version)) entries c.gone_over-before.result.now i c.add_columns-grows.result
    c.add_columns-grows.ensures c.gone_over-before.ensures)
    c.if-not-is_defined_behind.ensures.answer

pub loop-index-preserved : goal.loop-index-preserved
loop-index-preserved c =
    let versions = c.args.versions.now in
    let version = c.args.version in
    let entries = c.args.entries.now in
    let i = c.loop-index.index in
    let entry = c.index-entries-index.result in
    let before = c.loop-index.invariant in
    let there = c.is_there-there.result in
    let stands = told-there versions version (take i entries) c.loop-index.told entry there before.told c.is_there-there.ensures in
    record {
      defined =
          defined-more c.entries_are_defined_one_by_one.ensures.longer versions version entries i entry there _
          c.loop-index-test.true c.index-entries-index.is before.defined stands
          (kinds-before (shape_in (tables_at versions version)) entries c.gone_over-before.result.now i c.add_columns-grows.result
          c.add_columns-grows.ensures c.gone_over-before.ensures)
          ∙ sym c.if-not-is_defined_behind.ensures.answer;
      spelled =
          spelled-more entries i entry c.loop-index-test.true c.index-entries-index.is before.spelled
          c.if-not-is_defined_behind.ensures.spelled;
      told =
          told-more versions version entries i entry there c.loop-index.told c.tell.new.self c.loop-index-test.true
          c.index-entries-index.is before.told c.is_there-there.ensures c.in-Ok.ensures;
    }
