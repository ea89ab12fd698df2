-- An entry whose table is not there answers for all; each other one leaves the answer to those behind it.
use Rattle.std.proofs.Common.{◌≡◌, [], true, false, nat_lt, rules, sym}
use Rattle.std.specs.List.{list_all}
use Rattle.std.specs.Option.{unwrap_or}
use Rattle.rows.specs.declared.entry.Entry.{Entry}
use Rattle.rows.specs.Entries.{table_of}
use Rattle.rows.specs.Reading.{seen, entries_filling}
use Rattle.rows.proofs.EntriesFilling.{passed_more, passed_not, passed_none}
use Rattle.rows.proofs.filling.entries_have_table.Goals as goal

pub unreachable-requires : goal.unreachable-requires
unreachable-requires c =
    passed_none (λ (entry : Entry). nat_lt (table_of entry) c.args.tables) c.args.count c.loop.counter c.loop.rest.now
    (list_all (λ (entry : Entry). nat_lt (table_of entry) c.args.tables)
    (unwrap_or (entries_filling c.args.count c.args.bytes.now) [])) c.loop-test.true (sym c.in-None.ensures.exact) c.loop.invariant

pub returns-then-table_of-tables : goal.returns-then-table_of-tables
returns-then-table_of-tables c =
    let fails : nat_lt (table_of (seen (c.in-Some.entry, c.in-Some.len)).0) c.args.tables ≡ false = search rules in
    passed_not (λ (entry : Entry). nat_lt (table_of entry) c.args.tables) c.args.count c.loop.counter c.loop.rest.now
    (seen (c.in-Some.entry, c.in-Some.len))
    (list_all (λ (entry : Entry). nat_lt (table_of entry) c.args.tables)
    (unwrap_or (entries_filling c.args.count c.args.bytes.now) [])) c.loop-test.true (sym c.in-Some.ensures.exact) fails c.loop.invariant

pub loop-preserved : goal.loop-preserved
loop-preserved c =
    let passes : nat_lt (table_of (seen (c.in-Some.entry, c.in-Some.len)).0) c.args.tables ≡ true = search rules in
    rw c.split_at.ensures.back (passed_more (λ (entry : Entry). nat_lt (table_of entry) c.args.tables) c.args.count
    c.loop.counter c.loop.rest.now (seen (c.in-Some.entry, c.in-Some.len))
    (list_all (λ (entry : Entry). nat_lt (table_of entry) c.args.tables)
    (unwrap_or (entries_filling c.args.count c.args.bytes.now) [])) c.loop-test.true (sym c.in-Some.ensures.exact) passes c.loop.invariant)
