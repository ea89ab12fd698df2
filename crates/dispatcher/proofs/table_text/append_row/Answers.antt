-- The row at the index is there, and has a value for each column of its table.
use Rattle.std.proofs.Common.{List, [], Option, ℕ, ◌++◌, length, sym, ap, ◌∙◌}
use Rattle.std.specs.Option.{is_some, unwrap_or}
use Rattle.std.proofs.lemmas.Bool.{false≢true}
use Rattle.rows.specs.declared.value.Value.{Value}
use Rattle.rows.specs.Tables.{rows_of}
use Rattle.dispatcher.specs.Inner.Walk.{columns_text}
use Rattle.dispatcher.proofs.Walk.{row-is-wide, row-written}
use Rattle.dispatcher.proofs.table_text.append_row.Goals as goal

pub unreachable-requires : goal.unreachable-requires
unreachable-requires g c =
    let rows = rows_of (g.S.Store.tables c.args.store.now) c.args.table in
    let is = c.rows_stand_in_order.ensures rows c.args.i c.id_at-id.result.0 c.id_at-id.ensures.value c.id_at-id.ensures.rises in
    false≢true (sym (ap is_some c.in_default.is) ∙ c.find.ensures.found c.requires.whole ∙ ap is_some is.2)

pub append_columns-requires-clause-all : goal.append_columns-requires-clause-all
append_columns-requires-clause-all g c = λ _ _.
    let tables = g.S.Store.tables c.args.store.now in
    let id = c.id_at-id.result.0 in
    let is = c.rows_stand_in_order.ensures (rows_of tables c.args.table) c.args.i id c.id_at-id.ensures.value c.id_at-id.ensures.rises in
    let own = ap (λ (found : Option (List Value)). unwrap_or found []) (c.in-Some.ensures.place c.requires.whole ∙ is.2) in
    c.requires.columns
    ∙ sym (row-is-wide tables c.args.table id is.0 (c.keeps_kinds.ensures c.requires.whole) is.2)
    ∙ ap (λ (values : List Value). length values) (sym own)

pub returns : goal.returns
returns g c =
    let rows = rows_of (g.S.Store.tables c.args.store.now) c.args.table in
    let id = c.id_at-id.result.0 in
    let is = c.rows_stand_in_order.ensures rows c.args.i id c.id_at-id.ensures.value c.id_at-id.ensures.rises in
    let own = ap (λ (found : Option (List Value)). unwrap_or found []) (c.in-Some.ensures.place c.requires.whole ∙ is.2) in
    let counted = c.append_number.new.text.items in
    row-written c.args.name.now rows c.args.i id is.0 c.args.text.now.items c.extend_from_slice.new.self.items c.push.new.self.items
    counted c.append_columns.new.text.items c.push-2.new.self.items is.1
    (c.in_ok-extend_from_slice.ensures.items ∙ ap (λ (bytes : List ℕ). c.args.text.now.items ++ bytes) c.as_bytes.ensures.value)
    c.in_ok-push.ensures.items c.in_ok-append_number.ensures.ok
    (c.in_ok-append_columns.ensures ∙ ap (λ (values : List Value). counted ++ columns_text values) own) c.in_ok-push-2.ensures.items
