-- One value more, behind a space.
use Rattle.std.proofs.Common.{[], ◌++◌}
use Rattle.std.specs.Option.{unwrap_or}
use Rattle.dispatcher.specs.Inner.Walk.{columns_text}
use Rattle.dispatcher.proofs.Walk.{value-more}
use Rattle.dispatcher.proofs.table_text.append_columns.Goals as goal

pub loop-column-preserved : goal.loop-column-preserved
loop-column-preserved g c =
    let values = g.S.Store.values_at c.args.store.now c.args.table c.args.place in
    value-more values c.loop-column.column c.value.result c.loop-column.text.items c.push.new.self.items c.append_value.new.text.items
    (c.args.text.now.items ++ columns_text (unwrap_or values [])) c.value.ensures c.loop-column.invariant c.in_ok-push.ensures.items
    c.in_ok-append_value.ensures.ok
