-- The text so far and the values from the column on are the row's.
use Rattle.std.proofs.Common.{◌≡◌, [], ◌++◌, drop}
use Rattle.std.specs.Option.{unwrap_or}
use Rattle.dispatcher.specs.Inner.Walk.{columns_text}
use Rattle.dispatcher.proofs.table_text.append_columns.Given as goal

abbrev pub invariant-loop-column : goal.invariant-loop-column
invariant-loop-column g l =
    l.text.items ++ columns_text (drop l.column (unwrap_or (g.S.Store.values_at l.store l.table l.place) []))
    ≡ l.fn.text.items ++ columns_text (unwrap_or (g.S.Store.values_at l.store l.table l.place) [])
