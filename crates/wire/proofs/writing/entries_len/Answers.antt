-- The total stays within that of all the entries.
use Rattle.std.proofs.Common.{arith}
use Rattle.rows.specs.Spelling.{entry_spelling}
use Rattle.wire.proofs.Joining.{joined_room}
use Rattle.wire.proofs.writing.entries_len.Goals as goal

pub overflow_add-total : goal.overflow_add-total
overflow_add-total c =
    omega (
      arith,
      joined_room entry_spelling c.args.entries.now c.loop-entry.entry-index c.entry-item.result c.loop-entry-test.true
          c.entry-item.is,
    )
