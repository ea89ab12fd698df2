-- Each entry is written behind those before it.
use Rattle.std.proofs.Common.{take, arith}
use Rattle.std.specs.List.{flat_map}
use Rattle.std.proofs.lemmas.List.{length-append, length-take, length-drop}
use Rattle.rows.specs.Spelling.{entry_spelling}
use Rattle.wire.proofs.Joining.{joined_room, joined_more, written_more}
use Rattle.wire.proofs.writing.write_entries.Goals as goal

pub write_entry-at-requires-clause-room : goal.write_entry-at-requires-clause-room
write_entry-at-requires-clause-room c =
    let room =
    joined_room entry_spelling c.args.entries.now c.loop-entry.entry-index c.entry-item.result c.loop-entry-test.true c.entry-item.is in
    simp (length-take, length-drop) (omega arith)

pub loop-entry-preserved : goal.loop-entry-preserved
loop-entry-preserved c =
    let entries = c.args.entries.now in
    let at = c.loop-entry.at in
    let len = c.write_entry-at.result in
    let piece = entry_spelling c.entry-item.result in
    let front = flat_map entry_spelling (take c.loop-entry.entry-index entries) in
    let room = joined_room entry_spelling entries c.loop-entry.entry-index c.entry-item.result c.loop-entry-test.true c.entry-item.is in
    let more = joined_more entry_spelling entries c.loop-entry.entry-index c.entry-item.result c.loop-entry-test.true c.entry-item.is in
    record {
      at = rw more (omega (arith, length-append front piece, c.write_entry-at.ensures.len));
      written =
          rw more (written_more front piece c.args.buffer.now c.loop-entry.buffer c.write_entry-at.new.buffer at len
          c.loop-entry.invariant.at (omega arith) c.loop-entry.invariant.written c.write_entry-at.ensures.written);
    }
