-- The front and the entries are the record.
use Rattle.journal.proofs.Texts.{record_written}
use Rattle.journal.proofs.text.push_record.Goals as goal

pub returns : goal.returns
returns c =
    record_written c.args.bytes.now.items c.record_front-front.result c.extend_from_slice.new.self.items c.loop-entry.bytes.items
    c.body_len.result c.args.number c.args.commit.now
    c.as_slice-entries.result.now c.loop-entry.entry-index c.as_slice-entries.ensures c.body_len.ensures c.record_front-front.ensures
    c.in_ok-extend_from_slice.ensures.items
    c.loop-entry.invariant c.loop-entry-test.false
