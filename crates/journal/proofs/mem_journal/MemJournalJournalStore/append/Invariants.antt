-- The bytes before the index are appended, and there is room for the others.
use Rattle.std.proofs.Common.{◌≡◌, ◌+◌, ◌≤◌, ◌++◌, length, take, vec_len, vec_capacity}
use Rattle.journal.proofs.mem_journal.MemJournalJournalStore.append.Given as goal

abbrev pub invariant-loop-byte : goal.invariant-loop-byte
invariant-loop-byte l = record {
  items : l.self-inside.content.items ≡ l.fn.self.bytes ++ take l.byte-index l.bytes;
  room : vec_len l.self-inside.content + length l.bytes ≤ vec_capacity l.self-inside.content + l.byte-index;
}
