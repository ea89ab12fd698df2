-- The numbers so far, before those that are left to read, are those of all the bytes.
use Rattle.std.proofs.Common.{◌≡◌, ◌-◌, ◌*◌, ◌++◌, length, drop}
use Rattle.wire.specs.Reading.{counts_at}
use Rattle.wire.proofs.reading.read_counts.Given as goal

abbrev pub invariant-loop : goal.invariant-loop
invariant-loop l = record {
  lows : l.lows ++ counts_at (l.workers - l.counter) l.rest ≡ counts_at l.workers l.bytes;
  counts : l.counts ++ counts_at (l.workers - l.counter) (drop 8 l.rest) ≡ counts_at l.workers (drop 8 l.bytes);
  rest : length l.rest ≡ 16 * (l.workers - l.counter);
  as_many_lows : length l.lows ≡ l.counter;
  as_many_counts : length l.counts ≡ l.counter;
}
