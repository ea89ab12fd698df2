-- Each stream so far is empty.
use Rattle.std.proofs.Common.{◌≡◌, ℕ, [], length}
use Rattle.update_log.specs.Streams.{stream_at}
use Rattle.update_log.proofs.Keeping.{spans_in}
use Rattle.update_log.proofs.streams.Streams.new.Given as goal

abbrev pub invariant-loop : goal.invariant-loop
invariant-loop l = record {
  counted : length l.workers.items ≡ l.counter;
  none : (worker : ℕ) → stream_at (spans_in l.workers.items) worker ≡ [];
}
