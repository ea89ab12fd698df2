-- No rows in as many tables as were counted.
use Rattle.std.proofs.Common.{◌≡◌, replicate, []}
use Rattle.journal.proofs.present_rows.no_rows.Given as goal

abbrev pub invariant-loop : goal.invariant-loop
invariant-loop l = l.rows.items ≡ replicate l.counter []
