-- The row has the packets so far, and room for the others.
use Rattle.std.proofs.Common.{◌≡◌, ◌+◌, ◌≤◌, vec_len, vec_capacity}
use Rattle.desk.specs.Answers.{row_of}
use Rattle.desk.proofs.row.fill_row.Given as goal

abbrev pub invariant-loop : goal.invariant-loop
invariant-loop g l = record {
  row : l.row.items ≡ row_of l.core.primary.durable l.fn.worker l.fn.from l.counter;
  len : vec_len l.row ≤ l.counter;
  room : l.fn.most ≤ vec_capacity l.row;
  seq : l.seq ≡ l.fn.from + l.counter;
}
