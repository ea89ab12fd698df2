-- One row more, or none.
use Rattle.std.proofs.Common.{rules, ◌≡◌, ◌+◌, ◌≤◌, ℕ, List, Bool, true, false, not, if◌then◌else◌, Result, Ok, Err, IfOk, OnErr}
use Rattle.std.proofs.Common.{length, ap, arith}
use Rattle.rows.specs.declared.value.Value.{Value}
use Rattle.rows.specs.Tables.{Rows, Table, is_present, with_row}
use Rattle.rows.specs.Values.{values_of}
use Rattle.apply.specs.Inner.Joins.{joined}
use Rattle.apply.proofs.Counted.{length-with_row}
use Rattle.apply.proofs.piece.PieceTableRows.insert.Goals as goal

-- how many there are then
many : {E : Type 0} (result : Result Bool E) (row : ℕ) (values : List Value) (old new : Rows)
    → IfOk result (λ put. is_present old row ≡ not put)
    → IfOk result (λ put. new ≡ (if put then with_row old row values else old))
    → OnErr result (new ≡ old)
    → length new ≤ length old + 1
many (Ok true) row values old new away put same = omega (arith, ap length put, length-with_row row values old away)
many (Ok false) row values old new away put same = omega (arith, ap length put)
many (Err e) row values old new away put same = omega (arith, ap length same)

pub invariant_of-self : goal.invariant_of-self
invariant_of-self c =
    let rows = joined c.self.inside.blocks.items in
    let seen = ap (λ (piece : Table). length piece.rows) c.self.view_is in
    let more = many c.put_row.result c.args.row (values_of c.as_slice.result.now c.args.bytes.now) rows
    (joined c.put_row.new.blocks.items) c.put_row.ensures.new c.put_row.ensures.rows c.put_row.ensures.err in
    record {
      columns = c.self.invariant.columns;
      blocks = search rules;
      ends = c.put_row.ensures.ends;
      few = omega (arith, more, c.self.invariant.few, seen, c.len.ensures.value, c.if-len-eq-ROWS_MAX.false);
    }
