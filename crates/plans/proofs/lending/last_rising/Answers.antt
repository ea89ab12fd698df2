-- At first none is looked at; one more is found if it is above the last.
use Rattle.std.proofs.Common.{◌≡◌, ℕ, ◌+◌, length, subst, arith}
use Rattle.rows.specs.Tables.{rows_of}
use Rattle.store.specs.Lent.{rows_in}
use Rattle.plans.specs.Inner.BlockRows.{AreFound}
use Rattle.plans.specs.Inner.Pieces.{AreAtMost}
use Rattle.plans.proofs.LentRows.{found-next}
use Rattle.plans.proofs.lending.last_rising.Goals as goal

pub loop-i-init : goal.loop-i-init
loop-i-init g c =
    let rows = rows_of (g.S.Store.tables c.args.store.now) c.args.table in
    let none : c.args.from ≡ c.args.from + 0 = omega arith in
    record {
      most = subst (λ (n : ℕ). AreAtMost (rows_in rows c.args.pieces c.args.piece) n c.args.last) none c.requires.before;
      found = λ j lt. absurd (omega arith);
    }

pub loop-i-preserved : goal.loop-i-preserved
loop-i-preserved g c =
    let rows = rows_of (g.S.Store.tables c.args.store.now) c.args.table in
    let next =
    found-next c.rows_stand_in_order.ensures rows c.args.pieces c.args.piece c.args.ids.now c.args.from c.loop-i.i c.loop-i.end
    c.requires.lent c.requires.within c.loop-i-test.true c.loop-i.invariant.most (c.rises.ensures c.if-not-rises.false)
    c.loop-i.invariant.found in
    record { most = next.1; found = next.0 }

pub returns : goal.returns
returns g c =
    let rows = rows_of (g.S.Store.tables c.args.store.now) c.args.table in
    let here = rows_in rows c.args.pieces c.args.piece in
    let ids = c.args.ids.now in
    let all : c.loop-i.i ≡ length ids = omega (arith, c.loop-i-test.false, c.loop-i.auto) in
    record {
      last = subst (λ (n : ℕ). AreAtMost here (c.args.from + n) c.loop-i.end) all c.loop-i.invariant.most;
      found = subst (λ (n : ℕ). AreFound rows here c.args.from ids n) all c.loop-i.invariant.found;
    }
