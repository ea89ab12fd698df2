-- Each turn is deeds behind those of the turns before.
use Rattle.std.proofs.Common.{◌≤◌, ◌+◌, Option, ℕ, Ok, Err, refl, sym, ◌∙◌, subst, arith}
use Rattle.sockets.specs.Serving.{TurnsLeft, completed}
use Rattle.sockets.specs.declared.faults.ServeFault.{ServeFault}
use Rattle.sockets.proofs.TurnsLeft.{turns_same, turns_on, turns_taken, completed_none, completed_ok, completed_err}
use Rattle.sockets.proofs.Deeding.{does_nothing, does_then, does_less}
use Rattle.sockets.proofs.serving_primary.serve_primary.Goals as goal

pub loop-init : goal.loop-init
loop-init g c = record {
  can = tt;
  ends = tt;
  does =
      does_less _ _ _ _ _ _ _ _ _ (λ _. 0) (λ _. completed {F = ServeFault} c.args.turns.now c.args.turns.now (Ok (tt {0})))
      (λ worker within. omega (arith, completed_none ServeFault c.args.turns.now (tt {0})))
      (does_nothing _ _ _ _ _ _ _ _ refl);
  turns = turns_same c.args.turns.now;
}

pub returns-in-Err-clause-serves : goal.returns-in-Err-clause-serves
returns-in-Err-clause-serves g c =
    does_then _ _ _ _ _ _ _ _ _ _ _ (λ _. 1) _
    (λ worker within. subst (λ (t : Option ℕ). completed {A = Unit {0}} c.args.turns.now t (Err c.in-Err.fault)
    ≤ completed {F = ServeFault} c.args.turns.now c.loop.turns (Ok (tt {0})) + 1) (sym c.take_turn.ensures.left)
    (omega (
      arith,
      completed_err (Unit {0}) c.args.turns.now c.loop.turns c.in-Err.fault (tt {0}) c.loop.invariant.turns
          (sym c.take_turn.ensures.taken ∙ c.if-not-take_turn.false),
    )))
    c.loop.invariant.does (rw c.in-Err.is at c.turn.ensures.does)

pub loop-preserved : goal.loop-preserved
loop-preserved g c = record {
  can = tt;
  ends = tt;
  does =
      does_then _ _ _ _ _ _ _ _ _ _ _ (λ _. 1) _
      (λ worker within. subst (λ (t : Option ℕ). completed {F = ServeFault} c.args.turns.now t (Ok (tt {0}))
      ≤ completed {F = ServeFault} c.args.turns.now c.loop.turns (Ok (tt {0})) + 1) (sym c.take_turn.ensures.left)
      (completed_ok ServeFault c.args.turns.now c.loop.turns (tt {0}) (tt {0}) c.loop.invariant.turns
      (sym c.take_turn.ensures.taken ∙ c.if-not-take_turn.false)))
      c.loop.invariant.does (rw c.in_default.is at c.turn.ensures.does);
  turns =
      turns_on c.args.turns.now c.loop.turns c.take_turn.new.turns c.loop.invariant.turns
      (subst (TurnsLeft c.loop.turns) (sym c.take_turn.ensures.left) (turns_taken c.loop.turns));
}
