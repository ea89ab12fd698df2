-- The turns, one after the other.
use Rattle.std.proofs.Common.{◌≤◌, ◌+◌, Option, ℕ, Some, Ok, Err, refl, sym, ap, ◌∙◌, subst}
use Rattle.sockets.specs.Serving.{TurnsLeft, completed}
use Rattle.sockets.specs.declared.faults.ServeFault.{ServeFault}
use Rattle.sockets.proofs.TurnsLeft.{turns_same, turns_on, turns_taken, completed_none, completed_ok, completed_err}
use Rattle.sockets.proofs.Stepping.{serves_none, turns_then, serves_as}
use Rattle.sockets.proofs.serving_replica.serve_replica.Goals as goal

pub loop-init : goal.loop-init
loop-init g c = record {
  can = tt;
  ends = tt;
  pass = c.requires;
  serves = serves_as _ _ _ _ _ _ _ _ _ _ (sym (completed_none ServeFault c.args.turns.now (tt {0}))) (serves_none _ _ _ _ _ _);
  turns = turns_same c.args.turns.now;
  fresh = λ _. (refl, refl);
}

pub returns-in-Ok-Some-clause-serves : goal.returns-in-Ok-Some-clause-serves
returns-in-Ok-Some-clause-serves g c =
    turns_then _ _ _ _ _ _ _ _ _ _ _ 1 _ _
    (subst (λ (t : Option ℕ). completed c.args.turns.now t (Ok (Some c.in-Ok-Some.report))
    ≤ completed {F = ServeFault} c.args.turns.now c.loop.turns (Ok (tt {0})) + 1) (sym c.take_turn.ensures.left)
    (completed_ok ServeFault c.args.turns.now c.loop.turns (Some c.in-Ok-Some.report) (tt {0}) c.loop.invariant.turns
    (sym c.take_turn.ensures.taken ∙ c.if-not-take_turn.false)))
    c.loop.invariant.serves
    (rw (c.in-Ok-Some.is, c.in-Ok-Some.field-0-is) at c.turn.ensures.serves)

pub returns-in-Err-clause-serves : goal.returns-in-Err-clause-serves
returns-in-Err-clause-serves g c =
    turns_then _ _ _ _ _ _ _ _ _ _ _ 0 _ _
    (subst (λ (t : Option ℕ). completed {A = Option _} c.args.turns.now t (Err c.in-Err.fault)
    ≤ completed {F = ServeFault} c.args.turns.now c.loop.turns (Ok (tt {0})) + 0) (sym c.take_turn.ensures.left)
    (completed_err _ c.args.turns.now c.loop.turns c.in-Err.fault (tt {0}) c.loop.invariant.turns
    (sym c.take_turn.ensures.taken ∙ c.if-not-take_turn.false)))
    c.loop.invariant.serves
    (rw c.in-Err.is at c.turn.ensures.serves)

pub loop-preserved : goal.loop-preserved
loop-preserved g c = record {
  can = tt;
  ends = tt;
  pass = c.turn.ensures.same;
  serves =
      turns_then _ _ _ _ _ _ _ _ _ _ _ 1 _ _
      (subst (λ (t : Option ℕ). completed {F = ServeFault} c.args.turns.now t (Ok (tt {0}))
      ≤ completed {F = ServeFault} c.args.turns.now c.loop.turns (Ok (tt {0})) + 1) (sym c.take_turn.ensures.left)
      (completed_ok ServeFault c.args.turns.now c.loop.turns (tt {0}) (tt {0}) c.loop.invariant.turns
      (sym c.take_turn.ensures.taken ∙ c.if-not-take_turn.false)))
      c.loop.invariant.serves
      (rw (c.in-Ok-None.is, c.in-Ok-None.field-0-is) at c.turn.ensures.serves);
  turns =
      turns_on c.args.turns.now c.loop.turns c.take_turn.new.turns c.loop.invariant.turns
      (subst (TurnsLeft c.loop.turns) (sym c.take_turn.ensures.left) (turns_taken c.loop.turns));
  fresh = λ broken.
      let was = c.loop.invariant.fresh broken in
      absurd (cc (c.in-Ok-None.is, c.turn.ensures.told (ap (λ n. n.core.broken) was.0 ∙ broken)));
}
