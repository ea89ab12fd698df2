-- Each event is one step more of the run so far.
use Rattle.std.proofs.Common.{◌≡◌, ◌+◌, ◌≤◌, ℕ, List, [], ◌∷◌, ◌++◌, length, take, refl, sym, ap, subst, ◌∙◌, rules, arith}
use Rattle.std.specs.List.{AllByRecursion}
use Rattle.std.proofs.lemmas.List.{take_more, take_all}
use Rattle.std.proofs.lemmas.Option.{slice_get_read}
use Rattle.rows.specs.Limits.{replicas_max}
use Rattle.script.specs.Events.{IsPossible}
use Rattle.script.specs.declared.event.Event.{Event}
use Rattle.world.specs.Cores.{Cores}
use Rattle.world.proofs.Continuing.{RunsSoFar, none_yet, one_more, keeps_promises}
use Rattle.world.proofs.Slots.{all_at}
use Rattle.world.proofs.Starting.{as_many}
use Rattle.world.proofs.simulator.step_through.Goals as goal

pub loop-event-init : goal.loop-event-init
loop-event-init g c = record {
  schema = refl;
  workers = refl;
  replicas = refl;
  so_far = λ opening is. rw (c.requires.none, is) (none_yet opening);
}

pub loop-event-preserved : goal.loop-event-preserved
loop-event-preserved g c =
    let done = c.step-output.ensures in
    let event = c.event-item.result in
    let output = c.step-output.result in
    let before = take c.loop-event.event-index c.args.events.now in
    let events : before ++ event ∷ [] ≡ take (c.loop-event.event-index + 1) c.args.events.now =
    ap (λ (e : Event). before ++ e ∷ []) c.event-item.is
    ∙ sym (take_more c.args.events.now c.loop-event.event-index event c.loop-event-test.true) in
    record {
      schema = cc;
      workers = cc;
      replicas = cc;
      so_far = λ opening is.
          let next =
          one_more opening before c.loop-event.outputs.items
          (record { old = c.loop-event.world; event = event; output = output; new = c.step-output.new.self })
          (c.loop-event.invariant.so_far opening is)
          (done.happens, done.fed, done.journal, done.leaves) in
          rw c.in_ok-push.ensures.items
          (subst (λ (l : List Event). RunsSoFar opening l (c.loop-event.outputs.items ++ output ∷ []) c.step-output.new.self) events next);
    }

pub step-output-requires : goal.step-output-requires
step-output-requires g c =
    let at = slice_get_read c.args.events.now _ c.loop-event.event-index c.event-item.result refl c.loop-event-test.true
    c.event-item.is in (
      search rules,
      rw (c.loop-event.invariant.workers, c.loop-event.invariant.replicas)
          (all_at (IsPossible c.args.world.now.primary.workers (length c.args.world.now.replicas)) c.args.events.now
          c.loop-event.event-index c.event-item.result at c.requires.possible),
    )

pub returns : goal.returns
returns g c opening is numbered =
    let todo = c.args.events.now in
    let done = c.loop-event.outputs.items in
    let end = c.loop-event.world in
    let few : opening.setup.replicas ≤ replicas_max =
    omega (arith, c.requires.replicas, ap (λ (p : Cores). length p.replicas) is, as_many opening) in
    let possible =
    subst (λ (n : ℕ). AllByRecursion (IsPossible opening.setup.workers n) todo) (as_many opening)
    (subst (λ (p : Cores). AllByRecursion (IsPossible p.primary.workers (length p.replicas)) todo) is c.requires.possible) in
    let schema = c.loop-event.invariant.schema ∙ ap (λ (p : Cores). p.primary.schema) is in
    let workers = c.loop-event.invariant.workers ∙ ap (λ (p : Cores). p.primary.workers) is in
    keeps_promises c.steps_are_told.ensures opening todo done end numbered few possible (rw (← schema, ← workers) c.keeps_legal.ensures)
    (subst (λ (l : List Event). RunsSoFar opening l done end) (take_all c.loop-event.event-index todo c.loop-event-test.false)
    (c.loop-event.invariant.so_far opening is))
