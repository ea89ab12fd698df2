-- Each seat is new, and has seen what was durable when the line was made.
use Rattle.std.proofs.Common.{◌≡◌, sym, subst, arith, ◌<◌, List, length, Result, Ok, Err, IfOk}
use Rattle.std.specs.List.{All}
use mathlib.Core.List.{IsPrefix}
use Rattle.rows.specs.declared.commit.Commit.{Commit}
use Rattle.sockets.specs.Crews.{first_list}
use Rattle.sockets.specs.Worker.{WorkerState}
use Rattle.sockets.proofs.Beginnings.{prefix_self}
use Rattle.sockets.proofs.crew.run_workers.Goals as goal

-- what is said of an answer, said otherwise
ok-map : {A E : Type 0} (P Q : A → Type 0) (result : Result A E) → ((x : A) → P x → Q x) → IfOk result P → IfOk result Q
ok-map P Q (Ok x) on is = on x is
ok-map P Q (Err e) on is = tt

new-begins : (first : List Commit) (crew : List WorkerState) → All (λ (worker : WorkerState). worker.seat.list ≡ first) crew
    → All (λ (worker : WorkerState). IsPrefix first worker.seat.list) crew
new-begins first crew new k any lt = subst (λ (list : List Commit). IsPrefix first list) (sym (new k any lt)) (prefix_self first)

pub returns : goal.returns
returns g c =
    let first = g.L.Origin.first.durable in
    let begins =
    subst (All (λ (worker : WorkerState). IsPrefix first worker.seat.list)) (sym c.deref_mut.ensures.value)
    (new-begins first c.in_ok-crew.crew.items c.in_ok-crew.ensures.new) in
    let some : 0 < length c.deref_mut.result.now =
    omega (arith, c.deref_mut.ensures.len, c.in_ok-crew.ensures.count, c.requires.some) in
    ok-map _ _ c.run_crew.result (λ answers is. (first_list c.run_crew.new.crew, is first begins some)) c.run_crew.ensures.answered
