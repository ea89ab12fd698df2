-- What of a crew's answers is told.
use Rattle.std.proofs.Common.{◌≡◌, refl, sym, subst, arith, ℕ, ◌<◌, ◌⊎◌, inl, inr, List, [], ◌∷◌, length, take, get_or, All}
use Rattle.std.proofs.Common.{Result, Ok, Err, OnOk}
use Rattle.std.specs.List.{AllZip}
use mathlib.Core.List.{IsPrefix}
use Rattle.rows.specs.Shape.{Shape}
use Rattle.sockets.specs.declared.job.Job.{Job}
use Rattle.sockets.specs.declared.job_answer.JobAnswer.{JobAnswer}
use Rattle.sockets.specs.Answers.{IsJobAnswer}
use Rattle.sockets.specs.Crews.{EachWorked, first_list}
use Rattle.sockets.specs.Work.{jobs_of}
use Rattle.sockets.specs.Worker.{WorkerState}
use Rattle.nodes.specs.Inner.Crews.{AreFirst}
use Rattle.nodes.proofs.Choosing.{answers-zero}

-- what is said where a call succeeds, said otherwise
pub ok-on : {A E P Q : Type 0} (result : Result A E) → (P → Q) → OnOk result P → OnOk result Q
ok-on (Ok x) f is = f is
ok-on (Err e) f is = tt

-- nothing is a beginning of each list
pub all-begin : (crew : List WorkerState) → All (λ (worker : WorkerState). IsPrefix [] worker.seat.list) crew
all-begin crew k any lt = ((get_or crew k any).seat.list, refl)

-- workers that have answered nothing
none-told : (shape : Shape) (jobs : List Job) (crew : List WorkerState) → All (λ (worker : WorkerState). worker.answers ≡ []) crew
    → AreFirst shape jobs crew
none-told shape jobs crew none number any lt =
    subst (λ answers. AllZip (IsJobAnswer shape 0 (get_or crew number any).seat.list) (take (length answers) (jobs_of number jobs)) answers)
    (sym (none number any lt)) tt

each-first : (workers : ℕ) (shape : Shape) (jobs : List Job) (old new : List WorkerState) → length new ≡ length old
    → EachWorked workers shape jobs old new → AreFirst shape jobs new
each-first workers shape jobs old new same worked number any lt =
    let w = worked number any (omega (arith, same, lt)) in
    answers-zero shape (length (get_or old number any).seat.list) (get_or new number any).seat.list
    (take (length (get_or new number any).answers) (jobs_of number jobs)) (get_or new number any).answers w.answered

-- what each worker has answered, whether the crew worked or not
pub answered-first : {A : Type 0} (workers : ℕ) (shape : Shape) (jobs : List Job) (old new : List WorkerState) → length new ≡ length old
    → All (λ (worker : WorkerState). worker.answers ≡ []) old → (A × (new ≡ old)) ⊎ EachWorked workers shape jobs old new
    → AreFirst shape jobs new
answered-first workers shape jobs old new same none (inl both) =
    subst (AreFirst shape jobs) (sym both.1) (none-told shape jobs old none)
answered-first workers shape jobs old new same none (inr worked) = each-first workers shape jobs old new same worked

-- the first worker's list
pub by-first : (shape : Shape) (jobs : List Job) (crew : List WorkerState) (any : WorkerState) (answers : List JobAnswer) → 0 < length crew
    → AllZip (IsJobAnswer shape 0 (first_list crew)) jobs answers
    → AllZip (IsJobAnswer shape 0 (get_or crew 0 any).seat.list) jobs answers
by-first shape jobs [] any answers lt are = absurd (omega (arith, lt))
by-first shape jobs (worker ∷ crew) any answers lt are = are
