-- The answers of a crew, put into the order of the jobs.
use Rattle.std.proofs.Common.{◌≡◌, refl, ap, sym, ◌∙◌, subst, arith, ℕ, zero, suc, ◌+◌, ◌<◌, ◌≤◌}
use Rattle.std.proofs.Common.{Bool, true, false, cond, if◌then◌else◌, ◌==◌, nat_lt, None}
use Rattle.std.proofs.Common.{List, [], ◌∷◌, ◌++◌, length, get_or, take, drop, length-append, append-nil}
use Rattle.std.specs.List.{AllZip, All}
use Rattle.std.proofs.lemmas.Bool.{eqb-true, eqb-false, eq-eqb, ne_eqb, ltb-true, ltb-false}
use Rattle.std.proofs.lemmas.List.{get_or-set_same, get_or-set_other, length-take-le}
use Rattle.std.proofs.lemmas.Grind.{get_or_default_zero}
use Rattle.std.proofs.lemmas.List.Filters.{length-filter_more}
use Rattle.std.proofs.Math.ListN.{set}
use Rattle.std.proofs.Math.Seq.{take-suc}
use mathlib.Core.List.{IsPrefix}
use Rattle.rows.specs.declared.commit.Commit.{Commit}
use Rattle.rows.specs.Shape.{Shape}
use Rattle.sockets.specs.declared.job.Job.{Job}
use Rattle.sockets.specs.declared.job_answer.JobAnswer.{JobAnswer}
use Rattle.sockets.specs.declared.job_answer.JobAnswer.TheVariants.{Ticket, Conflict, Refused}
use Rattle.sockets.specs.Answers.{IsJobAnswer}
use Rattle.sockets.specs.Crews.{EachWorked, EachHasAnswered, FirstHasSeenAll, AreAnswered, first_list}
use Rattle.sockets.specs.Inner.Jobs.{HasMet, EachMet, EachIsDone}
use Rattle.sockets.specs.Work.{HasWorked, IsRising, jobs_of, answers_of}
use Rattle.sockets.specs.Worker.{WorkerState}
use Rattle.sockets.proofs.Beginnings.{prefix_self, prefix_trans, prefix_length}
use Rattle.sockets.proofs.Jobs.{answers-begun, mine-snoc, others-snoc, take-more}
use Rattle.sockets.proofs.Working.{worked-met, all-answered}

pub each-met : (workers : ℕ) (shape : Shape) (jobs : List Job) (old mid new : List WorkerState) → length mid ≡ length old
    → EachWorked workers shape jobs old mid → EachMet workers shape mid new → EachWorked workers shape jobs old new
each-met workers shape jobs old mid new same worked met number any lt =
    worked-met workers shape number jobs (get_or old number any) (get_or mid number any) (get_or new number any)
    (worked number any lt) (met number any (omega (arith, same, lt)))

pub each-done : (workers : ℕ) (shape : Shape) (jobs : List Job) (old new : List WorkerState) → length new ≡ length old
    → EachWorked workers shape jobs old new → All (λ worker. worker.fault ≡ None) new → EachIsDone jobs new
each-done workers shape jobs old new same worked none number any lt =
    (worked number any (omega (arith, same, lt))).whole (none number any lt)

pub each-answers : (workers : ℕ) (shape : Shape) (jobs : List Job) (old new : List WorkerState) (first : List Commit)
    (answers : List JobAnswer) → length new ≡ length old
    → EachWorked workers shape jobs old new → All (λ worker. worker.fault ≡ None) new
    → All (λ worker. IsPrefix first worker.seat.list) old → FirstHasSeenAll new → EachHasAnswered jobs new answers
    → (number : ℕ) → number < length new
    → AllZip (IsJobAnswer shape (length first) (first_list new)) (jobs_of number jobs) (answers_of number jobs answers)
each-answers workers shape jobs [] new first answers same worked none begins seen each number lt = absurd (omega (arith, same, lt))
each-answers workers shape jobs (any ∷ old) new first answers same worked none begins seen each number lt =
    let crew = any ∷ old in
    let below : number < length crew = omega (arith, same, lt) in
    let w = worked number any below in
    subst (AllZip (IsJobAnswer shape (length first) (first_list new)) (jobs_of number jobs)) (sym (each number any lt))
    (answers-begun shape (length first) (length (get_or crew number any).seat.list) (get_or new number any).seat.list (first_list new)
    (jobs_of number jobs) (get_or new number any).answers
    (prefix_length first (get_or crew number any).seat.list (begins number any below)) (seen number any lt)
    (all-answered workers shape number jobs (get_or crew number any) (get_or new number any) w (none number any lt)))

cond-more : {A : Type 0} (own : Bool) (x : A) (all front rest : List A) → all ≡ front ++ rest
    → (if own then x ∷ all else all) ≡ (if own then x ∷ front else front) ++ rest
cond-more true x all front rest e = ap (λ xs. x ∷ xs) e
cond-more false x all front rest e = e

-- the answers of a worker's jobs, with one job more
of-snoc : (number : ℕ) (jobs : List Job) (answers : List JobAnswer) (job : Job) (answer : JobAnswer) → length jobs ≡ length answers
    → answers_of number (jobs ++ job ∷ []) (answers ++ answer ∷ [])
    ≡ answers_of number jobs answers ++ (if job.worker == number then answer ∷ [] else [])
of-snoc number [] [] job answer same = refl
of-snoc number [] (other ∷ answers) job answer same = absurd (omega (arith, same))
of-snoc number (other ∷ jobs) [] job answer same = absurd (omega (arith, same))
of-snoc number (other ∷ jobs) (told ∷ answers) job answer same =
    cond-more (other.worker == number) told (answers_of number (jobs ++ job ∷ []) (answers ++ answer ∷ [])) (answers_of number jobs answers)
    (if job.worker == number then answer ∷ [] else []) (of-snoc number jobs answers job answer (omega (arith, same)))

-- a job stands among those of its worker, behind those before it
pub mine-at : (worker : ℕ) (jobs : List Job) (i : ℕ) (any : Job) → i < length jobs → (get_or jobs i any).worker ≡ worker
    → jobs_of worker jobs ≡ jobs_of worker (take i jobs) ++ get_or jobs i any ∷ jobs_of worker (drop (suc i) jobs)
mine-at worker [] i any lt is = absurd (omega arith)
mine-at worker (job ∷ jobs) zero any lt is =
    ap (λ own. cond own (job ∷ jobs_of worker jobs) (jobs_of worker jobs)) (eq-eqb job.worker worker is)
mine-at worker (job ∷ jobs) (suc i) any lt is =
    cond-more (job.worker == worker) job (jobs_of worker jobs) (jobs_of worker (take i jobs))
    (get_or jobs i any ∷ jobs_of worker (drop (suc i) jobs)) (mine-at worker jobs i any (omega arith) is)

-- so there are fewer before it
pub mine-below : (worker : ℕ) (jobs : List Job) (i : ℕ) (any : Job) → i < length jobs → (get_or jobs i any).worker ≡ worker
    → length (jobs_of worker (take i jobs)) < length (jobs_of worker jobs)
mine-below worker jobs i any lt is =
    let mine = mine-at worker jobs i any lt is in
    let both =
    ap length mine ∙ length-append (jobs_of worker (take i jobs)) (get_or jobs i any ∷ jobs_of worker (drop (suc i) jobs)) in
    omega (arith, both)

-- so the next answer of its worker is there
pub next-within : (jobs : List Job) (crew : List WorkerState) (i : ℕ) (job : Job) (worker : WorkerState) (answers : List JobAnswer)
    (index : ℕ) → i < length jobs → job ≡ get_or jobs i job → EachIsDone jobs crew → job.worker < length crew
    → worker ≡ get_or crew job.worker worker → answers ≡ worker.answers → index ≡ length (jobs_of job.worker (take i jobs))
    → index < length answers
next-within jobs crew i job worker answers index lt is done below there mine at =
    let before = mine-below job.worker jobs i job lt (ap (λ (j : Job). j.worker) (sym is)) in
    let all = ap length mine ∙ (ap (λ (w : WorkerState). length w.answers) there ∙ done job.worker worker below) in
    omega (arith, before, all, at)

pub job-below : (jobs : List Job) (count i : ℕ) (job : Job) → i < length jobs → job ≡ get_or jobs i job
    → All (λ (j : Job). j.worker < count) jobs → job.worker < count
job-below jobs count i job lt is there = subst (λ (j : Job). j.worker < count) (sym is) (there i job lt)

pub index-is : (next : List ℕ) (worker index count : ℕ) → index ≡ get_or next worker index → worker < length next
    → get_or next worker 0 ≡ count → index ≡ count
index-is next worker index count is lt at = is ∙ (get_or_default_zero next worker index lt ∙ at)

-- the next answer of each worker, behind one job more
pub next-after : (next : List ℕ) (jobs : List Job) (i count : ℕ) (job : Job) (index : ℕ) → i < length jobs → job ≡ get_or jobs i job
    → length next ≡ count → job.worker < count → index ≡ length (jobs_of job.worker (take i jobs))
    → ((worker : ℕ) → worker < count → get_or next worker 0 ≡ length (jobs_of worker (take i jobs)))
    → (worker : ℕ) → worker < count
    → get_or (set next job.worker (index + 1)) worker 0 ≡ length (jobs_of worker (take (i + 1) jobs))
next-after next jobs i count job index lt is long there at are worker below =
    by (job.worker == worker) refl
  where
    more : length (jobs_of worker (take (i + 1) jobs)) ≡ length (jobs_of worker (take i jobs)) + cond (job.worker == worker) 1 0
    more =
        length-filter_more (λ (j : Job). j.worker == worker) jobs i job lt
        ∙ ap (λ (j : Job). length (jobs_of worker (take i jobs)) + cond (j.worker == worker) 1 0) (sym is)

    by : (own : Bool) → (job.worker == worker) ≡ own
        → get_or (set next job.worker (index + 1)) worker 0 ≡ length (jobs_of worker (take (i + 1) jobs))
    by true e =
        let same : job.worker ≡ worker = eqb-true job.worker worker e in
        let one = more ∙ ap (λ b. length (jobs_of worker (take i jobs)) + cond b 1 0) e in
        let here = ap (λ v. length (jobs_of v (take i jobs))) same in
        subst (λ v. get_or (set next job.worker (index + 1)) v 0 ≡ length (jobs_of worker (take (i + 1) jobs))) same
        (get_or-set_same next job.worker (index + 1) 0 (omega (arith, long, there)) ∙ omega (arith, at, here, one))
    by false e =
        let none = more ∙ ap (λ b. length (jobs_of worker (take i jobs)) + cond b 1 0) e in
        get_or-set_other next job.worker worker (index + 1) 0 (λ same. absurd (cc (e, eq-eqb job.worker worker (sym same))))
        ∙ (are worker below ∙ omega (arith, none))

get-any : {A : Type 0} (xs : List A) (i : ℕ) (d e : A) → i < length xs → get_or xs i d ≡ get_or xs i e
get-any [] i d e lt = absurd (omega arith)
get-any (x ∷ xs) zero d e lt = refl
get-any (x ∷ xs) (suc i) d e lt = get-any xs i d e (omega arith)

-- one job more is answered by the next answer of its worker
pub answered-more : (jobs : List Job) (crew : List WorkerState) (i : ℕ) (job : Job) (worker : WorkerState) (answers : List JobAnswer)
    (index : ℕ) (none : JobAnswer) → i < length jobs → job ≡ get_or jobs i job → length answers ≡ i → job.worker < length crew
    → worker ≡ get_or crew job.worker worker → index ≡ length (jobs_of job.worker (take i jobs)) → index < length worker.answers
    → ((number : ℕ) (any : WorkerState) → number < length crew
    → answers_of number (take i jobs) answers ≡ take (length (jobs_of number (take i jobs))) (get_or crew number any).answers)
    → (number : ℕ) (any : WorkerState) → number < length crew
    → answers_of number (take (i + 1) jobs) (answers ++ get_or worker.answers index none ∷ [])
    ≡ take (length (jobs_of number (take (i + 1) jobs))) (get_or crew number any).answers
answered-more jobs crew i job worker answers index none lt is long there found at within are number any below =
    by (job.worker == number) refl
  where
    next : JobAnswer
    next = get_or worker.answers index none

    more : answers_of number (take (i + 1) jobs) (answers ++ next ∷ [])
        ≡ answers_of number (take i jobs) answers ++ (if job.worker == number then next ∷ [] else [])
    more =
        ap (λ js. answers_of number js (answers ++ next ∷ [])) (take-more jobs i job lt is)
        ∙ of-snoc number (take i jobs) answers job next (omega (arith, long, length-take-le i jobs (omega arith)))

    by : (own : Bool) → (job.worker == number) ≡ own
        → answers_of number (take (i + 1) jobs) (answers ++ next ∷ [])
        ≡ take (length (jobs_of number (take (i + 1) jobs))) (get_or crew number any).answers
    by true e =
        let same : job.worker ≡ number = eqb-true job.worker number e in
        let mine = ap length (ap (jobs_of number) (take-more jobs i job lt is) ∙ mine-snoc number (take i jobs) job e) in
        let longer = mine ∙ length-append (jobs_of number (take i jobs)) (job ∷ []) in
        let here : length (jobs_of number (take i jobs)) ≡ index = ap (λ v. length (jobs_of v (take i jobs))) (sym same) ∙ sym at in
        let worker-is : get_or crew number any ≡ worker =
        ap (λ v. get_or crew v any) (sym same) ∙ (get-any crew job.worker any worker there ∙ sym found) in
        let count : length (jobs_of number (take (i + 1) jobs)) ≡ suc index = omega (arith, longer, here) in
        more
        ∙ (ap (λ own. answers_of number (take i jobs) answers ++ (if own then next ∷ [] else [])) e
        ∙ (ap (λ front. front ++ next ∷ []) (are number any below)
        ∙ (ap (λ n. take n (get_or crew number any).answers ++ next ∷ []) here
        ∙ (ap (λ (w : WorkerState). take index w.answers ++ next ∷ []) worker-is
        ∙ (sym (take-suc worker.answers index none within)
        ∙ (ap (λ n. take n worker.answers) (sym count)
        ∙ ap (λ (w : WorkerState). take (length (jobs_of number (take (i + 1) jobs))) w.answers) (sym worker-is)))))))
    by false e =
        let others = ap (jobs_of number) (take-more jobs i job lt is) ∙ others-snoc number (take i jobs) job e in
        more
        ∙ (ap (λ own. answers_of number (take i jobs) answers ++ (if own then next ∷ [] else [])) e
        ∙ (append-nil (answers_of number (take i jobs) answers)
        ∙ (are number any below ∙ ap (λ js. take (length js) (get_or crew number any).answers) (sym others))))

-- two meetings, one after the other
pub met-trans : (workers : ℕ) (shape : Shape) (old mid new : WorkerState) → HasMet workers shape old mid → HasMet workers shape mid new
    → HasMet workers shape old new
met-trans workers shape old mid new p q = record {
  legal = q.legal;
  later = prefix_trans old.seat.list mid.seat.list new.seat.list p.later q.later;
  same = q.same ∙ ap (λ (w : WorkerState). record w { seat = record w.seat { list = new.seat.list } }) p.same;
}

-- one worker more of a crew has met the first
pub met-more : (workers : ℕ) (shape : Shape) (old now : List WorkerState) (i : ℕ) (item next : WorkerState) → i < length now
    → ((number : ℕ) (any : WorkerState) → i ≤ number → get_or now number any ≡ get_or old number any)
    → ((number : ℕ) (any : WorkerState) → number < i → HasMet workers shape (get_or old number any) (get_or now number any))
    → HasMet workers shape (get_or now i item) next
    → (number : ℕ) (any : WorkerState) → number < i + 1
    → HasMet workers shape (get_or old number any) (get_or (set now i next) number any)
met-more workers shape old now i item next lt left met last number any below = by (number == i) refl
  where
    by : (here : Bool) → (number == i) ≡ here → HasMet workers shape (get_or old number any) (get_or (set now i next) number any)
    by true e =
        let same : number ≡ i = eqb-true number i e in
        let first = get-any now i item any lt ∙ left i any (omega arith) in
        rw same (
        subst (HasMet workers shape (get_or old i any)) (sym (get_or-set_same now i next any lt))
        (subst (λ (w : WorkerState). HasMet workers shape w next) first last)
        )
    by false e =
        let other = eqb-false number i e in
        subst (HasMet workers shape (get_or old number any)) (sym (get_or-set_other now i number next any other))
        (met number any (omega (arith, other, below)))

pub seen-more : (now : List WorkerState) (i : ℕ) (next mid new : WorkerState) → i < length now
    → ((number : ℕ) (any : WorkerState) → number < i → IsPrefix (get_or now number any).seat.list mid.seat.list)
    → IsPrefix mid.seat.list new.seat.list → new.seat.list ≡ next.seat.list
    → (number : ℕ) (any : WorkerState) → number < i + 1 → IsPrefix (get_or (set now i next) number any).seat.list new.seat.list
seen-more now i next mid new lt seen later one number any below = by (number == i) refl
  where
    by : (here : Bool) → (number == i) ≡ here → IsPrefix (get_or (set now i next) number any).seat.list new.seat.list
    by true e =
        let same : number ≡ i = eqb-true number i e in
        rw same (
        subst (λ (w : WorkerState). IsPrefix w.seat.list new.seat.list) (sym (get_or-set_same now i next any lt))
        (subst (λ (list : List Commit). IsPrefix list new.seat.list) one (prefix_self new.seat.list))
        )
    by false e =
        let other = eqb-false number i e in
        subst (λ (w : WorkerState). IsPrefix w.seat.list new.seat.list) (sym (get_or-set_other now i number next any other))
        (prefix_trans (get_or now number any).seat.list mid.seat.list new.seat.list (seen number any (omega (arith, other, below))) later)

pub left-more : (old now : List WorkerState) (i : ℕ) (next : WorkerState)
    → ((number : ℕ) (any : WorkerState) → i ≤ number → get_or now number any ≡ get_or old number any)
    → (number : ℕ) (any : WorkerState) → i + 1 ≤ number → get_or (set now i next) number any ≡ get_or old number any
left-more old now i next left number any le =
    get_or-set_other now i number next any (λ same. absurd (omega (arith, same, le))) ∙ left number any (omega (arith, le))

-- a first worker that has seen all the others have is in front of them
pub seen-all : (front others : List WorkerState) (first : WorkerState) → length front ≡ 1
    → All (λ (worker : WorkerState). IsPrefix worker.seat.list first.seat.list) others → FirstHasSeenAll (set front 0 first ++ others)
seen-all [] others first one seen = absurd (omega (arith, one))
seen-all (worker ∷ []) others first one seen = by
  where
    by : FirstHasSeenAll (first ∷ others)
    by zero any lt = prefix_self first.seat.list
    by (suc k) any lt = seen k any (omega arith)
seen-all (worker ∷ other ∷ rest) others first one seen = absurd (omega (arith, one))

both-true : {A B : Type 0} (R : A → B → Type 0) (own : Bool) (x : A) (y : B) (xs : List A) (ys : List B) → own ≡ true
    → AllZip R (if own then x ∷ xs else xs) (if own then y ∷ ys else ys) → R x y
both-true R true x y xs ys e all = all.0
both-true R false x y xs ys e all = absurd (cc e)

both-rest : {A B : Type 0} (R : A → B → Type 0) (own : Bool) (x : A) (y : B) (xs : List A) (ys : List B)
    → AllZip R (if own then x ∷ xs else xs) (if own then y ∷ ys else ys) → AllZip R xs ys
both-rest R true x y xs ys all = all.1
both-rest R false x y xs ys all = all

-- where the jobs of each worker are answered, all are
zip-all : (R : Job → JobAnswer → Type 0) (count : ℕ) (jobs : List Job) (answers : List JobAnswer) → length answers ≡ length jobs
    → All (λ (job : Job). job.worker < count) jobs
    → ((number : ℕ) → number < count → AllZip R (jobs_of number jobs) (answers_of number jobs answers)) → AllZip R jobs answers
zip-all R count [] [] same there each = tt
zip-all R count [] (answer ∷ answers) same there each = absurd (omega (arith, same))
zip-all R count (job ∷ jobs) [] same there each = absurd (omega (arith, same))
zip-all R count (job ∷ jobs) (answer ∷ answers) same there each = (
  both-true R (job.worker == job.worker) job answer (jobs_of job.worker jobs) (answers_of job.worker jobs answers)
      (eq-eqb job.worker job.worker refl) (each job.worker (there 0 job (omega arith))),
  zip-all R count jobs answers (omega (arith, same)) (λ k any lt. there (suc k) any (omega arith))
      (λ number lt. both-rest R (job.worker == number) job answer (jobs_of number jobs) (answers_of number jobs answers) (each number lt)),
)

-- a number that no job has has no answers
of-none : (number count : ℕ) (jobs : List Job) (answers : List JobAnswer) → All (λ (job : Job). job.worker < count) jobs
    → count ≤ number → answers_of number jobs answers ≡ []
of-none number count [] answers there le = refl
of-none number count (job ∷ jobs) [] there le = refl
of-none number count (job ∷ jobs) (answer ∷ answers) there le =
    ap (λ own. if own then answer ∷ answers_of number jobs answers else answers_of number jobs answers)
    (ne_eqb job.worker number (λ same. absurd (let lt = there 0 job (omega arith) in omega (arith, same, lt, le))))
    ∙ of-none number count jobs answers (λ k any lt. there (suc k) any (omega arith)) le

-- tickets that rise from a number rise from a smaller one
rising-below : (least last : ℕ) (answers : List JobAnswer) → least ≤ last → IsRising last answers → IsRising least answers
rising-below least last [] le are = tt
rising-below least last (Ticket number ∷ answers) le are = (omega (arith, le, are.0), are.1)
rising-below least last (Conflict number ∷ answers) le are = rising-below least last answers le are
rising-below least last (Refused refusal ∷ answers) le are = rising-below least last answers le are

pub each-rises : (workers : ℕ) (shape : Shape) (jobs : List Job) (old new : List WorkerState) (answers : List JobAnswer)
    → length new ≡ length old → EachWorked workers shape jobs old new → All (λ (job : Job). job.worker < length old) jobs
    → EachHasAnswered jobs new answers → (any : WorkerState) (number : ℕ) → IsRising 0 (answers_of number jobs answers)
each-rises workers shape jobs old new answers same worked there each any number =
    by (nat_lt number (length old)) refl
  where
    by : (within : Bool) → nat_lt number (length old) ≡ within → IsRising 0 (answers_of number jobs answers)
    by false e =
        let le = ltb-false number (length old) e in
        subst (IsRising 0) (sym (of-none number (length old) jobs answers there le)) tt
    by true e =
        let lt = ltb-true number (length old) e in
        subst (IsRising 0) (sym (each number any (omega (arith, same, lt))))
        (rising-below 0 (get_or old number any).seat.last (get_or new number any).answers (omega arith) (worked number any lt).rising)

-- what all jobs were answered, by the list of the first worker
pub crew-answered : (workers : ℕ) (shape : Shape) (jobs : List Job) (old new : List WorkerState) (first : List Commit)
    (answers : List JobAnswer) → length new ≡ length old → EachWorked workers shape jobs old new
    → All (λ (worker : WorkerState). worker.fault ≡ None) new → FirstHasSeenAll new
    → All (λ (job : Job). job.worker < length old) jobs → length answers ≡ length jobs → EachHasAnswered jobs new answers
    → All (λ (worker : WorkerState). IsPrefix first worker.seat.list) old → 0 < length old
    → AreAnswered workers shape first (first_list new) jobs answers
crew-answered workers shape jobs [] new first answers same worked none seen there long each begins some = absurd (omega (arith, some))
crew-answered workers shape jobs (before ∷ old) [] first answers same worked none seen there long each begins some =
    absurd (omega (arith, same))
crew-answered workers shape jobs (before ∷ old) (after ∷ new) first answers same worked none seen there long each begins some =
    let w : HasWorked workers shape 0 jobs before after = worked 0 before (omega arith) in
    record {
      legal = w.legal;
      later = prefix_trans first before.seat.list after.seat.list (begins 0 before (omega arith)) w.later;
      answered =
          zip-all (IsJobAnswer shape (length first) after.seat.list) (length (before ∷ old)) jobs answers long there
          (λ number lt. each-answers workers shape jobs (before ∷ old) (after ∷ new) first answers same worked none begins seen each number
          (omega (arith, same, lt)));
      rising = each-rises workers shape jobs (before ∷ old) (after ∷ new) answers same worked there each before;
    }
