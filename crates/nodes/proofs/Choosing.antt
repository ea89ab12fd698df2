-- The jobs of one worker, and its answers, one after the other.
use Rattle.std.proofs.Common.{◌≡◌, refl, ap, sym, ◌∙◌, subst, arith, ℕ, zero, suc, ◌+◌, ◌<◌, ◌==◌, if◌then◌else◌, true}
use Rattle.std.proofs.Common.{List, [], ◌∷◌, length, take, drop, drop-cons, get_or, All}
use Rattle.std.specs.List.{AllZip}
use Rattle.std.proofs.lemmas.List.{get_or-take}
use Rattle.std.proofs.lemmas.Bool.{eq-eqb, ne_eqb}
use Rattle.std.proofs.Math.Numerals.{suc-eq-add-one}
use Rattle.rows.specs.declared.commit.Commit.{Commit}
use Rattle.rows.specs.Shape.{Shape}
use Rattle.mvcc.specs.Transaction.{Transaction}
use Rattle.sockets.specs.declared.job.Job.{Job}
use Rattle.sockets.specs.declared.job_answer.JobAnswer.{JobAnswer}
use Rattle.sockets.specs.declared.job_answer.JobAnswer.TheVariants.{Ticket, Conflict, Refused}
use Rattle.sockets.specs.declared.refusal.Refusal.{Refusal}
use Rattle.sockets.specs.declared.refusal.Refusal.TheVariants as refusals
use Rattle.sockets.specs.declared.step.Step.{Step}
use Rattle.sockets.specs.Answers.{IsDraft, IsJobAnswer, IsRefused}
use Rattle.sockets.specs.Work.{jobs_of}

-- the answers that are left are those of the first jobs of the worker that are left
abbrev pub Left : (Job → JobAnswer → Type 0) → ℕ → List Job → List JobAnswer → ℕ → ℕ → Type 0
Left R number jobs answers index place =
    AllZip R (take (length (drop place answers)) (jobs_of number (drop index jobs))) (drop place answers)

-- two lists that go in pairs have one length
pub zip-long : {A B : Type 0} (R : A → B → Type 0) (xs : List A) (ys : List B) → AllZip R xs ys → length xs ≡ length ys
zip-long R [] [] all = refl
zip-long R [] (y ∷ ys) all = absurd all
zip-long R (x ∷ xs) [] all = absurd all
zip-long R (x ∷ xs) (y ∷ ys) all = omega (arith, zip-long R xs ys all.1)

-- the pair at a place
pub zip-at : {A B : Type 0} (R : A → B → Type 0) (xs : List A) (ys : List B) (i : ℕ) (x : A) (d : B) → AllZip R xs ys → i < length ys
    → x ≡ get_or xs i x → R x (get_or ys i d)
zip-at R [] [] i x d all lt at = absurd (omega (arith, lt))
zip-at R [] (b ∷ ys) i x d all lt at = absurd all
zip-at R (a ∷ xs) [] i x d all lt at = absurd all
zip-at R (a ∷ xs) (b ∷ ys) zero x d all lt at = subst (λ v. R v b) (sym at) all.0
zip-at R (a ∷ xs) (b ∷ ys) (suc i) x d all lt at = zip-at R xs ys i x d all.1 (omega (arith, lt)) at

-- the same of a front of the first list
pub front-at : {A B : Type 0} (R : A → B → Type 0) (xs : List A) (ys : List B) (i : ℕ) (x : A) (d : B)
    → AllZip R (take (length ys) xs) ys → i < length ys → x ≡ get_or xs i x → R x (get_or ys i d)
front-at R xs ys i x d all lt at =
    zip-at R (take (length ys) xs) ys i x d all lt (at ∙ sym (get_or-take (length ys) xs i x lt))

next-at : {A : Type 0} (xs : List A) (i : ℕ) (x : A) → i < length xs → x ≡ get_or xs i x → drop i xs ≡ x ∷ drop (i + 1) xs
next-at xs i x lt is =
    drop-cons xs i x lt ∙ (ap (λ found. found ∷ drop (suc i) xs) (sym is) ∙ ap (λ n. x ∷ drop n xs) (suc-eq-add-one i))

next-of : {A : Type 0} (xs : List A) (i : ℕ) (d : A) → i < length xs → drop i xs ≡ get_or xs i d ∷ drop (i + 1) xs
next-of xs i d lt = drop-cons xs i d lt ∙ ap (λ n. get_or xs i d ∷ drop n xs) (suc-eq-add-one i)

own-head : (R : Job → JobAnswer → Type 0) (number : ℕ) (job : Job) (rest : List Job) (answer : JobAnswer) (left : List JobAnswer)
    → (job.worker == number) ≡ true → AllZip R (take (length (answer ∷ left)) (jobs_of number (job ∷ rest))) (answer ∷ left)
    → R job answer × AllZip R (take (length left) (jobs_of number rest)) left
own-head R number job rest answer left own all =
    subst (λ b. AllZip R (take (suc (length left)) (if b then job ∷ jobs_of number rest else jobs_of number rest)) (answer ∷ left)) own all

-- a job of the worker has the next answer, and what is left goes on behind both
pub own : (R : Job → JobAnswer → Type 0) (number : ℕ) (jobs : List Job) (answers : List JobAnswer) (index place : ℕ) (job : Job)
    (d : JobAnswer) → index < length jobs → place < length answers → job ≡ get_or jobs index job → job.worker ≡ number
    → Left R number jobs answers index place
    → R job (get_or answers place d) × Left R number jobs answers (index + 1) (place + 1)
own R number jobs answers index place job d lt lt' at mine left =
    let answer = get_or answers place d in
    own-head R number job (drop (index + 1) jobs) answer (drop (place + 1) answers) (eq-eqb job.worker number mine)
    (subst (λ js. AllZip R (take (length (answer ∷ drop (place + 1) answers)) (jobs_of number js)) (answer ∷ drop (place + 1) answers))
    (next-at jobs index job lt at)
    (subst (λ ends. AllZip R (take (length ends) (jobs_of number (drop index jobs))) ends) (next-of answers place d lt') left))

-- another job is passed over
pub other : (R : Job → JobAnswer → Type 0) (number : ℕ) (jobs : List Job) (answers : List JobAnswer) (index place : ℕ) (job : Job)
    → index < length jobs → job ≡ get_or jobs index job → ¬ (job.worker ≡ number) → Left R number jobs answers index place
    → Left R number jobs answers (index + 1) place
other R number jobs answers index place job lt at others left =
    subst (λ b. AllZip R (take (length (drop place answers)) (if b then job ∷ jobs_of number (drop (index + 1) jobs)
    else jobs_of number (drop (index + 1) jobs))) (drop place answers)) (ne_eqb job.worker number others)
    (subst (λ js. AllZip R (take (length (drop place answers)) (jobs_of number js)) (drop place answers))
    (next-at jobs index job lt at) left)

-- jobs that are all of one worker are its jobs
pub all-of : (number : ℕ) (jobs : List Job) → All (λ job. job.worker ≡ number) jobs → jobs_of number jobs ≡ jobs
all-of number [] are = refl
all-of number (job ∷ jobs) are =
    ap (λ b. if b then job ∷ jobs_of number jobs else jobs_of number jobs) (eq-eqb job.worker number (are 0 job (omega arith)))
    ∙ ap (λ js. job ∷ js) (all-of number jobs (λ k d lt. are (suc k) d (omega (arith, lt))))

-- an answer that holds from a version on holds from the first
draft-zero : (shape : Shape) (from : ℕ) (list : List Commit) (steps : List Step) (draft : Transaction) → IsDraft shape from list steps draft
    → IsDraft shape 0 list steps draft
draft-zero shape from list steps draft d = record { begun = omega arith; within = d.within; made = d.made }

refused-zero : (shape : Shape) (from : ℕ) (list : List Commit) (steps : List Step) (refusal : Refusal)
    → IsRefused shape from list steps refusal → IsRefused shape 0 list steps refusal
refused-zero shape from list steps (refusals.Change step fault) r =
    record { version = r.version; begun = omega arith; within = r.within; refused = r.refused }
refused-zero shape from list steps (refusals.Condition step) r =
    record { version = r.version; begun = omega arith; within = r.within; refused = r.refused }
refused-zero shape from list steps refusals.NoChange r = (r.0, draft-zero shape from list steps r.0 r.1, r.2)
refused-zero shape from list steps refusals.Unread r = tt
refused-zero shape from list steps refusals.NumbersUsedUp r = (r.0, draft-zero shape from list steps r.0 r.1)
refused-zero shape from list steps refusals.Foreign r = (r.0, draft-zero shape from list steps r.0 r.1, r.2)

answer-zero : (shape : Shape) (from : ℕ) (list : List Commit) (job : Job) (answer : JobAnswer) → IsJobAnswer shape from list job answer
    → IsJobAnswer shape 0 list job answer
answer-zero shape from list job (Ticket number) a = record {
  draft = a.draft;
  drafted = draft-zero shape from list job.steps.items a.draft a.drafted;
  above = a.above;
  stands = a.stands;
}
answer-zero shape from list job (Conflict number) a = record {
  draft = a.draft;
  drafted = draft-zero shape from list job.steps.items a.draft a.drafted;
  above = a.above;
}
answer-zero shape from list job (Refused refusal) a = refused-zero shape from list job.steps.items refusal a

pub answers-zero : (shape : Shape) (from : ℕ) (list : List Commit) (jobs : List Job) (answers : List JobAnswer)
    → AllZip (IsJobAnswer shape from list) jobs answers → AllZip (IsJobAnswer shape 0 list) jobs answers
answers-zero shape from list [] [] are = tt
answers-zero shape from list [] (answer ∷ answers) are = absurd are
answers-zero shape from list (job ∷ jobs) [] are = absurd are
answers-zero shape from list (job ∷ jobs) (answer ∷ answers) are =
    (answer-zero shape from list job answer are.0, answers-zero shape from list jobs answers are.1)
