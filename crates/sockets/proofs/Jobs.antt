-- Answers of jobs: on a longer list, and as one more is added.
use Rattle.std.proofs.Common.{◌≡◌, refl, ap, sym, ◌∙◌, arith, ℕ, ◌+◌, ◌<◌, ◌≤◌, true, false, cond, ◌==◌}
use Rattle.std.proofs.Common.{List, [], ◌∷◌, ◌++◌, length, get_or, take, append-nil}
use Rattle.std.specs.List.{AllZip}
use Rattle.std.proofs.lemmas.List.Elements.{filter-append}
use Rattle.std.proofs.Math.Numerals.{suc-eq-add-one}
use Rattle.std.proofs.Math.Seq.{take-length, take-suc}
use mathlib.Core.List.{IsPrefix}
use Rattle.rows.specs.declared.commit.Commit.{Commit}
use Rattle.rows.specs.Shape.{Shape}
use Rattle.sockets.specs.declared.job.Job.{Job}
use Rattle.sockets.specs.declared.job_answer.JobAnswer.{JobAnswer}
use Rattle.sockets.specs.declared.job_answer.JobAnswer.TheVariants.{Ticket, Conflict, Refused}
use Rattle.sockets.specs.Answers.{IsJobAnswer}
use Rattle.sockets.specs.Work.{jobs_of, ticket_count, last_ticket, IsRising}
use Rattle.sockets.proofs.Beginnings.{commit_at-begun}
use Rattle.sockets.proofs.Drafts.{draft-begun, refused-begun}

pub answer-begun : (shape : Shape) (first from : ℕ) (list all : List Commit) (job : Job) (answer : JobAnswer) → first ≤ from
    → IsPrefix list all → IsJobAnswer shape from list job answer → IsJobAnswer shape first all job answer
answer-begun shape first from list all job (Ticket number) le begins a = record {
  draft = a.draft;
  drafted = draft-begun shape first from list all job.steps.items a.draft le begins a.drafted;
  above = a.above;
  stands = commit_at-begun list all number (record { worker = job.worker; entries = a.draft.entries }) begins a.stands;
}
answer-begun shape first from list all job (Conflict number) le begins a = record {
  draft = a.draft;
  drafted = draft-begun shape first from list all job.steps.items a.draft le begins a.drafted;
  above = a.above;
}
answer-begun shape first from list all job (Refused refusal) le begins a =
    refused-begun shape first from list all job.steps.items refusal le begins a

pub answers-begun : (shape : Shape) (first from : ℕ) (list all : List Commit) (jobs : List Job) (answers : List JobAnswer) → first ≤ from
    → IsPrefix list all → AllZip (IsJobAnswer shape from list) jobs answers → AllZip (IsJobAnswer shape first all) jobs answers
answers-begun shape first from list all [] [] le begins are = tt
answers-begun shape first from list all [] (answer ∷ answers) le begins are = absurd are
answers-begun shape first from list all (job ∷ jobs) [] le begins are = absurd are
answers-begun shape first from list all (job ∷ jobs) (answer ∷ answers) le begins are = (
  answer-begun shape first from list all job answer le begins are.0,
  answers-begun shape first from list all jobs answers le begins are.1,
)

-- a job of the worker is the last of its jobs, and another one is none of them
pub mine-snoc : (number : ℕ) (jobs : List Job) (job : Job) → (job.worker == number) ≡ true
    → jobs_of number (jobs ++ job ∷ []) ≡ jobs_of number jobs ++ job ∷ []
mine-snoc number jobs job is =
    filter-append (λ (j : Job). j.worker == number) jobs (job ∷ []) ∙ ap (λ own. jobs_of number jobs ++ cond own (job ∷ []) []) is

pub others-snoc : (number : ℕ) (jobs : List Job) (job : Job) → (job.worker == number) ≡ false
    → jobs_of number (jobs ++ job ∷ []) ≡ jobs_of number jobs
others-snoc number jobs job is =
    filter-append (λ (j : Job). j.worker == number) jobs (job ∷ [])
    ∙ (ap (λ own. jobs_of number jobs ++ cond own (job ∷ []) []) is ∙ append-nil (jobs_of number jobs))

pub take-all : {A : Type 0} (n : ℕ) (xs : List A) → n ≡ length xs → take n xs ≡ xs
take-all n xs e = ap (λ m. take m xs) e ∙ take-length xs

pub take-more : {A : Type 0} (xs : List A) (i : ℕ) (x : A) → i < length xs → x ≡ get_or xs i x → take (i + 1) xs ≡ take i xs ++ x ∷ []
take-more xs i x lt is = ap (λ n. take n xs) (sym (suc-eq-add-one i)) ∙ (take-suc xs i x lt ∙ ap (λ y. take i xs ++ y ∷ []) (sym is))

-- tickets of two lists of answers, one after the other
pub count-append : (answers more : List JobAnswer) → ticket_count (answers ++ more) ≡ ticket_count answers + ticket_count more
count-append [] more = omega arith
count-append (Ticket number ∷ answers) more = omega (arith, count-append answers more)
count-append (Conflict number ∷ answers) more = count-append answers more
count-append (Refused refusal ∷ answers) more = count-append answers more

pub last-append : (last : ℕ) (answers more : List JobAnswer)
    → last_ticket last (answers ++ more) ≡ last_ticket (last_ticket last answers) more
last-append last [] more = refl
last-append last (Ticket number ∷ answers) more = last-append number answers more
last-append last (Conflict number ∷ answers) more = last-append last answers more
last-append last (Refused refusal ∷ answers) more = last-append last answers more

pub rising-append : (last : ℕ) (answers more : List JobAnswer) → IsRising last answers → IsRising (last_ticket last answers) more
    → IsRising last (answers ++ more)
rising-append last [] more are is = is
rising-append last (Ticket number ∷ answers) more are is = (are.0, rising-append number answers more are.1 is)
rising-append last (Conflict number ∷ answers) more are is = rising-append last answers more are is
rising-append last (Refused refusal ∷ answers) more are is = rising-append last answers more are is

-- the first of them rise, and the last ticket is not below theirs
pub rising-front : (last : ℕ) (answers more : List JobAnswer) → IsRising last (answers ++ more) → IsRising last answers
rising-front last [] more are = tt
rising-front last (Ticket number ∷ answers) more are = (are.0, rising-front number answers more are.1)
rising-front last (Conflict number ∷ answers) more are = rising-front last answers more are
rising-front last (Refused refusal ∷ answers) more are = rising-front last answers more are

last-least : (last : ℕ) (answers : List JobAnswer) → IsRising last answers → last ≤ last_ticket last answers
last-least last [] are = omega arith
last-least last (Ticket number ∷ answers) are = let least = last-least number answers are.1 in omega (arith, are.0, least)
last-least last (Conflict number ∷ answers) are = last-least last answers are
last-least last (Refused refusal ∷ answers) are = last-least last answers are

pub last-front : (last : ℕ) (answers more : List JobAnswer) → IsRising last (answers ++ more)
    → last_ticket last answers ≤ last_ticket last (answers ++ more)
last-front last [] more are = last-least last more are
last-front last (Ticket number ∷ answers) more are = last-front number answers more are.1
last-front last (Conflict number ∷ answers) more are = last-front last answers more are
last-front last (Refused refusal ∷ answers) more are = last-front last answers more are

-- pairs of two lists, and those of two others after them
pub zip-append : {A B : Type 0} (R : A → B → Type 0) (xs more : List A) (ys others : List B) → AllZip R xs ys → AllZip R more others
    → AllZip R (xs ++ more) (ys ++ others)
zip-append R [] more [] others all are = are
zip-append R [] more (y ∷ ys) others all are = absurd all
zip-append R (x ∷ xs) more [] others all are = absurd all
zip-append R (x ∷ xs) more (y ∷ ys) others all are = (all.0, zip-append R xs more ys others all.1 are)

pub zip-long : {A B : Type 0} (R : A → B → Type 0) (xs : List A) (ys : List B) → AllZip R xs ys → length xs ≡ length ys
zip-long R [] [] all = refl
zip-long R [] (y ∷ ys) all = absurd all
zip-long R (x ∷ xs) [] all = absurd all
zip-long R (x ∷ xs) (y ∷ ys) all = omega (arith, zip-long R xs ys all.1)
