-- What a round told stands once it has settled.
use Rattle.std.proofs.Common.{◌≡◌, refl, ap, sym, ◌∙◌, subst, arith, ℕ, false, Option, None, Some}
use Rattle.std.proofs.Common.{List, [], ◌∷◌, ◌++◌, length, map, All, append-nil, append_assoc, length-append}
use Rattle.std.specs.List.{AllZip}
use Rattle.std.proofs.lemmas.List.{nil_from_length, length-map}
use Rattle.std.proofs.lemmas.List.Elements.{All-cons}
use Rattle.http.specs.declared.request.Request.{Request}
use Rattle.http_server.specs.declared.response.Response.{Response}
use Rattle.http_server.specs.Exchange.{Call, Chain}
use Rattle.rows.specs.Shape.{Shape}
use Rattle.desk.specs.State.{SeatState}
use Rattle.sockets.specs.declared.job.Job.{Job}
use Rattle.sockets.specs.declared.job_answer.JobAnswer.{JobAnswer}
use Rattle.sockets.specs.Answers.{IsJobAnswer}
use Rattle.sockets.specs.JobSeats.{JobSeatState, HasTaken, GoesOn, IsPending, outcomes, ticket_answer}
use Rattle.service.specs.declared.denial.Denial.{Denial}
use Rattle.service.specs.Denials.{denial_of, AnswersAt, WithDenials}
use Rattle.gateway.specs.Jobs.{DeskState, AnswersJobs, IsSettled, ToldStands, WhatIsToldStands}

-- lists that are related one by one are as long as each other
zip-long : {A B : Type 0} (R : A → B → Type 0) (xs : List A) (ys : List B) → AllZip R xs ys → length xs ≡ length ys
zip-long R [] [] are = refl
zip-long R [] (y ∷ ys) are = absurd are
zip-long R (x ∷ xs) [] are = absurd are
zip-long R (x ∷ xs) (y ∷ ys) are = omega (arith, zip-long R xs ys are.1)

-- and so are their parts of like lengths
zip-front : {A B : Type 0} (R : A → B → Type 0) (xs more : List A) (ys others : List B) → length xs ≡ length ys
    → AllZip R (xs ++ more) (ys ++ others) → AllZip R xs ys
zip-front R [] more [] others same are = tt
zip-front R [] more (y ∷ ys) others same are = absurd (omega (arith, same))
zip-front R (x ∷ xs) more [] others same are = absurd (omega (arith, same))
zip-front R (x ∷ xs) more (y ∷ ys) others same are = (are.0, zip-front R xs more ys others (omega (arith, same)) are.1)

zip-back : {A B : Type 0} (R : A → B → Type 0) (xs more : List A) (ys others : List B) → length xs ≡ length ys
    → AllZip R (xs ++ more) (ys ++ others) → AllZip R more others
zip-back R [] more [] others same are = are
zip-back R [] more (y ∷ ys) others same are = absurd (omega (arith, same))
zip-back R (x ∷ xs) more [] others same are = absurd (omega (arith, same))
zip-back R (x ∷ xs) more (y ∷ ys) others same are = zip-back R xs more ys others (omega (arith, same)) are.1

-- as many jobs were taken as there are answers
taken-long : (workers : ℕ) (shape : Shape) (first : SeatState) (jobs : List Job) (s : JobSeatState)
    → HasTaken workers shape 0 first jobs s → length jobs ≡ length (outcomes s)
taken-long workers shape first jobs s t =
    let whole = ap length t.split in
    let parts = length-append t.done t.waiting in
    let answered = zip-long (IsJobAnswer shape (length first.list) s.seat.list) t.done s.answers t.answered in
    let pending = zip-long (IsPending shape (length first.list) s.seat.list) t.waiting s.pending t.committed in
    let told = length-append s.answers (map ticket_answer s.pending) in
    let tickets = length-map s.pending ticket_answer in omega (arith, whole, parts, answered, pending, told, tickets)

-- once nothing is pending, each job is answered
taken-whole : (workers : ℕ) (shape : Shape) (first : SeatState) (jobs : List Job) (s : JobSeatState)
    → HasTaken workers shape 0 first jobs s → s.pending ≡ []
    → AllZip (IsJobAnswer shape (length first.list) s.seat.list) jobs (outcomes s)
taken-whole workers shape first jobs s t none =
    subst (λ js. AllZip R js (outcomes s)) (sym all) (subst (AllZip R t.done) (sym told) t.answered)
  where
    R : Job → JobAnswer → Type 0
    R = IsJobAnswer shape (length first.list) s.seat.list

    told : outcomes s ≡ s.answers
    told = ap (λ tickets. s.answers ++ map ticket_answer tickets) none ∙ append-nil s.answers

    nobody : t.waiting ≡ []
    nobody = nil_from_length t.waiting
        (zip-long (IsPending shape (length first.list) s.seat.list) t.waiting s.pending t.committed ∙ ap length none)

    all : jobs ≡ t.done
    all = t.split ∙ (ap (λ js. t.done ++ js) nobody ∙ append-nil t.done)

-- one call, whether it is denied or not
pub record Went (workers : ℕ) (shape : Shape) (old new : JobSeatState) : Type 0 where
  pub more : List Job
  pub told : List JobAnswer
  pub goes : GoesOn workers shape 0 more old new
  pub kept : outcomes new ≡ outcomes old ++ told

went-nowhere : (workers : ℕ) (shape : Shape) (s : JobSeatState) → Went workers shape s s
went-nowhere workers shape s = record {
  more = [];
  told = [];
  goes = (λ first jobs t. subst (λ js. HasTaken workers shape 0 first js s) (sym (append-nil jobs)) t);
  kept = sym (append-nil (outcomes s));
}

went-then : (workers : ℕ) (shape : Shape) (old mid new : JobSeatState) → Went workers shape old mid → Went workers shape mid new
    → Went workers shape old new
went-then workers shape old mid new one other = record {
  more = one.more ++ other.more;
  told = one.told ++ other.told;
  goes = (λ first jobs t. subst (λ js. HasTaken workers shape 0 first js new) (append_assoc jobs one.more other.more)
      (other.goes first (jobs ++ one.more) (one.goes first jobs t)));
  kept = other.kept ∙ (ap (λ told. told ++ other.told) one.kept ∙ append_assoc (outcomes old) one.told other.told);
}

went-call : (workers : ℕ) (shape : Shape) (old new : DeskState)
    (request : Request (List ℕ)) (response : Response) (denial : Option Denial)
    → AnswersAt denial (AnswersJobs workers shape) old request response new → new.has_lost ≡ false
    → (old.has_lost ≡ false) × Went workers shape old.job_seat new.job_seat
went-call workers shape old new request response None is kept =
    let called = is kept in
    let takes = called.1.1 in
    (called.0, record { more = takes.jobs; told = called.1.0; goes = takes.goes; kept = takes.kept })
went-call workers shape old new request response (Some denial) is kept = (
  subst (λ s. s.has_lost ≡ false) is.1 kept,
  subst (λ s. Went workers shape old.job_seat s.job_seat) (sym is.1) (went-nowhere workers shape old.job_seat),
)

-- calls, one after the other
went-calls : (workers : ℕ) (shape : Shape) (old new : DeskState)
    (calls : List Call) → Chain (WithDenials (AnswersJobs workers shape)) old calls new → new.has_lost ≡ false
    → (old.has_lost ≡ false) × Went workers shape old.job_seat new.job_seat
went-calls workers shape old new [] is kept = (
  subst (λ s. s.has_lost ≡ false) is kept,
  subst (λ s. Went workers shape old.job_seat s.job_seat) (sym is) (went-nowhere workers shape old.job_seat),
)
went-calls workers shape old new (call ∷ calls) chain kept =
    let next = chain.0 in
    let later = went-calls workers shape next new calls chain.2 kept in
    let one = went-call workers shape old next call.0 call.1 (denial_of call.0) chain.1 later.0 in
    (one.0, went-then workers shape old.job_seat next.job_seat new.job_seat one.1 later.1)

-- a call told what stands, if all that came after it is settled
told-call : (workers : ℕ) (shape : Shape) (first : SeatState)
    (jobs : List Job) (old next : DeskState) (end new : JobSeatState) (request : Request (List ℕ)) (response : Response)
    → HasTaken workers shape 0 first jobs old.job_seat
    → AnswersAt (denial_of request) (AnswersJobs workers shape) old request response next → next.has_lost ≡ false
    → Went workers shape next.job_seat end → IsSettled workers shape end new
    → ToldStands shape (length first.list) new.seat.list (request, response)
told-call workers shape first jobs old next end new request response t is kept later settled = λ free has.
    let called = (subst (λ denial. AnswersAt denial (AnswersJobs workers shape) old request response next) free is) kept in
    let told = called.1.0 in
    let takes = called.1.1 in
    let after = takes.goes first jobs t in
    let last = settled.goes first ((jobs ++ takes.jobs) ++ later.more) (later.goes first (jobs ++ takes.jobs) after) in
    let R = IsJobAnswer shape (length first.list) new.seat.list in
    let seat : settled.done.seat ≡ new.seat = sym (ap (λ (s : JobSeatState). s.seat) settled.anew) in
    let all : outcomes settled.done ≡ (outcomes old.job_seat ++ told) ++ later.told =
    settled.kept ∙ (later.kept ∙ ap (λ front. front ++ later.told) takes.kept) in
    let many = taken-long workers shape first jobs old.job_seat t in
    let more = taken-long workers shape first (jobs ++ takes.jobs) next.job_seat after in
    let both = ap length takes.kept in
    let each : AllZip R ((jobs ++ takes.jobs) ++ later.more) ((outcomes old.job_seat ++ told) ++ later.told) =
    subst (λ told. AllZip R ((jobs ++ takes.jobs) ++ later.more) told) all
    (subst (λ (s : SeatState). AllZip (IsJobAnswer shape (length first.list) s.list) ((jobs ++ takes.jobs) ++ later.more)
    (outcomes settled.done)) seat
    (subst (λ js. AllZip (IsJobAnswer shape (length first.list) settled.done.seat.list) js (outcomes settled.done))
    (append-nil ((jobs ++ takes.jobs) ++ later.more))
    (taken-whole workers shape first (((jobs ++ takes.jobs) ++ later.more) ++ []) settled.done last settled.none))) in (
      told,
      called.1.2 has,
      record {
        jobs = takes.jobs;
        each =
            zip-back R jobs takes.jobs (outcomes old.job_seat) told many
            (zip-front R (jobs ++ takes.jobs) later.more (outcomes old.job_seat ++ told) later.told (more ∙ both) each);
      },
    )

-- all calls did
told-calls : (workers : ℕ) (shape : Shape) (first : SeatState)
    (jobs : List Job) (old called : DeskState) (new : JobSeatState) (calls : List Call) → HasTaken workers shape 0 first jobs old.job_seat
    → Chain (WithDenials (AnswersJobs workers shape)) old calls called → called.has_lost ≡ false
    → IsSettled workers shape called.job_seat new → All (ToldStands shape (length first.list) new.seat.list) calls
told-calls workers shape first jobs old called new [] t chain kept settled =
    λ k d lt. absurd (omega (arith, lt))
told-calls workers shape first jobs old called new (call ∷ calls) t chain kept settled =
    let next = chain.0 in
    let later = went-calls workers shape next called calls chain.2 kept in
    let one = went-call workers shape old next call.0 call.1 (denial_of call.0) chain.1 later.0 in
    All-cons (ToldStands shape (length first.list) new.seat.list) call calls
    (told-call workers shape first jobs old next called.job_seat new call.0 call.1 t chain.1 later.0 later.1 settled)
    (told-calls workers shape first (jobs ++ one.1.more) next called new calls (one.1.goes first jobs t) chain.2 kept
    settled)

-- the law
pub told-stands : WhatIsToldStands
told-stands workers shape old called new calls answers pending legal chain settles =
    let end = settles refl in
    told-calls workers shape old.job_seat.seat [] old called new.job_seat calls (record {
      legal = legal;
      later = ([], append-nil old.job_seat.seat.list);
      done = [];
      waiting = [];
      split = refl;
      answered = subst (AllZip (IsJobAnswer shape (length old.job_seat.seat.list) old.job_seat.seat.list) []) (sym answers) tt;
      committed = subst (AllZip (IsPending shape (length old.job_seat.seat.list) old.job_seat.seat.list) []) (sym pending) tt;
      rising = rw (answers, pending) tt;
      newest = rw (answers, pending) (omega arith);
      share = rw (answers, pending) (omega arith);
      number = refl;
      few = rw pending (omega arith);
    }) chain end.0 end.2
